use Rattle.run_report.proofs.ReachedLines.{is_reached, line_of_byte}
use Rattle.run_report.proofs.unmatched.reach.Goals as goal

pub returns-clause-reached : goal.returns-clause-reached
returns-clause-reached c =
    is_reached c.args.sdf.now c.start_for-start.result c.args.byte c.bytes_before-end.result c.breaks_in-breaks.result (c.start_for-start.ensures.reached c.args.sdf.now c.requires)
    c.bytes_before-end.ensures c.start_for-start.ensures.before c.breaks_in-breaks.ensures.count

pub returns-clause-line : goal.returns-clause-line
returns-clause-line c = line_of_byte c.args.sdf.now c.args.byte _ (returns-clause-reached c) c.bytes_before-end.ensures
