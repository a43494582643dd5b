use Rattle.std.proofs.Common.{ap, ◌++◌, ◌∙◌}
use Rattle.wave_out.proofs.TextLaws.{line_more}
use Rattle.run_report.specs.Report.{unmatched_line}
use Rattle.run_report.specs.Reporting.{unmatched_seen}
use Rattle.run_report.proofs.ReachedLines.{entry_seen}
use Rattle.run_report.proofs.unmatched.push_unmatched.Goals as goal

pub loop-entry-preserved : goal.loop-entry-preserved
loop-entry-preserved c = record {
  text =
      line_more unmatched_line (unmatched_seen c.args.sdf.now) c.args.text.now.items c.loop-entry.text.items c.push_entry.new.text.items c.args.unmatched.now c.loop-entry.entry-index c.entry-item.result
      c.loop-entry-test.true c.entry-item.is c.loop-entry.invariant.text
      (c.in_ok-push_entry.ensures ∙ ap (λ u. c.loop-entry.text.items ++ unmatched_line u) (entry_seen c.args.sdf.now c.entry-item.result _ c.reach-reached.ensures.line));
  reached = c.reach-reached.ensures.reached;
}
