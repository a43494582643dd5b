-- Where a line doesn't come, or something stands behind the last.
use Rattle.std.proofs.Common.{◌∙◌, subst, sym, zero}
use Rattle.sim_save.specs.Steps.{Stops, Udps}
use Rattle.sim_save.proofs.SectionLaws.{counters_end, end_ends, not_empty, nothing_ends}
use Rattle.sim_save.proofs.sections.read_ending.Goals as goal

pub returns-in_default-clause-stops : goal.returns-in_default-clause-stops
returns-in_default-clause-stops c = subst (Stops (Udps zero zero) c.args.text.now) (sym c.stop_at.ensures) (counters_end c.args.text.now c.in_default.ensures)

pub returns-in_default-take_end-clause-stops : goal.returns-in_default-take_end-clause-stops
returns-in_default-take_end-clause-stops c =
    subst (Stops (Udps zero zero) c.args.text.now) (sym c.stop_at-in_default-take_end.ensures)
    (end_ends c.in-Some.last c.in-Some.evaluations c.args.text.now c.in-Some.at_end.now c.in-Some.ensures c.in_default-take_end.ensures)

pub returns-then-not-is_empty-clause-stops : goal.returns-then-not-is_empty-clause-stops
returns-then-not-is_empty-clause-stops c =
    subst (Stops (Udps zero zero) c.args.text.now) (sym c.stop_at-then-not-is_empty.ensures)
    (nothing_ends c.in-Some.last c.in-Some.evaluations c.args.text.now c.in-Some.at_end.now c.in-Some-take_end.behind.now c.in-Some.ensures c.in-Some-take_end.ensures
    (not_empty c.in-Some-take_end.behind.now (sym c.is_empty.ensures ∙ c.if-not-is_empty.true)))
