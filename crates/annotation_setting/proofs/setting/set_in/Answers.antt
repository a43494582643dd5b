-- The timings and the limits are set, and what was found of delays.
use Rattle.std.proofs.Common.{[], slice_index_or, subst, sym}
use Rattle.sg_circuit.specs.Circuit.{Circuit}
use Rattle.late_limits.specs.Adjusted.{IsAdjustedFrom}
use Rattle.annotation_setting.proofs.SetLaws.{set-adjusted, set-like, timed-small}
use Rattle.annotation_setting.proofs.setting.set_in.Goals as goal

pub set_limits-requires-clause-small : goal.set_limits-requires-clause-small
set_limits-requires-clause-small c = λ check l.
    timed-small c.args.circuit c.in_ok-opened.opened.circuit c.set_timings.new.opened.circuit c.args.timings.now check (slice_index_or c.args.limits.now check []) c.in_ok-opened.ensures.circuit c.set_timings.ensures
    (c.requires.limits.small check l)

pub adjust-requires : goal.adjust-requires
adjust-requires c =
    c.requires.adjusted c.set_limits.new.opened.circuit
    (set-like c.args.circuit c.in_ok-opened.opened.circuit c.set_timings.new.opened.circuit c.set_limits.new.opened.circuit c.args.timings.now c.args.limits.now c.requires.limits c.in_ok-opened.ensures.circuit c.set_timings.ensures
    c.set_limits.ensures.set c.told-limits c.set_limits.ensures.two)

pub returns-clause-annotated : goal.returns-clause-annotated
returns-clause-annotated c = λ sdf corner gs timings_are limits_are.
    set-adjusted c.args.circuit c.in_ok-opened.opened.circuit c.set_timings.new.opened.circuit c.set_limits.new.opened.circuit c.args.timings.now c.args.limits.now c.requires.limits c.in_ok-opened.ensures.circuit c.set_timings.ensures
    c.set_limits.ensures.set c.told-limits c.set_limits.ensures.two c.close.result (subst (λ (d : Circuit). IsAdjustedFrom c.set_limits.new.opened.circuit d) (sym c.close.ensures) c.adjust.ensures.circuit)
    sdf corner gs timings_are limits_are
