use Rattle.std.proofs.Common.{◌≡◌, All, subst}
use Rattle.sg_logic.specs.declared.values.Value.{Value}
use Rattle.sg_circuit.specs.Timings.{timing_between}
use Rattle.sg_circuit.specs.TimingsSeen.{leg_timing_seen, timings_at}
use Rattle.sim_machine.proofs.AtOnceLaws.{four, of_every, timings-at, when_true}
use Rattle.sim_machine.proofs.at_once.is_leg_undelayed.Goals as goal

pub returns : goal.returns
returns c =
    when_true c.passes_at_once.result ((from to : Value) → (timing_between (timings_at c.args.table.now c.args.place) from to).delay ≡ 0)
    (λ h from. of_every (λ to. (timing_between (timings_at c.args.table.now c.args.place) from to).delay ≡ 0)
    (subst (λ ts. All (λ to. (timing_between ts from to).delay ≡ 0) four) (timings-at c.args.table.now c.args.place c.index-table-place.result c.requires c.index-table-place.is)
    (of_every (λ f. All (λ to. (timing_between (leg_timing_seen c.index-table-place.result) f to).delay ≡ 0) four) (c.passes_at_once.ensures.0 h) from)))
