use Rattle.std.proofs.Common.{◌≡◌, All, subst}
use Rattle.sg_logic.specs.declared.values.Value.{Value}
use Rattle.sg_delay.specs.GateDelay.{delay_to}
use Rattle.sg_circuit.specs.Seen.{delays_at}
use Rattle.sim_machine.proofs.AtOnceLaws.{four, of_every, when_true}
use Rattle.sim_machine.proofs.DelayLaws.{delays-at, count_at}
use Rattle.sim_machine.proofs.at_once.is_gate_undelayed.Goals as goal

pub has_no_delay-requires : goal.has_no_delay-requires
has_no_delay-requires c = count_at c.args.table.now c.args.place c.index-table-place.result c.requires.place c.index-table-place.is c.requires.counts

pub returns : goal.returns
returns c =
    when_true c.has_no_delay.result ((to : Value) → delay_to (delays_at c.args.table.now c.args.place) to ≡ 0)
    (λ h. of_every (λ to. delay_to (delays_at c.args.table.now c.args.place) to ≡ 0)
    (subst (λ ds. All (λ to. delay_to ds to ≡ 0) four) (delays-at c.args.table.now c.args.place c.index-table-place.result c.requires.place c.index-table-place.is) (c.has_no_delay.ensures.0 h)))
