use Rattle.std.proofs.Common.{◌<◌, ◌^◌, ◌∙◌, ap, sym, subst, arith}
use Rattle.sg_delay.specs.GateDelay.{delay_to}
use Rattle.sg_circuit.specs.Seen.{delays_at}
use Rattle.sim_machine.proofs.DelayLaws.{delay_fits, delays-at, count_at}
use Rattle.sim_machine.proofs.placing.delay_of.Goals as goal

pub gate_delay-requires : goal.gate_delay-requires
gate_delay-requires c = count_at c.args.table.now c.args.place c.index-table-place.result c.requires.place c.index-table-place.is c.requires.counts

pub returns-clause-delay : goal.returns-clause-delay
returns-clause-delay c = c.gate_delay.ensures ∙ ap (λ ds. delay_to ds c.args.to) (delays-at c.args.table.now c.args.place c.index-table-place.result c.requires.place c.index-table-place.is)

pub returns-clause-fits : goal.returns-clause-fits
returns-clause-fits c =
    subst (λ n. n < 2 ^ 60) (sym (returns-clause-delay c)) (delay_fits (delays_at c.args.table.now c.args.place) c.args.to (2 ^ 60) (omega arith) c.requires.fits)
