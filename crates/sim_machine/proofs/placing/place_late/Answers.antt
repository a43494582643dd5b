use Rattle.pulse_list.proofs.EarliestLaws.{none_below-reverse}
use Rattle.sim_machine.proofs.placing.place_late.Goals as goal

pub place-requires-clause-from_now : goal.place-requires-clause-from_now
place-requires-clause-from_now g c = none_below-reverse c.args.now _ c.requires.from_now
