-- The modules of the instances so far stand ready.
use Rattle.std.proofs.Common.{take}
use Rattle.elab_modules.specs.Reaching.{HasMet}
use Rattle.elab_modules.proofs.Meeting.{places_of}
use Rattle.elab_modules.proofs.stock.add_modules.Given as goal

abbrev pub invariant-loop-instance : goal.invariant-loop-instance
invariant-loop-instance l = HasMet l.definitions l.parts l.udps.items (places_of (take l.instance-index l.instances))
