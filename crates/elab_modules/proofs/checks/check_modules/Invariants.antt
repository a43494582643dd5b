-- The modules so far were looked at.
use Rattle.elab_modules.specs.Checking.{AreChecked}
use Rattle.elab_modules.proofs.checks.check_modules.Given as goal

abbrev pub invariant-loop-part : goal.invariant-loop-part
invariant-loop-part l = AreChecked l.definitions l.corner l.tick.power l.parts l.part-index l.gate_delays.items l.delays.items
