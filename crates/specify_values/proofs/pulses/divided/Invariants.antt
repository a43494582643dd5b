-- What is found from here on is what is found at all.
use Rattle.std.proofs.Common.{◌≡◌, ◌-◌, List, length}
use Rattle.std.specs.Prelude.{find}
use Rattle.elab_model.specs.Names.{Variable}
use Rattle.specify_model.specs.PulseLimits.{cuts, are_ports}
use Rattle.specify_values.specs.PortNames.{AreMarks}
use Rattle.specify_values.proofs.Cutting.{ends_from}
use Rattle.specify_values.proofs.pulses.divided.Given as goal

abbrev pub invariant-loop-at : goal.invariant-loop-at
invariant-loop-at l = (vs : List Variable) → AreMarks vs l.text l.marks.before.items l.marks.behind.items → ends_from vs l.text l.at ≡ find (are_ports vs) (cuts l.text)

abbrev pub decreases-loop-at : goal.decreases-loop-at
decreases-loop-at l = length l.text - l.at
