-- The table has the inputs so far.
use Rattle.std.proofs.Common.{map, take}
use Rattle.sg_circuit.specs.Seen.{variable_seen}
use Rattle.stim_read.specs.ByName.{ArePlaces}
use Rattle.stim_read.proofs.top_inputs.places_of.Given as goal

abbrev pub invariant-loop-place : goal.invariant-loop-place
invariant-loop-place l = ArePlaces l.circuit (map (λ v. variable_seen v) (take l.place l.variables)) l.places
