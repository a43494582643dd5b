use Rattle.std.proofs.Common.{map, take}
use Rattle.std.specs.Prelude.{flat_map}
use Rattle.sg_circuit.specs.Seen.{circuit_seen}
use Rattle.wave_out.specs.Scopes.{variables_at}
use Rattle.wave_out.specs.Walk.{HasBits}
use Rattle.wave_out.proofs.variables.bits_of.Given as goal

abbrev pub invariant-loop-visit : goal.invariant-loop-visit
invariant-loop-visit l = HasBits (map (λ x. x.bits) (flat_map (variables_at (circuit_seen l.parts)) (take l.visit-index l.order))) l.count l.pins.items
