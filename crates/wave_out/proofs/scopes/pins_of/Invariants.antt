use Rattle.std.proofs.Common.{◌≡◌, ◌++◌, map, drop}
use Rattle.sg_circuit.specs.Seen.{scope_seen}
use Rattle.wave_out.specs.Walk.{parent_pins}
use Rattle.wave_out.proofs.scopes.pins_of.Given as goal

-- the pins of the scopes that are left complete the list
abbrev pub invariant-loop-number : goal.invariant-loop-number
invariant-loop-number l = l.pins.items ++ parent_pins l.number (drop l.number (map (λ s. scope_seen s) l.scopes)) ≡ parent_pins 0 (map (λ s. scope_seen s) l.scopes)
