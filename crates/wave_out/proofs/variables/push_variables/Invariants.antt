use Rattle.std.proofs.Common.{ℕ, List, ◌++◌, map, take}
use Rattle.wave_out.specs.Walk.{HasBits}
use Rattle.wave_out.proofs.variables.push_variables.Given as goal

abbrev pub invariant-loop-variable : goal.invariant-loop-variable
invariant-loop-variable l = (bits : List (List ℕ)) → HasBits bits l.k l.fn.pins.items → HasBits (bits ++ map (λ v. v.bits.items) (take l.variable-index l.variables)) l.next l.pins.items
