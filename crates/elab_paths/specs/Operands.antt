-- The nets of a condition's operands in an instance, by the row of its bits' nets.
use Rattle.std.specs.Prelude.{ℕ, ℤ, ◌+◌, List, Option, Some, None, length, slice_get, take}
use Rattle.std.specs.Option.{option_and_then}
use Rattle.sg_circuit.specs.declared.scopes.Range.{Range}
use Rattle.elab_model.specs.Bits.{position_at}
use Rattle.elab_model.specs.Names.{Variable}
use Rattle.elab_laws.specs.Handing.{all_bits}
use Rattle.elab_variables.specs.Seen.{variable_at, place_named}

-- an operand without an index is one bit
abbrev pub operand_position : Option Range → Option ℤ → Option ℕ
operand_position r None = Some 0
operand_position r (Some i) = position_at r i

-- the net at a position of the variable at a place
abbrev pub net_at : List Variable → List ℕ → ℕ → Option ℕ → Option ℕ
net_at vs row k None = None
net_at vs row k (Some p) = slice_get row (length (all_bits (take k vs)) + p)

abbrev pub net_named : List Variable → List ℕ → List ℕ → Option ℤ → Option ℕ
net_named vs row n i = option_and_then (λ k. net_at vs row k (operand_position (variable_at vs k).range i)) (place_named vs n)
