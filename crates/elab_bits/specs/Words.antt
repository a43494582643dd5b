-- What private functions of the crate answer, which no public contract cites.
use Rattle.std.specs.Prelude.{ℕ, ◌+◌, Option, Some, None}
use Rattle.sg_circuit.specs.declared.scopes.Range.{Range}
use Rattle.vl_tree.specs.declared.expressions.Select.{Select}
use Rattle.vl_tree.specs.declared.expressions.Select.TheVariants as select
use Rattle.elab_model.specs.Bits.{position_at}
use Rattle.elab_bits.specs.declared.bits.Bit as code_bit
use Rattle.elab_bits.specs.declared.bits.Bit.TheVariants as bit

abbrev pub both : Option ℕ → Option ℕ → Option (ℕ × ℕ)
both (Some p) (Some q) = Some (p, q)
both (Some p) None = None
both None q = None

-- the positions of a select's left and right bit, where both are in range
abbrev pub ends : Option Range → Select → Option (ℕ × ℕ)
ends r (select.Bit i) = both (position_at r i) (position_at r i)
ends r (select.Part left right) = both (position_at r left) (position_at r right)

-- the bit at a position of the variable whose bits begin at a place
abbrev pub net_from : ℕ → ℕ → code_bit.Bit
net_from start p = bit.Net (start + p)
