-- The bits of the code, as the definitions see them.
use Rattle.std.specs.Prelude.{ℕ, ◌<◌, List, [], false, length, None, slice_index_or}
use Rattle.sg_circuit.specs.declared.scopes.Port.TheVariants as port
use Rattle.elab_model.specs.Bits.{Bit, net, constant}
use Rattle.elab_model.specs.Names.{Variable}
use Rattle.elab_variables.specs.Handing.{all_bits}
use Rattle.elab_bits.specs.declared.bits.Bit as code_bit
use Rattle.elab_bits.specs.declared.bits.Bit.TheVariants as bit

-- the variable and the position at a place of the row; past the end a blank
abbrev pub bit_at : List Variable → ℕ → Variable × ℕ
bit_at vs i = slice_index_or (all_bits vs) i (record { name = []; range = None; is_reg = false; port = port.Inner }, 0)

abbrev pub view_bit : List Variable → code_bit.Bit → Bit
view_bit vs (bit.Net i) = net (bit_at vs i).0.name (bit_at vs i).1
view_bit vs (bit.Constant p v) = constant p v

-- a bit stands in the row
abbrev pub IsInRow : List Variable → code_bit.Bit → Type 0
IsInRow vs (bit.Net i) = i < length (all_bits vs)
IsInRow vs (bit.Constant p v) = Unit {0}
