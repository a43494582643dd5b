-- The input bits of an instance, as the code has them: places of its row of bits.
use Rattle.std.specs.Prelude.{ℕ, List, Bool, true, false, ◌&&◌, Option, Some, None, slice_get}
use Rattle.std.specs.Option.{unwrap_or}
use Rattle.elab_model.specs.Homes.{is_input}
use Rattle.elab_model.specs.Names.{Variable}
use Rattle.elab_bits.specs.Seen.{bit_at}
use Rattle.elab_bits.specs.declared.bits.Bit as code_bit
use Rattle.elab_bits.specs.declared.bits.Bit.TheVariants as bit

-- what the bit at a place is bound to
abbrev pub bound_at : List (Option code_bit.Bit) → ℕ → Option code_bit.Bit
bound_at bits i = unwrap_or (slice_get bits i) None

-- the number of the parent's net that it is bound to, if it is bound to one
abbrev pub number_in : List ℕ → Option code_bit.Bit → Option ℕ
number_in row None = None
number_in row (Some (bit.Net i)) = slice_get row i
number_in row (Some (bit.Constant p v)) = None

abbrev pub is_input_at : List Variable → ℕ → Bool
is_input_at vs i = is_input (bit_at vs i).0.port

abbrev pub is_nothing : Option code_bit.Bit → Bool
is_nothing None = true
is_nothing (Some b) = false

-- an input that nothing is bound to
abbrev pub is_free_at : List Variable → List (Option code_bit.Bit) → ℕ → Bool
is_free_at vs bits i = is_input_at vs i && is_nothing (bound_at bits i)
