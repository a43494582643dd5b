-- The nets of constants at inputs.
use Rattle.std.specs.Prelude.{ℕ, List, [], ◌∷◌, Option, Some, None}
use Rattle.sg_circuit.specs.declared.nets.Net.{Net}
use Rattle.vl_tree.specs.Tree.{Instance as instance_text}
use Rattle.elab_model.specs.Elements.{output_bits, input_bits}
use Rattle.elab_model.specs.Hierarchy.{Instance}
use Rattle.elab_model.specs.Members.{connection_values}
use Rattle.elab_model.specs.Nets.{OwnNet, terminal_nets}
use Rattle.elab_bits.specs.declared.bits.Bit as code_bit
use Rattle.elab_bits.specs.declared.bits.Bit.TheVariants as bit

-- the place of the first output in the row
abbrev pub first_output : List code_bit.Bit → Option ℕ
first_output [] = None
first_output (bit.Net i ∷ bs) = Some i
first_output (bit.Constant p v ∷ bs) = None

-- a net at a constant
abbrev pub at_constant : Net → code_bit.Bit → List Net
at_constant o (bit.Net i) = []
at_constant o (bit.Constant p v) = o ∷ []

-- the nets of constants at the inputs of a primitive
abbrev pub primitive_nets : Instance → ℕ → instance_text → List OwnNet
primitive_nets s k i = terminal_nets s k (output_bits s 1 (connection_values i.connections)) (input_bits s 1 (connection_values i.connections))
