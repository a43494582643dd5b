-- What private functions of the crate add, from what the code has of an instance. No public contract cites it.
use Rattle.std.specs.Prelude.{ℕ, suc, ◌+◌, ◌-◌, ◌==◌, false, List, [], ◌∷◌, ◌++◌, Bool, ◌&&◌, Option, Some, None, map, flat_map, find, option_map, take, zip, length, slice_get, slice_index_or, if◌then◌else◌}
use Rattle.std.specs.List.{range_with_len}
use Rattle.sg_circuit.specs.Closed.{width_of}
use Rattle.sg_circuit.specs.declared.elements.ElementKind.{ElementKind}
use Rattle.sg_circuit.specs.declared.elements.ElementKind.TheVariants as kind
use Rattle.sg_logic.specs.declared.values.Value.{Value}
use Rattle.sg_delay.specs.declared.limits.PulseStyle.TheVariants.{OnEvent}
use Rattle.sg_text.specs.declared.places.Place.{Place}
use Rattle.vl_tree.specs.Tree.{Named}
use Rattle.elab_model.specs.Elements.{place_in}
use Rattle.elab_model.specs.Homes.{is_input}
use Rattle.elab_model.specs.Names.{Variable}
use Rattle.elab_laws.specs.Handing.{all_bits, numbered}
use Rattle.elab_variables.specs.Seen.{variable_at}
use Rattle.elab_bits.specs.declared.bits.Bit as code_bit
use Rattle.elab_bits.specs.declared.bits.Bit.TheVariants as bit
use Rattle.elab_bits.specs.Seen.{bit_at}
use Rattle.elab_nets.specs.DelayedCopy.{DelayedCopy}
use Rattle.elab_nets.specs.PlacedCopy.{PlacedCopy}
use Rattle.elab_nets.specs.Ready as code_ready
use Rattle.elab_nets.specs.Ready.TheVariants as ready
use Rattle.elab_ports.specs.declared.constants.PortConstant as code_constant
use Rattle.elab_elements.specs.Puts.{Put, put}

-- the number at a place of a row
abbrev pub net_in : List ℕ → ℕ → ℕ
net_in row i = slice_index_or row i 0

abbrev pub outside_in : List (Option ℕ) → ℕ → Option ℕ
outside_in outer i = slice_index_or outer i None

-- ---- Passes

abbrev pub bit_inputs : List ℕ → code_bit.Bit → List ℕ
bit_inputs row (bit.Net i) = net_in row i ∷ []
bit_inputs row (bit.Constant p v) = []

abbrev pub bit_value : code_bit.Bit → Option Value
bit_value (bit.Net i) = None
bit_value (bit.Constant p v) = Some v

-- to the first of two bits from the second
abbrev pub pass_puts : ℕ → Place → (row inside : List ℕ) → code_bit.Bit × code_bit.Bit → List Put
pass_puts scope place row inside (bit.Net i, b) = put scope place (bit_inputs row b) (net_in inside i) (kind.Pass (bit_value b)) ∷ []
pass_puts scope place row inside (bit.Constant p v, b) = []

-- ---- gates and primitives

abbrev pub output_puts : ℕ → Place → ElementKind → (inputs inside : List ℕ) → code_bit.Bit → List Put
output_puts scope place k inputs inside (bit.Net i) = put scope place inputs (net_in inside i) k ∷ []
output_puts scope place k inputs inside (bit.Constant p v) = []

abbrev pub given_in : List ℕ → code_bit.Bit → Option ℕ
given_in row (bit.Net i) = Some (net_in row i)
given_in row (bit.Constant p v) = None

-- the net of an input, of which a constant has the next
abbrev pub input_number : ℕ → List ℕ → code_bit.Bit → ℕ
input_number next row (bit.Net i) = net_in row i
input_number next row (bit.Constant p v) = next

-- the nets of inputs, where those of constants are numbered from the first on
abbrev pub input_numbers : ℕ → List ℕ → List code_bit.Bit → List ℕ
input_numbers first row bs = numbered first (map (given_in row) bs)

-- how many of the bits are constants
abbrev pub constants_in : List code_bit.Bit → ℕ
constants_in [] = 0
constants_in (bit.Net i ∷ bs) = constants_in bs
constants_in (bit.Constant p v ∷ bs) = suc (constants_in bs)

abbrev pub constant_puts : ℕ → code_bit.Bit × ℕ → List Put
constant_puts scope (bit.Net i, n) = []
constant_puts scope (bit.Constant p v, n) = put scope p [] n (kind.Pass (Some v)) ∷ []

abbrev pub terminal_puts : ℕ → Place → ElementKind → (row inside : List ℕ) → ℕ → (outs ins : List code_bit.Bit) → List Put
terminal_puts scope place k row inside first outs ins =
    flat_map (output_puts scope place k (input_numbers first row ins) inside) outs ++ flat_map (constant_puts scope) (zip ins (input_numbers first row ins))

-- ---- Legs

abbrev pub leg_puts : ℕ → Place → ℕ → Option ℕ → List Put
leg_puts scope place output None = []
leg_puts scope place output (Some n) = put scope place (n ∷ []) output (kind.Leg 0) ∷ []

abbrev pub bit_leg : ℕ → Place → List ℕ → List (Option ℕ) → ℕ → List Put
bit_leg scope place inner outer i = leg_puts scope place (net_in inner i) (outside_in outer i)

-- where the bits of a variable begin
abbrev pub start_of : List Variable → ℕ → ℕ
start_of vs k = length (all_bits (take k vs))

abbrev pub variable_puts : ℕ → Place → List Variable → List ℕ → List (Option ℕ) → ℕ → List Put
variable_puts scope place vs inner outer k =
    if is_input (variable_at vs k).port then flat_map (bit_leg scope place inner outer) (range_with_len (start_of vs k) (width_of (variable_at vs k).range)) else []

-- at the place of the port among the names of ports, or else at the instance's
abbrev pub port_legs : ℕ → List Named → Place → List Variable → List ℕ → List (Option ℕ) → ℕ → List Put
port_legs scope ports instance vs inner outer k = variable_puts scope (place_in (slice_get ports k) instance) vs inner outer k

-- ---- Paths, and what is driven inside

-- to a bit of the row from an inner net
abbrev pub path_puts : ℕ → Place → List ℕ → ℕ × ℕ → List Put
path_puts scope place row e = put scope place (e.1 ∷ []) (net_in row e.0) (kind.Path (record { start = 0; end = 0 }) OnEvent) ∷ []

-- the nets of these bits, each with its inner net
abbrev pub ends_in : (row bits ends : List ℕ) → List (ℕ × ℕ)
ends_in row bits ends = zip (map (net_in row) bits) ends

-- the inner net of the first that has a net
abbrev pub inner_of : List (ℕ × ℕ) → ℕ → Option ℕ
inner_of ends n = option_map (λ e. e.1) (find (λ e. e.0 == n) ends)

-- ---- Lates

-- what a copy drives at the bit that the text names
abbrev pub named_in : List ℕ → DelayedCopy → Option ℕ
named_in inside c = option_map (net_in inside) c.named

-- the number that is free behind what is or isn't named
abbrev pub next_free : ℕ → Option ℕ → ℕ
next_free n None = n + 1
next_free n (Some k) = n

-- what copies drive, where those that no text names have the numbers from the first on
abbrev pub copy_numbers : ℕ → List ℕ → List PlacedCopy → List ℕ
copy_numbers first inside cs = numbered first (map (λ c. named_in inside c.copy) cs)

abbrev pub late_puts : ℕ → List ℕ → PlacedCopy × ℕ → List Put
late_puts scope row c = put scope c.0.place (net_in row c.0.copy.signal ∷ []) c.1 (kind.Late 0) ∷ []

-- ---- constants at ports

abbrev pub port_net : List Variable → Bool → List ℕ → List (Option ℕ) → ℕ → Option ℕ
port_net vs leaf inner outer i = if is_input (bit_at vs i).0.port && leaf then outside_in outer i else Some (net_in inner i)

abbrev pub driven_puts : ℕ → code_constant.PortConstant → Option ℕ → List Put
driven_puts scope c None = []
driven_puts scope c (Some n) = put scope c.place [] n (kind.Pass (Some c.value)) ∷ []

abbrev pub port_puts : ℕ → List Variable → Bool → List ℕ → List (Option ℕ) → code_constant.PortConstant → List Put
port_puts scope vs leaf inner outer c = driven_puts scope c (port_net vs leaf inner outer c.bit)

-- whether an instance has a parent, and ends behind its own number
abbrev pub is_alone : Option ℕ → ℕ → ℕ → Bool
is_alone None end number = false
is_alone (Some p) end number = end - number == 1

-- ---- primitives

abbrev pub primitive_in : Option code_ready.Ready → Option ℕ
primitive_in None = None
primitive_in (Some (ready.Module q)) = None
primitive_in (Some (ready.Primitive k)) = Some k

-- the place of the table of the primitive that stands ready
abbrev pub primitive_at : Option (Option code_ready.Ready) → Option ℕ
primitive_at None = None
primitive_at (Some part) = primitive_in part
