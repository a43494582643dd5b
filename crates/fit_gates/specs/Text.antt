-- Gates as they are written, as the statements of a module.
use Rattle.std.specs.Prelude.{ℕ, ℤ, ◌+◌, ◌==◌, Bool, true, false, ◌&&◌, not, List, [], ◌∷◌, ◌++◌, Option, Some, None, codes, decimal, if◌then◌else◌, slice_get}
use Rattle.std.specs.List.{list_all}
use Rattle.std.specs.Fmt.{signed_decimal}
use Rattle.std.specs.Borrow.{Bor}
use Rattle.sg_text.specs.Names.{is_name_start, is_name_byte}
use Rattle.sg_text.specs.Words.{is_reserved_word}
use Rattle.sg_logic.specs.declared.values.Value.{Value}
use Rattle.sg_logic.specs.declared.values.Value.TheVariants.{Zero, One, X, Z}
use Rattle.sg_logic.specs.declared.gates.GateKind.{GateKind}
use Rattle.sg_logic.specs.declared.gates.GateKind.TheVariants as gate
use Rattle.fit_gates.specs.declared.terms.Operand.{Operand}
use Rattle.fit_gates.specs.declared.terms.Operand.TheVariants as operand
use Rattle.fit_gates.specs.declared.gates.Kind.{Kind}
use Rattle.fit_gates.specs.declared.gates.Kind.TheVariants as kind
use Rattle.fit_gates.specs.declared.writing.Join.{Join}
use Rattle.fit_gates.specs.declared.writing.Naming.{Naming}
use Rattle.fit_gates.specs.Gates.{Driver}

-- an escaped name has its backslash and the blank that ends it (IEEE 1364-2005, 3.7.1)
abbrev pub are_name_bytes : List ℕ → Bool
are_name_bytes bytes = list_all is_name_byte bytes

abbrev pub has_name_form : List ℕ → Bool
has_name_form [] = false
has_name_form (b ∷ bs) = is_name_start b && are_name_bytes bs

unfoldable pub is_plain : List ℕ → Bool
is_plain name = has_name_form name && not (is_reserved_word name)

abbrev pub name_text : List ℕ → List ℕ
name_text name = if is_plain name then name else codes "\\" ++ name ++ codes " "

abbrev pub named : Option (Bor (List ℕ)) → List ℕ
named None = []
named (Some name) = name_text name.now

abbrev pub index_text : Option ℤ → List ℕ
index_text None = []
index_text (Some index) = codes "[" ++ signed_decimal index ++ codes "]"

abbrev pub constant_text : Value → List ℕ
constant_text Zero = codes "1'b0"
constant_text One = codes "1'b1"
constant_text X = codes "1'bx"
constant_text Z = codes "1'bz"

-- a wire is written by its number, from that of the first one on
abbrev pub plain_text : Naming → Operand → List ℕ
plain_text naming (operand.Constant value) = constant_text value
plain_text naming (operand.Net name index) = named (slice_get naming.names.now name) ++ index_text index
plain_text naming (operand.Wire place) = codes "sg_w" ++ decimal (naming.first + place)

abbrev pub is_wire_at : ℕ → Operand → Bool
is_wire_at place (operand.Wire other) = other == place
is_wire_at place _ = false

-- the net's bit that a wire drives, or itself
abbrev pub end_of : List Join → ℕ → Operand
end_of [] place = operand.Wire place
end_of (join ∷ joins) place = if is_wire_at place join.source then join.target else end_of joins place

abbrev pub operand_text : Naming → Operand → List ℕ
operand_text naming (operand.Wire place) = plain_text naming (end_of naming.joins.now place)
operand_text naming (operand.Constant value) = plain_text naming (operand.Constant value)
operand_text naming (operand.Net name index) = plain_text naming (operand.Net name index)

abbrev pub gate_word : GateKind → List ℕ
gate_word gate.And = codes "and"
gate_word gate.Nand = codes "nand"
gate_word gate.Or = codes "or"
gate_word gate.Nor = codes "nor"
gate_word gate.Xor = codes "xor"
gate_word gate.Xnor = codes "xnor"
gate_word gate.Buf = codes "buf"
gate_word gate.Not = codes "not"
gate_word gate.Bufif0 = codes "bufif0"
gate_word gate.Bufif1 = codes "bufif1"
gate_word gate.Notif0 = codes "notif0"
gate_word gate.Notif1 = codes "notif1"

abbrev pub match_word : Bool → Bool → List ℕ
match_word false true = codes "sg_is0"
match_word true true = codes "sg_is1"
match_word false false = codes "sg_isnt0"
match_word true false = codes "sg_isnt1"

abbrev pub kind_word : Kind → List ℕ
kind_word (kind.Gate k) = gate_word k
kind_word (kind.Match b equal) = match_word b equal
kind_word kind.Choice = codes "sg_mux"

abbrev pub inputs_text : Naming → List Operand → List ℕ
inputs_text naming [] = []
inputs_text naming (x ∷ xs) = codes ", " ++ operand_text naming x ++ inputs_text naming xs

-- KIND DELAY (OUTPUT, INPUT, ..);
abbrev pub gate_text : Naming → List ℕ → Operand → Driver → List ℕ
gate_text naming delay output g = kind_word g.kind ++ delay ++ codes " (" ++ plain_text naming output ++ inputs_text naming g.inputs ++ codes "); "

abbrev pub is_wire : Operand → Bool
is_wire (operand.Wire place) = true
is_wire _ = false

-- a wire that drives no net is declared before its gate; the delay is that of what drives a net
abbrev pub driven_text : Naming → List ℕ → Operand → Driver → List ℕ
driven_text naming delay output g =
    if is_wire output then codes "wire " ++ plain_text naming output ++ codes "; " ++ gate_text naming [] output g else gate_text naming delay output g

abbrev pub gates_text : Naming → List ℕ → ℕ → List Driver → List ℕ
gates_text naming delay place [] = []
gates_text naming delay place (g ∷ gs) = driven_text naming delay (end_of naming.joins.now place) g ++ gates_text naming delay (place + 1) gs

-- what drives a net that no gate drives: an assignment, or a buffer with the delay
abbrev pub source_text : Naming → List ℕ → Join → List ℕ
source_text naming [] join = codes "assign " ++ operand_text naming join.target ++ codes " = " ++ operand_text naming join.source ++ codes "; "
source_text naming (b ∷ bs) join = codes "buf" ++ (b ∷ bs) ++ codes " (" ++ operand_text naming join.target ++ codes ", " ++ operand_text naming join.source ++ codes "); "

abbrev pub join_text : Naming → List ℕ → Join → List ℕ
join_text naming delay join = if is_wire join.source then [] else source_text naming delay join

abbrev pub joins_text : Naming → List ℕ → List Join → List ℕ
joins_text naming delay [] = []
joins_text naming delay (join ∷ joins) = join_text naming delay join ++ joins_text naming delay joins

abbrev pub statements_text : Naming → List ℕ → List Driver → List ℕ
statements_text naming delay gs = gates_text naming delay 0 gs ++ joins_text naming delay naming.joins.now
