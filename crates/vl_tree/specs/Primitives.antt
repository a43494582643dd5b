-- The grammar of user-defined primitives and the rows of their tables (IEEE 1364-2005, clause 8 and annex A.5).
use Rattle.std.specs.Prelude.{ℕ, Bool, true, false, ◌||◌, List, ◌∷◌, Option, Some, None}
use Rattle.sg_logic.specs.declared.values.Value.{Value}
use Rattle.sg_text.specs.declared.places.Place.{Place}
use Rattle.sg_text.specs.declared.words.Keyword.TheVariants as keyword
use Rattle.grammar.specs.Rule.{◌∙∙◌, ◌▸◌, ◌◂◌, one, mapped, named, no_kind}
use Rattle.grammar.specs.Stated.{forked}
use Rattle.udp_rows.specs.declared.cells.Cell.{Cell}
use Rattle.udp_rows.specs.declared.cells.RawRow.{RawRow}
use Rattle.vl_token.specs.declared.symbols.Symbol.TheVariants.{Semicolon, LeftParen, RightParen, Assign}
use Rattle.vl_tree.specs.Expressions.{name, names}
use Rattle.vl_tree.specs.Kinds.{Kind, kind_of, is_initial_value, is_word, is_byte, colon_byte, semicolon_byte, left_byte, right_byte, cell_byte, value_of, byte_of}
use Rattle.vl_tree.specs.Rules.{Grammar, word, mark, byte, placed, either, optional, many}
use Rattle.vl_tree.specs.Tree.{PrimitiveDeclaration, output_port, output_register, input_ports, Initial, Primitive}

-- "output" [ "reg" ] name ";"
abbrev pub is_there : Option (Unit {0}) → Bool
is_there None = false
is_there (Some word) = true

abbrev pub maybe_register : Grammar Bool
maybe_register = mapped is_there (optional (word keyword.Reg))

unfoldable pub output_parts : Grammar PrimitiveDeclaration
output_parts = mapped (λ x. output_port x.0 x.1.0 x.1.1) (placed (word keyword.Output ▸ (maybe_register ∙∙ (name ◂ mark Semicolon))))

abbrev pub output_rule : Grammar PrimitiveDeclaration
output_rule = named (is_word keyword.Output) no_kind output_parts

-- "reg" name ";"
unfoldable pub register_parts : Grammar PrimitiveDeclaration
register_parts = mapped (λ x. output_register x.0 x.1) (placed (word keyword.Reg ▸ (name ◂ mark Semicolon)))

abbrev pub register_rule : Grammar PrimitiveDeclaration
register_rule = named (is_word keyword.Reg) no_kind register_parts

-- "input" names ";"
unfoldable pub inputs_parts : Grammar PrimitiveDeclaration
inputs_parts = mapped (λ x. input_ports x.0 x.1) (placed (word keyword.Input ▸ (names ◂ mark Semicolon)))

abbrev pub inputs_rule : Grammar PrimitiveDeclaration
inputs_rule = named (is_word keyword.Input) no_kind inputs_parts

-- pdec: one of these
unfoldable pub declaration_parts : Grammar PrimitiveDeclaration
declaration_parts = either output_rule (either register_rule inputs_rule)

abbrev pub declaration_starts : Kind → Bool
declaration_starts k = is_word keyword.Output k || (is_word keyword.Reg k || is_word keyword.Input k)

abbrev pub declaration : Grammar PrimitiveDeclaration
declaration = named declaration_starts no_kind declaration_parts

-- init = "initial" name "=" ( "0" | "1" | 1-bit sized, not z ) ";"
unfoldable pub initial_value_parts : Grammar Value
initial_value_parts = mapped (λ t. value_of t.meaning) (one kind_of is_initial_value)

abbrev pub initial_value : Grammar Value
initial_value = named is_initial_value no_kind initial_value_parts

unfoldable pub initial_parts : Grammar Initial
initial_parts = mapped (λ x. record { place = x.0; name = x.1.0; value = x.1.1 }) (placed (word keyword.Initial ▸ (name ∙∙ (mark Assign ▸ (initial_value ◂ mark Semicolon)))))

abbrev pub initial : Grammar Initial
initial = named (is_word keyword.Initial) no_kind initial_parts

-- cell: a byte but : ; ( ), or two of them in parentheses
unfoldable pub symbol_parts : Grammar ℕ
symbol_parts = mapped (λ t. byte_of t.meaning) (one kind_of (is_byte cell_byte))

abbrev pub symbol_rule : Grammar ℕ
symbol_rule = named (is_byte cell_byte) no_kind symbol_parts

abbrev pub cell_starts : Kind → Bool
cell_starts k = is_byte cell_byte k || is_byte left_byte k

abbrev pub cell_of : ℕ → ℕ → Cell
cell_of a b = record { first = a; second = b }

unfoldable pub cell_parts : Grammar Cell
cell_parts = either (mapped (λ b. cell_of b 0) symbol_rule) (mapped (λ x. cell_of x.0 x.1) (byte left_byte ▸ (symbol_rule ∙∙ (symbol_rule ◂ byte right_byte))))

abbrev pub cell : Grammar Cell
cell = named cell_starts no_kind cell_parts

-- cells = cell { cell }
unfoldable pub cells_parts : Grammar (List Cell)
cells_parts = mapped (λ x. x.0 ∷ x.1) (cell ∙∙ many cell)

abbrev pub cells : Grammar (List Cell)
cells = named cell_starts cell_starts cells_parts

-- row = cells ":" out ";" | cells ":" state ":" out ";"
abbrev pub row_of : Place → List Cell → Option Cell → Cell → RawRow
row_of place inputs state out = record { inputs = inputs; state = state; out = out; place = place }

abbrev pub columns_of : List Cell → Option Cell → Cell → List Cell × (Option Cell × Cell)
columns_of inputs state out = (inputs, (state, out))

unfoldable pub row_parts : Grammar RawRow
row_parts =
    mapped (λ x. row_of x.0 x.1.0 x.1.1.0 x.1.1.1)
    (placed (forked kind_of (λ x. columns_of x.0.0 None x.0.1) (λ x. columns_of x.0.0 (Some x.0.1) x.1) (cells ∙∙ (byte colon_byte ▸ cell)) (byte semicolon_byte) (byte colon_byte ▸ (cell ◂ byte semicolon_byte))))

abbrev pub row : Grammar RawRow
row = named cell_starts no_kind row_parts

-- prim = "primitive" name "(" names ")" ";" { pdec } [ init ] "table" { row } "endtable" "endprimitive"
abbrev pub Body : Type 0
Body = List PrimitiveDeclaration × (Option Initial × List RawRow)

unfoldable pub body_parts : Grammar Body
body_parts = many declaration ∙∙ (optional initial ∙∙ (word keyword.Table ▸ (many row ◂ (word keyword.EndTable ▸ word keyword.EndPrimitive))))

abbrev pub body_starts : Kind → Bool
body_starts k = declaration_starts k || (is_word keyword.Initial k || is_word keyword.Table k)

abbrev pub body : Grammar Body
body = named body_starts no_kind body_parts

unfoldable pub primitive_parts : Grammar Primitive
primitive_parts =
    mapped (λ x. record { place = x.0; name = x.1.0; ports = x.1.1.0; declarations = x.1.1.1.0; initial = x.1.1.1.1.0; rows = x.1.1.1.1.1 })
    (placed (word keyword.Primitive ▸ (name ∙∙ (mark LeftParen ▸ (names ∙∙ (mark RightParen ▸ (mark Semicolon ▸ body)))))))

abbrev pub primitive : Grammar Primitive
primitive = named (is_word keyword.Primitive) no_kind primitive_parts
