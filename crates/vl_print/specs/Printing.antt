-- Tokens put behind others for each part of a tree: what the private functions of `print` make, which no public contract cites.
use Rattle.std.specs.Prelude.{ℕ, suc, ◌^◌, nat_lt, ◌==◌, ℤ, pos, negsuc, Bool, true, false, List, [], ◌∷◌, ◌++◌, Option, Some, None, if◌then◌else◌}
use Rattle.sg_logic.specs.declared.gates.GateKind.{GateKind}
use Rattle.sg_logic.specs.declared.gates.GateKind.TheVariants as gate_kind
use Rattle.sg_logic.specs.declared.values.Value.{Value}
use Rattle.sg_logic.specs.declared.values.Value.TheVariants.{Zero, One, X, Z}
use Rattle.sg_text.specs.declared.places.Place.{Place}
use Rattle.sg_text.specs.declared.words.Keyword.{Keyword}
use Rattle.sg_text.specs.declared.words.Keyword.TheVariants as keyword
use Rattle.sg_time.specs.Spelling.{Number}
use Rattle.udp_rows.specs.declared.cells.Cell.{Cell}
use Rattle.udp_rows.specs.declared.cells.RawRow.{RawRow}
use Rattle.vl_token.specs.declared.symbols.Symbol.{Symbol}
use Rattle.vl_token.specs.declared.symbols.Symbol.TheVariants as symbol
use Rattle.vl_token.specs.Tokens.{Lexeme, Meaning, word_token, name_token, number_token, sized_token, symbol_token, byte_token}
use Rattle.vl_tree.specs.declared.expressions.Select.{Select}
use Rattle.vl_tree.specs.declared.expressions.Select.TheVariants.{Bit, Part}
use Rattle.vl_tree.specs.declared.names.Direction.{Direction}
use Rattle.vl_tree.specs.declared.names.Direction.TheVariants as direction
use Rattle.vl_tree.specs.declared.names.NetType.{NetType}
use Rattle.vl_tree.specs.declared.names.NetType.TheVariants as net_type
use Rattle.vl_tree.specs.declared.names.Range.{Range}
use Rattle.vl_tree.specs.declared.names.Supply.{Supply}
use Rattle.vl_tree.specs.declared.names.Supply.TheVariants as supply
use Rattle.vl_tree.specs.Tree.{Named, Expression, signal, sized, concatenation, Expressions, no_more, one_more, MinTypMax, one_number, three_numbers, Delay, NetName, Join, GateInstance, NamedConnection, Connections, by_order, by_name, Instance, PrimitiveDeclaration, output_port, output_register, input_ports, Initial, Primitive}

abbrev pub Tokens : Type 0
Tokens = List Lexeme

-- where tokens stand of which no tree has the place
abbrev pub nowhere : Place
nowhere = record { file = 0; byte = 0 }

abbrev pub put_token : Meaning → Place → Tokens → Tokens
put_token meaning place out = out ++ record { meaning = meaning; place = place } ∷ []

abbrev pub mark_at : Symbol → Place → Tokens → Tokens
mark_at s place out = put_token (symbol_token s) place out

abbrev pub put_mark : Symbol → Tokens → Tokens
put_mark s out = mark_at s nowhere out

abbrev pub word_at : Keyword → Place → Tokens → Tokens
word_at w place out = put_token (word_token w) place out

abbrev pub put_word : Keyword → Tokens → Tokens
put_word w out = word_at w nowhere out

abbrev pub byte_at : ℕ → Place → Tokens → Tokens
byte_at b place out = put_token (byte_token b) place out

abbrev pub put_byte : ℕ → Tokens → Tokens
put_byte b out = byte_at b nowhere out

-- ---- lists of parts

abbrev pub put_optional : {A : Type 0} → (A → Tokens → Tokens) → Option A → Tokens → Tokens
put_optional put None out = out
put_optional put (Some x) out = put x out

abbrev pub put_many : {A : Type 0} → (A → Tokens → Tokens) → List A → Tokens → Tokens
put_many put [] out = out
put_many put (x ∷ xs) out = put_many put xs (put x out)

abbrev pub behind_comma : {A : Type 0} → (A → Tokens → Tokens) → A → Tokens → Tokens
behind_comma put x out = put x (put_mark symbol.Comma out)

abbrev pub put_listed : {A : Type 0} → (A → Tokens → Tokens) → List A → Tokens → Tokens
put_listed put [] out = out
put_listed put (x ∷ xs) out = put_many (behind_comma put) xs (put x out)

-- ---- names, numbers of bits and ranges

abbrev pub put_name : Named → Tokens → Tokens
put_name n out = put_token (name_token n.text) n.place out

abbrev pub put_names : List Named → Tokens → Tokens
put_names ns out = put_listed put_name ns out

-- a number of at most 18 digits, which others are not
abbrev pub eighteen_digits : ℕ → ℕ
eighteen_digits n = if nat_lt n (10 ^ 18) then n else 0

abbrev pub whole_number : ℕ → Number
whole_number n = record { negative = false; digits = n; exponent = pos 0 }

abbrev pub put_whole : ℕ → Tokens → Tokens
put_whole n out = put_token (number_token (whole_number (eighteen_digits n)) true) nowhere out

abbrev pub put_int : ℤ → Tokens → Tokens
put_int (pos n) out = put_whole n out
put_int (negsuc n) out = put_whole (suc n) (put_mark symbol.Minus out)

abbrev pub put_range : Range → Tokens → Tokens
put_range r out = put_mark symbol.RightBracket (put_int r.right (put_mark symbol.Colon (put_int r.left (mark_at symbol.LeftBracket r.place out))))

-- ---- expressions

abbrev pub put_select : Select → Tokens → Tokens
put_select (Bit n) out = put_mark symbol.RightBracket (put_int n (put_mark symbol.LeftBracket out))
put_select (Part l r) out = put_mark symbol.RightBracket (put_int r (put_mark symbol.Colon (put_int l (put_mark symbol.LeftBracket out))))

abbrev mutual
  pub put_expression : Expression → Tokens → Tokens
  put_expression (signal n s) out = put_optional put_select s (put_name n out)
  put_expression (sized p bits) out = put_token (sized_token bits) p out
  put_expression (concatenation p es) out = put_mark symbol.RightBrace (put_expressions es (mark_at symbol.LeftBrace p out))

  pub put_expressions : Expressions → Tokens → Tokens
  put_expressions no_more out = out
  put_expressions (one_more e es) out = put_others es (put_expression e out)

  pub put_others : Expressions → Tokens → Tokens
  put_others no_more out = out
  put_others (one_more e es) out = put_others es (put_expression e (put_mark symbol.Comma out))

abbrev pub put_value : Expression → Tokens → Tokens
put_value e out = put_expression e (put_mark symbol.Assign out)

-- ---- delays

abbrev pub put_number : Number → Tokens → Tokens
put_number n out = put_token (number_token n false) nowhere out

abbrev pub put_mtm : MinTypMax → Tokens → Tokens
put_mtm (one_number n) out = put_number n out
put_mtm (three_numbers a b c) out = put_number c (put_mark symbol.Colon (put_number b (put_mark symbol.Colon (put_number a out))))

abbrev pub put_delay : Delay → Tokens → Tokens
put_delay d out = put_mark symbol.RightParen (put_listed put_mtm d.values (put_mark symbol.LeftParen (mark_at symbol.Hash d.place out)))

-- ---- items

abbrev pub put_direction : Place → Direction → Tokens → Tokens
put_direction p direction.Input out = word_at keyword.Input p out
put_direction p direction.Output out = word_at keyword.Output p out

abbrev pub put_net_type : Place → NetType → Tokens → Tokens
put_net_type p net_type.Wire out = word_at keyword.Wire p out
put_net_type p net_type.Tri out = word_at keyword.Tri p out

abbrev pub put_supply : Place → Supply → Tokens → Tokens
put_supply p supply.Zero out = word_at keyword.Supply0 p out
put_supply p supply.One out = word_at keyword.Supply1 p out

abbrev pub put_gate : Place → GateKind → Tokens → Tokens
put_gate p gate_kind.And out = word_at keyword.And p out
put_gate p gate_kind.Nand out = word_at keyword.Nand p out
put_gate p gate_kind.Or out = word_at keyword.Or p out
put_gate p gate_kind.Nor out = word_at keyword.Nor p out
put_gate p gate_kind.Xor out = word_at keyword.Xor p out
put_gate p gate_kind.Xnor out = word_at keyword.Xnor p out
put_gate p gate_kind.Buf out = word_at keyword.Buf p out
put_gate p gate_kind.Not out = word_at keyword.Not p out
put_gate p gate_kind.Bufif0 out = word_at keyword.Bufif0 p out
put_gate p gate_kind.Bufif1 out = word_at keyword.Bufif1 p out
put_gate p gate_kind.Notif0 out = word_at keyword.Notif0 p out
put_gate p gate_kind.Notif1 out = word_at keyword.Notif1 p out

abbrev pub put_net_name : NetName → Tokens → Tokens
put_net_name n out = put_optional put_value n.value (put_name n.name out)

abbrev pub put_join : Join → Tokens → Tokens
put_join j out = put_value j.right (put_expression j.left out)

-- [ name ] "(", of which the first token has the place
abbrev pub put_opening : Place → Option Named → Tokens → Tokens
put_opening p None out = mark_at symbol.LeftParen p out
put_opening p (Some n) out = put_mark symbol.LeftParen (put_name n out)

abbrev pub put_gate_instance : GateInstance → Tokens → Tokens
put_gate_instance g out = put_mark symbol.RightParen (put_listed put_expression g.terminals (put_opening g.place g.name out))

abbrev pub put_named_connection : NamedConnection → Tokens → Tokens
put_named_connection c out = put_mark symbol.RightParen (put_optional put_expression c.value (put_mark symbol.LeftParen (put_name c.port (mark_at symbol.Point c.place out))))

abbrev pub put_connections : Connections → Tokens → Tokens
put_connections (by_order os) out = put_listed (put_optional put_expression) os out
put_connections (by_name cs) out = put_listed put_named_connection cs out

abbrev pub put_instance : Instance → Tokens → Tokens
put_instance i out = put_mark symbol.RightParen (put_connections i.connections (put_opening i.place i.name out))

-- ---- primitives

abbrev pub put_register_word : Bool → Tokens → Tokens
put_register_word true out = put_word keyword.Reg out
put_register_word false out = out

abbrev pub put_primitive_declaration : PrimitiveDeclaration → Tokens → Tokens
put_primitive_declaration (output_port p r n) out = put_mark symbol.Semicolon (put_name n (put_register_word r (word_at keyword.Output p out)))
put_primitive_declaration (output_register p n) out = put_mark symbol.Semicolon (put_name n (word_at keyword.Reg p out))
put_primitive_declaration (input_ports p ns) out = put_mark symbol.Semicolon (put_names ns (word_at keyword.Input p out))

abbrev pub put_initial_value : Value → Tokens → Tokens
put_initial_value Zero out = put_whole 0 out
put_initial_value One out = put_whole 1 out
put_initial_value X out = put_token (sized_token (X ∷ [])) nowhere out
put_initial_value Z out = put_token (sized_token (X ∷ [])) nowhere out

abbrev pub put_initial : Initial → Tokens → Tokens
put_initial i out = put_mark symbol.Semicolon (put_initial_value i.value (put_mark symbol.Assign (put_name i.name (word_at keyword.Initial i.place out))))

-- : ; ( )
abbrev pub put_cell : Place → Cell → Tokens → Tokens
put_cell p c out = if c.second == 0 then byte_at c.first p out else put_byte 41 (put_byte c.second (put_byte c.first (byte_at 40 p out)))

abbrev pub put_cells : Place → List Cell → Tokens → Tokens
put_cells p [] out = out
put_cells p (c ∷ cs) out = put_many (put_cell nowhere) cs (put_cell p c out)

abbrev pub put_column : Cell → Tokens → Tokens
put_column c out = put_cell nowhere c (put_byte 58 out)

abbrev pub put_row : RawRow → Tokens → Tokens
put_row r out = put_byte 59 (put_column r.out (put_optional put_column r.state (put_cells r.place r.inputs out)))

abbrev pub put_primitive : Primitive → Tokens → Tokens
put_primitive p out =
    put_word keyword.EndPrimitive (put_word keyword.EndTable (put_many put_row p.rows (put_word keyword.Table
    (put_optional put_initial p.initial (put_many put_primitive_declaration p.declarations
    (put_mark symbol.Semicolon (put_mark symbol.RightParen (put_names p.ports (put_mark symbol.LeftParen (put_name p.name (word_at keyword.Primitive p.place out)))))))))))

-- ---- steps of the loop over a concatenation

abbrev pub comma_if : Bool → Tokens → Tokens
comma_if true out = put_mark symbol.Comma out
comma_if false out = out

-- the parts that are left, with a comma before the first one or not
abbrev pub put_left : Bool → List Expression → Tokens → Tokens
put_left true es out = put_many (behind_comma put_expression) es out
put_left false es out = put_listed put_expression es out
