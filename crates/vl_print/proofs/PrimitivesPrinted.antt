-- What is put for user-defined primitives spells them.
use Rattle.std.proofs.Common.{◌≡◌, ℕ, Bool, true, false, List, [], ◌∷◌, length, Option, Some, None, refl, sym, subst, ap, inl, inr}
use Rattle.std.specs.Prelude.{◌==◌, cond}
use Rattle.std.proofs.lemmas.Bool.{cases_Bool, eqb-true}
use Rattle.sg_logic.specs.declared.values.Value.{Value}
use Rattle.sg_logic.specs.declared.values.Value.TheVariants.{Zero, One, X, Z}
use Rattle.sg_text.specs.declared.places.Place.{Place}
use Rattle.sg_text.specs.declared.words.Keyword.TheVariants as keyword
use Rattle.grammar.specs.Exact.{Exact}
use Rattle.grammar.specs.Language.{image}
use Rattle.grammar.specs.Reads.{Appends}
use Rattle.grammar.specs.Rule.{◌∙∙◌, ◌▸◌, ◌◂◌}
use Rattle.grammar.proofs.Printing as printing
use Rattle.udp_rows.specs.declared.cells.Cell.{Cell}
use Rattle.vl_token.specs.declared.symbols.Symbol.TheVariants.{Semicolon, LeftParen, RightParen, Assign}
use Rattle.vl_token.specs.Tokens.{Meaning, module_word, word_token, left_out_token, name_token, system_token, other_token, number_token, sized_token, unsized_token, pair_token, symbol_token, byte_token}
use Rattle.vl_tree.specs.Expressions.{name, names}
use Rattle.vl_tree.specs.Kinds.{kind_of, is_byte, is_initial_value, cell_byte, colon_byte, semicolon_byte, left_byte, right_byte, kind_of_meaning, sized_kind, bits_kind, first_bit, byte_of, value_of}
use Rattle.vl_tree.specs.Primitives.{is_there, maybe_register, output_parts, output_rule, register_parts, register_rule, inputs_parts, inputs_rule, declaration_parts, declaration, initial_value_parts, initial_value, initial_parts, initial, symbol_parts, symbol_rule, columns_of, cell_of, cell_parts, cell, cells_parts, cells, row_parts, row, body_parts, body, primitive_parts, primitive}
use Rattle.vl_print.specs.Printing.{Tokens, nowhere, put_mark, put_word, put_byte, byte_at, put_optional, put_name, whole_number, put_register_word, put_primitive_declaration, put_initial_value, put_initial, put_cell, put_cells, put_column, put_row, put_primitive}
use Rattle.vl_tree.specs.Rules.{word, mark, byte, optional, many}
use Rattle.vl_tree.proofs.AllKinds.{apart}
use Rattle.vl_tree.proofs.Building.{the_word, the_byte, then, behind, perhaps, repeated, made}
use Rattle.vl_tree.proofs.ExpressionsExact.{name-exact, names-exact}
use Rattle.vl_print.proofs.ExpressionsPrinted.{name_prints, names_prints}
use Rattle.vl_tree.proofs.PrimitivesExact.{declaration-exact, initial_value-exact, initial-exact, symbol-exact, cell-exact, cells-exact, row-exact}
use Rattle.vl_print.proofs.Printed.{quoted_prints, behind_prints, before_prints, quoted_behind, mapped_first, first_prints, either_first, begins_with, spelled_as, BeginsAt, Prints, PrintsAt, IsSpelled, token_printed, mapped_prints, seq_prints, either_prints, optional_prints, many_prints, placed_prints, word_prints, behind_mark, before_mark, behind_word, word_comes_first}

-- ---- declarations

register_there : (o : Option (Unit {0})) (out : Tokens) → put_register_word (is_there o) out ≡ put_optional (λ _ out. put_word keyword.Reg out) o out
register_there None out = refl
register_there (Some w) out = refl

maybe_register_prints : Prints maybe_register.language put_register_word
maybe_register_prints = mapped_prints is_there _ _ put_register_word (optional_prints _ _ (word_prints keyword.Reg)) register_there

name_end : Prints (name ◂ mark Semicolon).language (λ n out. put_mark Semicolon (put_name n out))
name_end = before_mark Semicolon name _ name-exact name_prints

output_prints : Prints output_rule.language put_primitive_declaration
unfolding output_parts
output_prints =
    let rest = seq_prints maybe_register (name ◂ mark Semicolon).language _ _ (made _ (perhaps (the_word keyword.Reg) refl)) maybe_register_prints name_end in
    placed_prints _ _ _ put_primitive_declaration (word_comes_first keyword.Output (maybe_register ∙∙ (name ◂ mark Semicolon)).language _ rest) (λ x out. refl)

register_prints : Prints register_rule.language put_primitive_declaration
unfolding register_parts
register_prints = placed_prints _ _ _ put_primitive_declaration (word_comes_first keyword.Reg (name ◂ mark Semicolon).language _ name_end) (λ x out. refl)

inputs_prints : Prints inputs_rule.language put_primitive_declaration
unfolding inputs_parts
inputs_prints = placed_prints _ _ _ put_primitive_declaration (word_comes_first keyword.Input (names ◂ mark Semicolon).language _ (before_mark Semicolon names _ names-exact names_prints)) (λ x out. refl)

declaration_prints : Prints declaration.language put_primitive_declaration
unfolding declaration_parts
declaration_prints = either_prints _ _ put_primitive_declaration output_prints (either_prints _ _ put_primitive_declaration register_prints inputs_prints)

-- a value that a primitive begins with isn't z
bits_no_z : (bits : List Value) → is_initial_value (sized_kind (bits_kind bits)) ≡ true → first_bit bits ≡ Z → ⊥
bits_no_z [] h e = cc
bits_no_z (Zero ∷ []) h e = cc
bits_no_z (One ∷ []) h e = cc
bits_no_z (X ∷ []) h e = cc
bits_no_z (Z ∷ []) h e = cc
bits_no_z (v ∷ w ∷ vs) h e = cc

number_no_z : (b : Bool) → cond b Zero One ≡ Z → ⊥
number_no_z true e = cc
number_no_z false e = cc

no_z : (m : Meaning) → is_initial_value (kind_of_meaning m) ≡ true → value_of m ≡ Z → ⊥
no_z (number_token n whole) h e = number_no_z (n.digits == 0) e
no_z (sized_token bits) h e = bits_no_z bits h e
no_z (module_word s) h e = cc
no_z (word_token w) h e = cc
no_z (left_out_token text) h e = cc
no_z (name_token text) h e = cc
no_z (system_token text) h e = cc
no_z (other_token text) h e = cc
no_z (unsized_token bits) h e = cc
no_z (pair_token from to) h e = cc
no_z (symbol_token s) h e = cc
no_z (byte_token b) h e = cc

initial_value_prints : Prints initial_value.language put_initial_value
unfolding initial_value_parts
initial_value_prints Zero s out = token_printed (λ t. value_of t.meaning) is_initial_value (number_token (whole_number 0) true) nowhere Zero out refl refl
initial_value_prints One s out = token_printed (λ t. value_of t.meaning) is_initial_value (number_token (whole_number 1) true) nowhere One out refl refl
initial_value_prints X s out = token_printed (λ t. value_of t.meaning) is_initial_value (sized_token (X ∷ [])) nowhere X out refl refl
initial_value_prints Z (ts, i, j, (t, e, (at, is, end))) out = absurd (no_z t.meaning is e)

initial_prints : Prints initial.language put_initial
unfolding initial_parts
initial_prints =
    let value = behind_mark Assign (initial_value ◂ mark Semicolon).language _ (before_mark Semicolon initial_value _ initial_value-exact initial_value_prints) in
    placed_prints _ _ _ put_initial (word_comes_first keyword.Initial (name ∙∙ (mark Assign ▸ (initial_value ◂ mark Semicolon))).language _ (seq_prints name _ _ _ name-exact name_prints value)) (λ x out. refl)

-- ---- rows

-- a symbol's byte is a symbol wherever it stands
is_symbol_byte : (m : Meaning) → is_byte cell_byte (kind_of_meaning m) ≡ true → is_byte cell_byte (kind_of_meaning (byte_token (byte_of m))) ≡ true
is_symbol_byte (byte_token b) h = h
is_symbol_byte (number_token n whole) h = absurd cc
is_symbol_byte (sized_token bits) h = absurd cc
is_symbol_byte (module_word s) h = absurd cc
is_symbol_byte (word_token w) h = absurd cc
is_symbol_byte (left_out_token text) h = absurd cc
is_symbol_byte (name_token text) h = absurd cc
is_symbol_byte (system_token text) h = absurd cc
is_symbol_byte (other_token text) h = absurd cc
is_symbol_byte (unsized_token bits) h = absurd cc
is_symbol_byte (pair_token from to) h = absurd cc
is_symbol_byte (symbol_token s) h = absurd cc

spelled_symbol : (b : ℕ) → IsSpelled symbol_rule.language b → is_byte cell_byte (kind_of_meaning (byte_token b)) ≡ true
unfolding symbol_parts
spelled_symbol b (ts, i, j, (t, e, (at, is, end))) = subst (λ (c : ℕ). is_byte cell_byte (kind_of_meaning (byte_token c)) ≡ true) e (is_symbol_byte t.meaning is)

symbol_printed : (b : ℕ) → is_byte cell_byte (kind_of_meaning (byte_token b)) ≡ true → (p : Place) (out : Tokens) → Appends symbol_rule.language out (byte_at b p out) b
unfolding symbol_parts
symbol_printed b h p out = token_printed (λ t. byte_of t.meaning) (is_byte cell_byte) (byte_token b) p b out refl h

symbol_prints : Prints symbol_rule.language put_byte
symbol_prints b s out = symbol_printed b (spelled_symbol b s) nowhere out

-- one symbol, and a pair
single_cell : (a : ℕ) → is_byte cell_byte (kind_of_meaning (byte_token a)) ≡ true → (p : Place) (out : Tokens) → Appends cell.language out (byte_at a p out) (cell_of a 0) × BeginsAt p (length out) (byte_at a p out)
unfolding cell_parts
single_cell a h p out =
    let one = printing.appends_mapped (λ b. cell_of b 0) symbol_rule.language out (byte_at a p out) a (symbol_printed a h p out) in
    (printing.appends_left _ (image (λ (x : ℕ × ℕ). cell_of x.0 x.1) (byte left_byte ▸ (symbol_rule ∙∙ (symbol_rule ◂ byte right_byte))).language) out (byte_at a p out) (cell_of a 0) one, begins_with (byte_token a) p out)

abbrev put_pair : ℕ × ℕ → Tokens → Tokens
put_pair x out = put_byte 41 (put_byte x.1 (put_byte x.0 out))

inner_pair : Prints (symbol_rule ∙∙ (symbol_rule ◂ byte right_byte)).language put_pair
inner_pair = seq_prints symbol_rule (symbol_rule ◂ byte right_byte).language put_byte _ symbol-exact symbol_prints (before_prints (is_byte right_byte) (byte_token 41) nowhere symbol_rule put_byte symbol-exact refl symbol_prints)

pair_cell : (p : Place) (x : ℕ × ℕ) → IsSpelled (byte left_byte ▸ (symbol_rule ∙∙ (symbol_rule ◂ byte right_byte))).language x → (out : Tokens) → Appends cell.language out (put_pair x (byte_at 40 p out)) (cell_of x.0 x.1) × BeginsAt p (length out) (put_pair x (byte_at 40 p out))
unfolding cell_parts
pair_cell p x s out =
    let q = quoted_behind (is_byte left_byte) (byte_token 40) (symbol_rule ∙∙ (symbol_rule ◂ byte right_byte)).language put_pair (the_byte left_byte) refl inner_pair p x s out in
    (printing.appends_right (image (λ (b : ℕ). cell_of b 0) symbol_rule.language) _ out (put_pair x (byte_at 40 p out)) (cell_of x.0 x.1) (printing.appends_mapped (λ (x : ℕ × ℕ). cell_of x.0 x.1) (byte left_byte ▸ (symbol_rule ∙∙ (symbol_rule ◂ byte right_byte))).language out (put_pair x (byte_at 40 p out)) x q.0), q.1)

first_of_pair : (x : ℕ × ℕ) → IsSpelled (byte left_byte ▸ (symbol_rule ∙∙ (symbol_rule ◂ byte right_byte))).language x → IsSpelled symbol_rule.language x.0
first_of_pair x (ts, i, j, ((w, y), e, (m, q, (n, s, u)))) = spelled_as symbol_rule.language y.0 x.0 (ap (λ (z : ℕ × ℕ). z.0) e) (ts, m, n, s)

abbrev IsPrinted : Place → Cell → Tokens → Type 0
IsPrinted p c out = Appends cell.language out (put_cell p c out) c × BeginsAt p (length out) (put_cell p c out)

pair_printed : (p : Place) (a b : ℕ) → IsSpelled (byte left_byte ▸ (symbol_rule ∙∙ (symbol_rule ◂ byte right_byte))).language (a, b) → (out : Tokens) → IsPrinted p (cell_of a b) out
pair_printed p a b s out = elim (cases_Bool (b == 0)) [
  | inl zero ↦ subst (λ (n : ℕ). IsPrinted p (cell_of a n) out) (sym (eqb-true b 0 zero)) (single_cell a (spelled_symbol a (first_of_pair (a, b) s)) p out)
  | inr more ↦ rw more (pair_cell p (a, b) s out)
]

cell_printed : (p : Place) (c : Cell) → IsSpelled cell.language c → (out : Tokens) → IsPrinted p c out
unfolding cell_parts
cell_printed p c (ts, i, j, inl (b, e, s)) out = subst (λ (d : Cell). IsPrinted p d out) e (single_cell b (spelled_symbol b (ts, i, j, s)) p out)
cell_printed p c (ts, i, j, inr ((a, b), e, s)) out = subst (λ (d : Cell). IsPrinted p d out) e (pair_printed p a b (ts, i, j, s) out)

cell_prints : Prints cell.language (put_cell nowhere)
cell_prints c s out = (cell_printed nowhere c s out).0

cell_first : PrintsAt cell.language put_cell
cell_first p c s out = cell_printed p c (s.0, s.1, s.2, s.3.3) out

cells_first : PrintsAt cells.language put_cells
unfolding cells_parts
cells_first = mapped_first (λ x. x.0 ∷ x.1) _ _ put_cells (first_prints cell (many cell).language put_cell _ cell-exact refl cell_first (many_prints cell (put_cell nowhere) cell-exact cell_prints)) (λ p x out. refl)

column_prints : Prints (byte colon_byte ▸ cell).language put_column
column_prints = behind_prints (is_byte colon_byte) (byte_token 58) nowhere cell.language (put_cell nowhere) (the_byte colon_byte) refl cell_prints

abbrev Columns : Type 0
Columns = List Cell × (Option Cell × Cell)

abbrev put_columns : Place → Columns → Tokens → Tokens
put_columns p x out = put_byte 59 (put_column x.1.1 (put_optional put_column x.1.0 (put_cells p x.0 out)))

front_first : PrintsAt (cells ∙∙ (byte colon_byte ▸ cell)).language (λ p x out. put_column x.1 (put_cells p x.0 out))
front_first = first_prints cells (byte colon_byte ▸ cell).language put_cells put_column cells-exact refl cells_first column_prints

front-exact : Exact kind_of (cells ∙∙ (byte colon_byte ▸ cell))
front-exact = then cells-exact (behind (the_byte colon_byte) cell-exact (apart _ _ refl)) (apart _ _ refl)

row_prints : Prints row.language put_row
unfolding row_parts
row_prints =
    let last = quoted_prints (is_byte semicolon_byte) (byte_token 59) nowhere refl in
    let one = mapped_first (λ x. columns_of x.0.0 None x.0.1) _ _ put_columns (first_prints (cells ∙∙ (byte colon_byte ▸ cell)) (byte semicolon_byte).language _ _ front-exact refl front_first last) (λ p x out. refl) in
    let ended = before_prints (is_byte semicolon_byte) (byte_token 59) nowhere cell (put_cell nowhere) cell-exact refl cell_prints in
    let second = behind_prints (is_byte colon_byte) (byte_token 58) nowhere (cell ◂ byte semicolon_byte).language _ (the_byte colon_byte) refl ended in
    let two = mapped_first (λ x. columns_of x.0.0 (Some x.0.1) x.1) _ _ put_columns (first_prints (cells ∙∙ (byte colon_byte ▸ cell)) (byte colon_byte ▸ (cell ◂ byte semicolon_byte)).language _ _ front-exact refl front_first second) (λ p x out. refl) in
    placed_prints _ _ _ put_row (either_first _ _ put_columns one two) (λ x out. refl)

-- ---- the whole

pub primitive_prints : Prints primitive.language put_primitive
unfolding primitive_parts body_parts
primitive_prints =
    let ends = behind_word keyword.EndTable (word keyword.EndPrimitive).language _ (word_prints keyword.EndPrimitive) in
    let rows = many_prints row _ row-exact row_prints in
    let closed = mapped_prints _ _ _ _ (seq_prints (many row) _ _ _ (repeated row-exact refl (apart _ _ refl)) rows ends) (λ x out. refl) in
    let table = behind_word keyword.Table (many row ◂ (word keyword.EndTable ▸ word keyword.EndPrimitive)).language _ closed in
    let begun = seq_prints (optional initial) (word keyword.Table ▸ (many row ◂ (word keyword.EndTable ▸ word keyword.EndPrimitive))).language _ _ (perhaps initial-exact refl) (optional_prints _ _ initial_prints) table in
    let all = seq_prints (many declaration) (optional initial ∙∙ (word keyword.Table ▸ (many row ◂ (word keyword.EndTable ▸ word keyword.EndPrimitive)))).language _ _ (repeated declaration-exact refl (apart _ _ refl)) (many_prints declaration _ declaration-exact declaration_prints) begun in
    let ported = seq_prints names (mark RightParen ▸ (mark Semicolon ▸ body)).language _ _ names-exact names_prints (behind_mark RightParen (mark Semicolon ▸ body).language _ (behind_mark Semicolon body.language _ all)) in
    let named = seq_prints name (mark LeftParen ▸ (names ∙∙ (mark RightParen ▸ (mark Semicolon ▸ body)))).language _ _ name-exact name_prints (behind_mark LeftParen (names ∙∙ (mark RightParen ▸ (mark Semicolon ▸ body))).language _ ported) in
    placed_prints _ _ _ put_primitive (word_comes_first keyword.Primitive (name ∙∙ (mark LeftParen ▸ (names ∙∙ (mark RightParen ▸ (mark Semicolon ▸ body))))).language _ named) (λ x out. refl)
