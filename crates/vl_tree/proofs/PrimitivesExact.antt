-- Each rule of user-defined primitives is read exactly.
use Rattle.std.proofs.Common.{refl}
use Rattle.sg_text.specs.declared.words.Keyword.TheVariants as keyword
use Rattle.vl_token.specs.declared.symbols.Symbol.TheVariants.{Semicolon, LeftParen, RightParen, Assign}
use Rattle.vl_tree.specs.Kinds.{is_byte, is_initial_value, cell_byte, colon_byte, semicolon_byte, left_byte, right_byte}
use Rattle.vl_tree.specs.Primitives.{output_parts, output_rule, register_parts, register_rule, inputs_parts, inputs_rule, declaration_parts, declaration, initial_value_parts, initial_value, initial_parts, initial, symbol_parts, symbol_rule, cell_parts, cell, cells_parts, cells, row_parts, row, body_parts, body, primitive_parts, primitive}
use Rattle.vl_tree.proofs.AllKinds.{apart, is_within}
use Rattle.vl_tree.proofs.Building.{IsExact, token, the_mark, the_word, the_byte, then, made, behind, before, called, with_place, or, perhaps, repeated, fork}
use Rattle.vl_tree.proofs.ExpressionsExact.{name-exact, names-exact}

pub output-exact : IsExact output_rule
unfolding output_parts
output-exact =
    let rest = then (made _ (perhaps (the_word keyword.Reg) refl)) (before name-exact (the_mark Semicolon) (apart _ _ refl)) (apart _ _ refl) in
    called _ _ (made _ (with_place (behind (the_word keyword.Output) rest (apart _ _ refl)) refl)) refl (is_within _ _ refl) (is_within _ _ refl)

pub register-exact : IsExact register_rule
unfolding register_parts
register-exact = called _ _ (made _ (with_place (behind (the_word keyword.Reg) (before name-exact (the_mark Semicolon) (apart _ _ refl)) (apart _ _ refl)) refl)) refl (is_within _ _ refl) (is_within _ _ refl)

pub inputs-exact : IsExact inputs_rule
unfolding inputs_parts
inputs-exact = called _ _ (made _ (with_place (behind (the_word keyword.Input) (before names-exact (the_mark Semicolon) (apart _ _ refl)) (apart _ _ refl)) refl)) refl (is_within _ _ refl) (is_within _ _ refl)

pub declaration-exact : IsExact declaration
unfolding declaration_parts
declaration-exact = called _ _ (or output-exact (or register-exact inputs-exact refl refl (apart _ _ refl)) refl refl (apart _ _ refl)) refl (is_within _ _ refl) (is_within _ _ refl)

pub initial_value-exact : IsExact initial_value
unfolding initial_value_parts
initial_value-exact = called _ _ (token _ is_initial_value) refl (is_within _ _ refl) (is_within _ _ refl)

pub initial-exact : IsExact initial
unfolding initial_parts
initial-exact =
    let value = behind (the_mark Assign) (before initial_value-exact (the_mark Semicolon) (apart _ _ refl)) (apart _ _ refl) in
    called _ _ (made _ (with_place (behind (the_word keyword.Initial) (then name-exact value (apart _ _ refl)) (apart _ _ refl)) refl)) refl (is_within _ _ refl) (is_within _ _ refl)

pub symbol-exact : IsExact symbol_rule
unfolding symbol_parts
symbol-exact = called _ _ (token _ (is_byte cell_byte)) refl (is_within _ _ refl) (is_within _ _ refl)

pub cell-exact : IsExact cell
unfolding cell_parts
cell-exact =
    let pair = behind (the_byte left_byte) (then symbol-exact (before symbol-exact (the_byte right_byte) (apart _ _ refl)) (apart _ _ refl)) (apart _ _ refl) in
    called _ _ (or (made _ symbol-exact) (made _ pair) refl refl (apart _ _ refl)) refl (is_within _ _ refl) (is_within _ _ refl)

pub cells-exact : IsExact cells
unfolding cells_parts
cells-exact = called _ _ (made _ (then cell-exact (repeated cell-exact refl (apart _ _ refl)) (apart _ _ refl))) refl (is_within _ _ refl) (is_within _ _ refl)

pub row-exact : IsExact row
unfolding row_parts
row-exact =
    let first = then cells-exact (behind (the_byte colon_byte) cell-exact (apart _ _ refl)) (apart _ _ refl) in
    let second = behind (the_byte colon_byte) (before cell-exact (the_byte semicolon_byte) (apart _ _ refl)) (apart _ _ refl) in
    called _ _ (made _ (with_place (fork _ _ first (the_byte semicolon_byte) second refl refl refl (apart _ _ refl) (apart _ _ refl)) refl)) refl (is_within _ _ refl) (is_within _ _ refl)

pub body-exact : IsExact body
unfolding body_parts
body-exact =
    let ends = behind (the_word keyword.EndTable) (the_word keyword.EndPrimitive) (apart _ _ refl) in
    let table = behind (the_word keyword.Table) (before (repeated row-exact refl (apart _ _ refl)) ends (apart _ _ refl)) (apart _ _ refl) in
    called _ _ (then (repeated declaration-exact refl (apart _ _ refl)) (then (perhaps initial-exact refl) table (apart _ _ refl)) (apart _ _ refl)) refl (is_within _ _ refl) (is_within _ _ refl)

pub primitive-exact : IsExact primitive
unfolding primitive_parts
primitive-exact =
    let ports = then names-exact (behind (the_mark RightParen) (behind (the_mark Semicolon) body-exact (apart _ _ refl)) (apart _ _ refl)) (apart _ _ refl) in
    let all = behind (the_word keyword.Primitive) (then name-exact (behind (the_mark LeftParen) ports (apart _ _ refl)) (apart _ _ refl)) (apart _ _ refl) in
    called _ _ (made _ (with_place all refl)) refl (is_within _ _ refl) (is_within _ _ refl)
