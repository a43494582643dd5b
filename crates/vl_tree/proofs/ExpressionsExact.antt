-- Each rule of names, ranges, expressions and delays is read exactly.
use Rattle.std.proofs.Common.{ℕ, zero, suc, refl}
use Rattle.vl_token.specs.declared.symbols.Symbol.TheVariants.{Comma, Colon, Hash, Minus, LeftBracket, RightBracket, LeftBrace, RightBrace, LeftParen, RightParen}
use Rattle.vl_tree.specs.Expressions.{name_parts, name, names_parts, names, int_parts, int, range_parts, range, select_parts, select, signal_parts, signal_rule, sized_parts, sized_rule, expression_parts, expression_to, expression, max_braces, number_parts, number, mtm_parts, mtm, mtms_parts, mtms, delay_parts, delay}
use Rattle.vl_tree.specs.Kinds.{is_name, is_number, is_whole, is_sized}
use Rattle.vl_tree.proofs.AllKinds.{apart, is_within}
use Rattle.vl_tree.proofs.Building.{IsExact, token, the_mark, then, made, behind, before, called, with_place, or, none, perhaps, with_commas, fork}

pub name-exact : IsExact name
unfolding name_parts
name-exact = called _ _ (token _ is_name) refl (is_within _ _ refl) (is_within _ _ refl)

pub names-exact : IsExact names
unfolding names_parts
names-exact = called _ _ (with_commas name-exact refl (apart _ _ refl)) refl (is_within _ _ refl) (is_within _ _ refl)

pub int-exact : IsExact int
unfolding int_parts
int-exact = called _ _ (made _ (then (perhaps (the_mark Minus) refl) (token _ is_whole) (apart _ _ refl))) refl (is_within _ _ refl) (is_within _ _ refl)

pub range-exact : IsExact range
unfolding range_parts
range-exact =
    let rest = behind (the_mark Colon) (before int-exact (the_mark RightBracket) (apart _ _ refl)) (apart _ _ refl) in
    called _ _ (made _ (with_place (behind (the_mark LeftBracket) (then int-exact rest (apart _ _ refl)) (apart _ _ refl)) refl)) refl (is_within _ _ refl) (is_within _ _ refl)

pub select-exact : IsExact select
unfolding select_parts
select-exact =
    let first = behind (the_mark LeftBracket) int-exact (apart _ _ refl) in
    let second = behind (the_mark Colon) (before int-exact (the_mark RightBracket) (apart _ _ refl)) (apart _ _ refl) in
    called _ _ (fork _ _ first (the_mark RightBracket) second refl refl refl (apart _ _ refl) (apart _ _ refl)) refl (is_within _ _ refl) (is_within _ _ refl)

pub signal-exact : IsExact signal_rule
unfolding signal_parts
signal-exact = called _ _ (made _ (then name-exact (perhaps select-exact refl) (apart _ _ refl))) refl (is_within _ _ refl) (is_within _ _ refl)

pub sized-exact : IsExact sized_rule
unfolding sized_parts
sized-exact = called _ _ (token _ is_sized) refl (is_within _ _ refl) (is_within _ _ refl)

pub expression_to-exact : (d : ℕ) → IsExact (expression_to d)
unfolding expression_parts
expression_to-exact zero = called _ _ (or signal-exact (or sized-exact none refl refl (apart _ _ refl)) refl refl (apart _ _ refl)) refl (is_within _ _ refl) (is_within _ _ refl)
expression_to-exact (suc d) =
    let parts = before (with_commas (expression_to-exact d) refl (apart _ _ refl)) (the_mark RightBrace) (apart _ _ refl) in
    let braces = made _ (with_place (behind (the_mark LeftBrace) parts (apart _ _ refl)) refl) in
    called _ _ (or signal-exact (or sized-exact (or braces none refl refl (apart _ _ refl)) refl refl (apart _ _ refl)) refl refl (apart _ _ refl)) refl (is_within _ _ refl) (is_within _ _ refl)

pub expression-exact : IsExact expression
expression-exact = expression_to-exact max_braces

pub number-exact : IsExact number
unfolding number_parts
number-exact = called _ _ (token _ is_number) refl (is_within _ _ refl) (is_within _ _ refl)

pub mtm-exact : IsExact mtm
unfolding mtm_parts
mtm-exact =
    let others = behind (the_mark Colon) (then number-exact (behind (the_mark Colon) number-exact (apart _ _ refl)) (apart _ _ refl)) (apart _ _ refl) in
    called _ _ (made _ (then number-exact (perhaps others refl) (apart _ _ refl))) refl (is_within _ _ refl) (is_within _ _ refl)

pub mtms-exact : IsExact mtms
unfolding mtms_parts
mtms-exact =
    let third = perhaps (behind (the_mark Comma) mtm-exact (apart _ _ refl)) refl in
    let others = perhaps (behind (the_mark Comma) (then mtm-exact third (apart _ _ refl)) (apart _ _ refl)) refl in
    called _ _ (made _ (then mtm-exact others (apart _ _ refl))) refl (is_within _ _ refl) (is_within _ _ refl)

pub delay-exact : IsExact delay
unfolding delay_parts
delay-exact =
    let several = behind (the_mark LeftParen) (before mtms-exact (the_mark RightParen) (apart _ _ refl)) (apart _ _ refl) in
    called _ _ (made _ (with_place (fork _ _ (the_mark Hash) number-exact several refl refl refl (apart _ _ refl) (apart _ _ refl)) refl)) refl (is_within _ _ refl) (is_within _ _ refl)
