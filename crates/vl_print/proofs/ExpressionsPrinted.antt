-- What is put for names, ranges, expressions and delays spells them.
use Rattle.std.proofs.Common.{◌≡◌, ℕ, zero, suc, ◌<◌, ◌^◌, Bool, true, false, List, [], ◌∷◌, map, Option, Some, None, refl, sym, subst, ap, ◌∙◌, arith, inl, inr}
use Rattle.std.specs.Prelude.{pos, neg_ℤ, slice_get, option_map}
use Rattle.std.proofs.lemmas.Bool.{lt-ltb}
use Rattle.std.proofs.lemmas.Option.{slice_get-map}
use Rattle.sg_text.specs.declared.places.Place.{Place}
use Rattle.sg_time.specs.Spelling.{Number}
use Rattle.grammar.specs.Language.{image, sequence}
use Rattle.grammar.specs.Reads.{Appends}
use Rattle.grammar.specs.Rule.{one, ◌∙∙◌, ◌▸◌, ◌◂◌}
use Rattle.grammar.proofs.Printing as printing
use Rattle.vl_token.specs.declared.symbols.Symbol.TheVariants.{Comma, Colon, Hash, Minus, LeftBracket, RightBracket, LeftBrace, RightBrace, LeftParen, RightParen}
use Rattle.vl_token.specs.declared.tokens.Token.{Token}
use Rattle.vl_token.specs.declared.tokens.TokenKind.{TokenKind}
use Rattle.vl_token.specs.declared.tokens.TokenKind.TheVariants as token
use Rattle.vl_token.specs.Seen.{lexeme, meaning}
use Rattle.vl_token.specs.Tokens.{Lexeme, Meaning, module_word, word_token, left_out_token, name_token, system_token, other_token, number_token, sized_token, unsized_token, pair_token, symbol_token, byte_token}
use Rattle.vl_tree.specs.declared.expressions.Select.TheVariants.{Bit, Part}
use Rattle.vl_tree.specs.Expressions.{name_parts, name, names_parts, names, signed, whole, int_parts, int, range_parts, range, select_parts, select, signal_parts, signal_rule, sized_parts, sized_rule, expression_parts, expression_to, expression, max_braces, number_parts, number, mtm_of, mtm_parts, mtm, mtms_of, mtms_parts, mtms, delay_parts, delay}
use Rattle.vl_tree.specs.Kinds.{Kind, kind_of, kind_of_meaning, is_symbol, is_name, is_number, is_whole, is_sized, number_of, bits_of, text_of}
use Rattle.vl_print.specs.Printing.{Tokens, nowhere, put_mark, mark_at, put_optional, put_many, behind_comma, put_listed, put_name, put_names, eighteen_digits, whole_number, put_whole, put_int, put_range, put_select, put_expression, put_expressions, put_others, put_number, put_mtm, put_delay}
use Rattle.vl_tree.specs.Rules.{mark, placed, optional, listed}
use Rattle.vl_tree.specs.Tree.{Named, Expression, signal, sized, concatenation, expressions, MinTypMax, one_number}
use Rattle.vl_tree.proofs.AllKinds.{apart}
use Rattle.vl_tree.proofs.Building.{the_mark, behind, with_commas, perhaps}
use Rattle.vl_tree.proofs.ExpressionsExact.{name-exact, int-exact, expression_to-exact, number-exact, mtm-exact, mtms-exact}
use Rattle.vl_tree.proofs.Lists.{comma_name, comma_expression}
use Rattle.vl_print.proofs.Printed.{quoted_printed, Prints, Own, IsSpelled, token_printed, mapped_prints, seq_prints, either_prints, optional_prints, placed_prints, listed_prints, mark_prints, nothing_prints, behind_mark, before_mark, mark_first, own_mapped, own_seq, own_either, own_nothing, own_placed, own_token, begins_with, begins_behind, longer, placed_printed, spelled_as}

-- the text of a token of a kind is of that kind, where only names are
pub text_is : (is : Kind → Bool) → ((m : Meaning) → is (kind_of_meaning m) ≡ true → kind_of_meaning m ≡ kind_of_meaning (name_token (text_of m))) → (x : Named)
    → IsSpelled (image (λ t. record { text = text_of t.meaning; place = t.place }) (one kind_of is).language) x → is (kind_of_meaning (name_token x.text)) ≡ true
text_is is only x (ts, i, j, (t, e, (at, h, end))) = subst (λ (y : Named). is (kind_of_meaning (name_token y.text)) ≡ true) e (subst (λ (k : Kind). is k ≡ true) (only t.meaning h) h)

is_same_name : (m : Meaning) → is_name (kind_of_meaning m) ≡ true → kind_of_meaning m ≡ kind_of_meaning (name_token (text_of m))
is_same_name (name_token text) h = refl
is_same_name (module_word s) h = absurd cc
is_same_name (word_token w) h = absurd cc
is_same_name (left_out_token text) h = absurd cc
is_same_name (system_token text) h = absurd cc
is_same_name (other_token text) h = absurd cc
is_same_name (number_token n whole) h = absurd cc
is_same_name (sized_token bits) h = absurd cc
is_same_name (unsized_token bits) h = absurd cc
is_same_name (pair_token from to) h = absurd cc
is_same_name (symbol_token s) h = absurd cc
is_same_name (byte_token b) h = absurd cc

pub name_prints : Prints name.language put_name
unfolding name_parts
name_prints x s out = token_printed (λ t. record { text = text_of t.meaning; place = t.place }) is_name (name_token x.text) x.place x out refl (text_is is_name is_same_name x s)

pub name_own : Own name.language put_name
unfolding name_parts
name_own = own_token (λ t. record { text = text_of t.meaning; place = t.place }) is_name put_name (λ t out. begins_with (name_token (text_of t.meaning)) t.place out)

pub names_prints : Prints names.language put_names
unfolding names_parts
names_prints = listed_prints name put_name name-exact comma_name name_prints

-- ---- numbers of bits

-- a token has at most 18 digits
few_digits : (k : TokenKind) → (number_of (meaning k)).digits < 10 ^ 18
few_digits (token.Number d whole) = d.few
few_digits (token.Module m) = omega arith
few_digits (token.Word w) = omega arith
few_digits (token.LeftOut t) = omega arith
few_digits (token.Name t) = omega arith
few_digits (token.System t) = omega arith
few_digits (token.Sized c) = omega arith
few_digits (token.Unsized base digits) = omega arith
few_digits (token.Pair from to) = omega arith
few_digits (token.Symbol s) = omega arith
few_digits (token.Byte b) = omega arith
few_digits (token.Other t) = omega arith

few_there : (ts : List Token) (i : ℕ) (t : Lexeme) → slice_get (map lexeme ts) i ≡ Some t → (number_of t.meaning).digits < 10 ^ 18
few_there ts i t e = go (slice_get ts i) (sym (slice_get-map lexeme ts i) ∙ e)
  where
    go : (o : Option Token) → option_map lexeme o ≡ Some t → (number_of t.meaning).digits < 10 ^ 18
    go None e = absurd (let f : None ≡ Some t = e in cc)
    go (Some u) e = let f : lexeme u ≡ t = (let g : Some (lexeme u) ≡ Some t = e in cc) in subst (λ (v : Lexeme). (number_of v.meaning).digits < 10 ^ 18) f (few_digits u.kind)

kept : (n : ℕ) → n < 10 ^ 18 → eighteen_digits n ≡ n
kept n lt = rw (lt-ltb n (10 ^ 18) lt) refl

whole_printed : (n : ℕ) → n < 10 ^ 18 → (out : Tokens) → Appends whole.language out (put_whole n out) n
whole_printed n lt out = token_printed (λ t. (number_of t.meaning).digits) is_whole (number_token (whole_number (eighteen_digits n)) true) nowhere n out (kept n lt) refl

-- without a sign, and with one
plain_printed : (n : ℕ) → n < 10 ^ 18 → (out : Tokens) → Appends int.language out (put_whole n out) (pos n)
unfolding int_parts
plain_printed n few out =
    printing.appends_mapped (λ y. signed y.0 y.1) (sequence (optional (mark Minus)).language whole.language) out (put_whole n out) (None, n)
    (printing.appends_seq kind_of (optional (mark Minus)) whole.language (perhaps (the_mark Minus) refl) out out (put_whole n out) None n (printing.appends_none (mark Minus).language out) (whole_printed n few out))

signed_printed : (n : ℕ) → n < 10 ^ 18 → (out : Tokens) → Appends int.language out (put_whole n (put_mark Minus out)) (neg_ℤ (pos n))
unfolding int_parts
signed_printed n few out =
    let mid = put_mark Minus out in
    printing.appends_mapped (λ y. signed y.0 y.1) (sequence (optional (mark Minus)).language whole.language) out (put_whole n mid) (Some tt, n)
    (printing.appends_seq kind_of (optional (mark Minus)) whole.language (perhaps (the_mark Minus) refl) out mid (put_whole n mid) (Some tt) n (printing.appends_some (mark Minus).language out mid tt (quoted_printed (is_symbol Minus) (symbol_token Minus) nowhere out refl)) (whole_printed n few mid))

negative_printed : (n : ℕ) → n < 10 ^ 18 → (out : Tokens) → Appends int.language out (put_int (neg_ℤ (pos n)) out) (neg_ℤ (pos n))
negative_printed zero few out = plain_printed 0 few out
negative_printed (suc n) few out = signed_printed (suc n) few out

pub int_prints : Prints int.language put_int
unfolding int_parts
int_prints x (ts, i, j, ((None, n), e, (m, s, (t, is, there)))) out =
    subst (λ z. Appends int.language out (put_int z out) z) e (plain_printed n (subst (λ (k : ℕ). k < 10 ^ 18) is (few_there ts m t there.0)) out)
int_prints x (ts, i, j, ((Some w, n), e, (m, s, (t, is, there)))) out =
    subst (λ z. Appends int.language out (put_int z out) z) e (negative_printed n (subst (λ (k : ℕ). k < 10 ^ 18) is (few_there ts m t there.0)) out)

-- ---- ranges and selects

pub range_prints : Prints range.language put_range
unfolding range_parts
range_prints =
    let last = before_mark RightBracket int put_int int-exact int_prints in
    let second = behind_mark Colon (int ◂ mark RightBracket).language _ last in
    let both = seq_prints int (mark Colon ▸ (int ◂ mark RightBracket)).language _ _ int-exact int_prints second in
    placed_prints _ _ _ put_range (mark_first LeftBracket (int ∙∙ (mark Colon ▸ (int ◂ mark RightBracket))).language _ both) (λ x out. refl)

pub select_prints : Prints select.language put_select
unfolding select_parts
select_prints =
    let first = behind_mark LeftBracket int.language _ int_prints in
    let first_exact = behind (the_mark LeftBracket) int-exact (apart _ _ refl) in
    let one = seq_prints (mark LeftBracket ▸ int) (mark RightBracket).language _ _ first_exact first (mark_prints RightBracket) in
    let second = behind_mark Colon (int ◂ mark RightBracket).language _ (before_mark RightBracket int put_int int-exact int_prints) in
    let two = seq_prints (mark LeftBracket ▸ int) (mark Colon ▸ (int ◂ mark RightBracket)).language _ _ first_exact first second in
    either_prints _ _ put_select (mapped_prints (λ x. Bit x.0) _ _ put_select one (λ x out. refl)) (mapped_prints (λ x. Part x.0 x.1) _ _ put_select two (λ x out. refl))

-- ---- expressions

signal_prints : Prints signal_rule.language put_expression
unfolding signal_parts
signal_prints = mapped_prints (λ x. signal x.0 x.1) _ _ put_expression (seq_prints name (optional select).language _ _ name-exact name_prints (optional_prints select.language _ select_prints)) (λ x out. refl)

signal_own : Own signal_rule.language put_expression
unfolding signal_parts
signal_own = own_mapped (λ x. signal x.0 x.1) (sequence name.language (optional select).language) _ put_expression (own_seq name (optional select).language _ _ name-exact refl name_prints (optional_prints select.language _ select_prints) name_own) (λ x out. refl)

sized_prints : Prints sized_rule.language put_expression
unfolding sized_parts
sized_prints x (ts, i, j, (t, e, there)) out =
    subst (λ z. Appends sized_rule.language out (put_expression z out) z) e (token_printed (λ t. sized t.place (bits_of t.meaning)) is_sized (sized_token (bits_of t.meaning)) t.place (sized t.place (bits_of t.meaning)) out refl refl)

sized_own : Own sized_rule.language put_expression
unfolding sized_parts
sized_own = own_token (λ t. sized t.place (bits_of t.meaning)) is_sized put_expression (λ t out. begins_with (sized_token (bits_of t.meaning)) t.place out)

others_listed : (es : List Expression) (out : Tokens) → put_others (expressions es) out ≡ put_many (behind_comma put_expression) es out
others_listed [] out = refl
others_listed (e ∷ es) out = others_listed es (put_expression e (put_mark Comma out))

pub all_listed : (es : List Expression) (out : Tokens) → put_expressions (expressions es) out ≡ put_listed put_expression es out
all_listed [] out = refl
all_listed (e ∷ es) out = others_listed es (put_expression e out)

pub expression_to_prints : (d : ℕ) → Prints (expression_to d).language put_expression
unfolding expression_parts
expression_to_prints zero = either_prints _ _ put_expression signal_prints (either_prints _ _ put_expression sized_prints (nothing_prints put_expression))
expression_to_prints (suc d) =
    let parts = listed_prints (expression_to d) put_expression (expression_to-exact d) (comma_expression d) (expression_to_prints d) in
    let closed = before_mark RightBrace (listed (expression_to d)) _ (with_commas (expression_to-exact d) refl (apart _ _ refl)) parts in
    let braces = placed_prints (λ x. concatenation x.0 (expressions x.1)) _ _ put_expression (mark_first LeftBrace (listed (expression_to d) ◂ mark RightBrace).language _ closed) (λ x out. ap (put_mark RightBrace) (all_listed x.1 (mark_at LeftBrace x.0 out))) in
    either_prints _ _ put_expression signal_prints (either_prints _ _ put_expression sized_prints (either_prints _ _ put_expression braces (nothing_prints put_expression)))

pub expression_to_own : (d : ℕ) → Own (expression_to d).language put_expression
unfolding expression_parts
expression_to_own zero = own_either _ _ put_expression signal_own (own_either _ _ put_expression sized_own (own_nothing put_expression))
expression_to_own (suc d) =
    let parts = listed_prints (expression_to d) put_expression (expression_to-exact d) (comma_expression d) (expression_to_prints d) in
    let closed = before_mark RightBrace (listed (expression_to d)) _ (with_commas (expression_to-exact d) refl (apart _ _ refl)) parts in
    let braces = own_placed (mark LeftBrace ▸ (listed (expression_to d) ◂ mark RightBrace)).language _ (mark_first LeftBrace (listed (expression_to d) ◂ mark RightBrace).language _ closed) in
    let own = own_mapped (λ x. concatenation x.0 (expressions x.1)) (placed (mark LeftBrace ▸ (listed (expression_to d) ◂ mark RightBrace))).language _ put_expression braces (λ x out. ap (put_mark RightBrace) (all_listed x.1 (mark_at LeftBrace x.0 out))) in
    own_either _ _ put_expression signal_own (own_either _ _ put_expression sized_own (own_either _ _ put_expression own (own_nothing put_expression)))

pub expression_prints : Prints expression.language put_expression
expression_prints = expression_to_prints max_braces

pub expression_own : Own expression.language put_expression
expression_own = expression_to_own max_braces

-- ---- delays

pub number_prints : Prints number.language put_number
unfolding number_parts
number_prints x s out = token_printed (λ t. number_of t.meaning) is_number (number_token x false) nowhere x out refl refl

abbrev put_others_of_mtm : Number × Number → Tokens → Tokens
put_others_of_mtm p out = put_number p.1 (put_mark Colon (put_number p.0 (put_mark Colon out)))

mtm_same : (n : Number) (o : Option (Number × Number)) (out : Tokens) → put_mtm (mtm_of n o) out ≡ put_optional put_others_of_mtm o (put_number n out)
mtm_same n None out = refl
mtm_same n (Some p) out = refl

pub mtm_prints : Prints mtm.language put_mtm
unfolding mtm_parts
mtm_prints =
    let pair = seq_prints number (mark Colon ▸ number).language _ _ number-exact number_prints (behind_mark Colon number.language _ number_prints) in
    let others = optional_prints _ _ (behind_mark Colon (number ∙∙ (mark Colon ▸ number)).language _ pair) in
    mapped_prints (λ x. mtm_of x.0 x.1) _ _ put_mtm (seq_prints number _ _ _ number-exact number_prints others) (λ x out. mtm_same x.0 x.1 out)

abbrev put_third : MinTypMax → Tokens → Tokens
put_third c out = put_mtm c (put_mark Comma out)

abbrev put_second : MinTypMax × Option MinTypMax → Tokens → Tokens
put_second p out = put_optional put_third p.1 (put_mtm p.0 (put_mark Comma out))

mtms_same : (a : MinTypMax) (o : Option (MinTypMax × Option MinTypMax)) (out : Tokens) → put_listed put_mtm (mtms_of a o) out ≡ put_optional put_second o (put_mtm a out)
mtms_same a None out = refl
mtms_same a (Some (b, None)) out = refl
mtms_same a (Some (b, Some c)) out = refl

mtms_prints : Prints mtms.language (put_listed put_mtm)
unfolding mtms_parts
mtms_prints =
    let third = optional_prints _ _ (behind_mark Comma mtm.language _ mtm_prints) in
    let second = optional_prints _ _ (behind_mark Comma (mtm ∙∙ optional (mark Comma ▸ mtm)).language _ (seq_prints mtm _ _ _ mtm-exact mtm_prints third)) in
    mapped_prints (λ x. mtms_of x.0 x.1) _ _ (put_listed put_mtm) (seq_prints mtm _ _ _ mtm-exact mtm_prints second) (λ x out. mtms_same x.0 x.1 out)

-- a number alone is the first of the delays in parentheses
one_mtm : (n : Number) → IsSpelled number.language n → IsSpelled mtms.language (one_number n ∷ [])
unfolding mtms_parts mtm_parts
one_mtm n (ts, i, j, s) = (ts, i, j, ((one_number n, None), refl, (j, ((n, None), refl, (j, s, refl)), refl)))

-- "(" mtms ")" behind the "#"
in_parentheses : (values : List MinTypMax) → IsSpelled mtms.language values → (out : Tokens) → Appends (mark LeftParen ▸ (mtms ◂ mark RightParen)).language out (put_mark RightParen (put_listed put_mtm values (put_mark LeftParen out))) values
in_parentheses values s out =
    let opened = put_mark LeftParen out in
    let listed_there = put_listed put_mtm values opened in
    let closed = put_mark RightParen listed_there in
    let inner = printing.appends_mapped (λ (x : List MinTypMax × Unit {0}). x.0) (sequence mtms.language (mark RightParen).language) opened closed (values, tt)
    (printing.appends_seq kind_of mtms (mark RightParen).language mtms-exact opened listed_there closed values tt (mtms_prints values s opened) (quoted_printed (is_symbol RightParen) (symbol_token RightParen) nowhere listed_there refl)) in
    printing.appends_mapped (λ (x : Unit {0} × List MinTypMax). x.1) (sequence (mark LeftParen).language (mtms ◂ mark RightParen).language) out closed (tt, values)
    (printing.appends_seq kind_of (mark LeftParen) (mtms ◂ mark RightParen).language (the_mark LeftParen) out opened closed tt values (quoted_printed (is_symbol LeftParen) (symbol_token LeftParen) nowhere out refl) inner)

several_printed : (p : Place) (values : List MinTypMax) → IsSpelled mtms.language values → (out : Tokens) → Appends delay.language out (put_delay (record { place = p; values = values }) out) (record { place = p; values = values })
unfolding delay_parts
several_printed p values s out =
    let hash = mark_at Hash p out in
    let new = put_mark RightParen (put_listed put_mtm values (put_mark LeftParen hash)) in
    let rest = in_parentheses values s hash in
    let whole = printing.appends_mapped (λ (x : Unit {0} × List MinTypMax). x.1) (sequence (mark Hash).language (mark LeftParen ▸ (mtms ◂ mark RightParen)).language) out new (tt, values)
    (printing.appends_seq kind_of (mark Hash) (mark LeftParen ▸ (mtms ◂ mark RightParen)).language (the_mark Hash) out hash new tt values (quoted_printed (is_symbol Hash) (symbol_token Hash) p out refl) rest) in
    let first = begins_behind (mark LeftParen ▸ (mtms ◂ mark RightParen)).language p out hash new values (longer out (record { meaning = symbol_token Hash; place = p })) (begins_with (symbol_token Hash) p out) rest in
    placed_printed (λ x. record { place = x.0; values = x.1 }) _ p values out new (printing.appends_right (image (λ (x : Unit {0} × Number). one_number x.1 ∷ []) (sequence (mark Hash).language number.language)) (image (λ (x : Unit {0} × List MinTypMax). x.1) (sequence (mark Hash).language (mark LeftParen ▸ (mtms ◂ mark RightParen)).language)) out new values whole) first

pub delay_prints : Prints delay.language put_delay
unfolding delay_parts
delay_prints d (ts, i, j, ((p, values), e, (t, at, place, inl ((u, n), is, (m, h, s))))) out =
    subst (λ z. Appends delay.language out (put_delay z out) z) e (several_printed p values (spelled_as mtms.language (one_number n ∷ []) values is (one_mtm n (ts, m, j, s))) out)
delay_prints d (ts, i, j, ((p, values), e, (t, at, place, inr ((u, vs), is, (m, h, ((w, us), same, (k, l, ((ws, v), alike, (n, s, r))))))))) out =
    subst (λ z. Appends delay.language out (put_delay z out) z) e (several_printed p values (spelled_as mtms.language ws values (alike ∙ (same ∙ is)) (ts, k, n, s)) out)
