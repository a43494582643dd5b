-- What is put for the numbers of specify blocks spells them.
use Rattle.std.proofs.Common.{◌≡◌, ℕ, suc, Bool, true, false, List, [], ◌∷◌, Option, Some, None, refl, sym, subst, ap, ◌∙◌, inl, inr}
use Rattle.std.proofs.lemmas.List.{append-nil}
use Rattle.grammar.specs.Exact.{Exact}
use Rattle.grammar.specs.Language.{image, sequence, guarded}
use Rattle.grammar.specs.Reads.{Appends}
use Rattle.grammar.specs.Rule.{Rule, ◌∙∙◌, ◌▸◌, ◌◂◌, mapped, only_if, one}
use Rattle.grammar.specs.States.{repetition_by}
use Rattle.grammar.proofs.Printing as printing
use Rattle.vl_token.specs.declared.symbols.Symbol.TheVariants.{Comma, Colon, Minus, Assign, LeftParen, RightParen}
use Rattle.vl_token.specs.Tokens.{Lexeme, Meaning, module_word, word_token, left_out_token, name_token, system_token, other_token, number_token, sized_token, unsized_token, pair_token, symbol_token, byte_token}
use Rattle.vl_tree.specs.Amounts.{amount_parts, amount, amounts_of, amounts_parts, amounts, path_delay_parts, path_delay, may_close, next_delay, more_delays, delays_parts, delays, signed_amount_parts, signed_amount, limit_of, plain_limit_parts, plain_limit, limit_parts, limit, pulse_name_parts, pulse_name, specparam_parts, specparam}
use Rattle.vl_tree.specs.Expressions.{name, mtm}
use Rattle.vl_tree.specs.Kinds.{Kind, kind_of, kind_of_meaning, is_number, is_pulse_name, is_symbol, text_of, number_of}
use Rattle.vl_tree.specs.Primitives.{is_there}
use Rattle.vl_print.specs.Printing.{Tokens, put_mark, put_optional, put_many, behind_comma, put_listed, put_name}
use Rattle.vl_tree.specs.Rules.{Grammar, mark, either, optional}
use Rattle.vl_print.specs.SpecifyPrinting.{put_amount, put_amounts, put_delays, put_sign, put_signed, put_limit, put_specparam}
use Rattle.vl_tree.specs.Tree.{Amount, a_number, a_parameter, Amounts, SignedAmount}
use Rattle.vl_tree.proofs.AllKinds.{apart}
use Rattle.vl_tree.proofs.Building.{the_mark, behind, perhaps}
use Rattle.vl_tree.proofs.AmountsExact.{amount-exact, path_delay-exact, next_delay-exact, several-exact, sign-exact, signed_amount-exact, pulse_name-exact}
use Rattle.vl_tree.proofs.ExpressionsExact.{name-exact, mtm-exact}
use Rattle.vl_print.proofs.ExpressionsPrinted.{text_is, name_prints, mtm_prints}
use Rattle.vl_print.proofs.Printed.{Over, Prints, IsSpelled, token_printed, quoted_printed, mapped_prints, seq_prints, either_prints, optional_prints, mark_prints, nothing_prints, behind_mark, before_mark, spelled_as}

-- ---- further ways of building

pub guarded_prints : {A : Type 0} (b : Bool) (l : Over A) (put : A → Tokens → Tokens) → Prints l put → Prints (guarded b l) put
guarded_prints true l put prints = prints
guarded_prints false l put prints = nothing_prints put

-- parts by a state
pub by_prints : {A S : Type 0} (part : S → Rule Lexeme Kind A) (next : S → A → S) (ends : S → Bool) (put : A → Tokens → Tokens) → ((s : S) → Exact kind_of (part s)) → ((s : S) → Prints (part s).language put)
    → (s : S) → Prints (repetition_by (λ s. (part s).language) next ends s) (put_many put)
by_prints part next ends put exact prints s [] (ts, i, j, (p, e)) out = record { more = []; is = sym (append-nil out); spells = (refl, e) }
by_prints part next ends put exact prints s (x ∷ xs) (ts, i, j, ((m, h, rest), e)) out =
    let mid = put x out in
    let others = repetition_by (λ s. (part s).language) next ends (next s x) in
    let q = by_prints part next ends put exact prints (next s x) xs (ts, m, j, (rest, e)) mid in
    let r = printing.appends_seq kind_of (part s) others (exact s) out mid (put_many put xs mid) x xs (prints s x (ts, i, m, h) out) q in
    record { more = r.more; is = r.is; spells = ((r.spells.0, r.spells.1, r.spells.2.0), r.spells.2.1) }

-- "(" and ")" round a part
pub in_parens : {A : Type 0} (a : Rule Lexeme Kind A) (put : A → Tokens → Tokens) → Exact kind_of a → (x : A) → ((out : Tokens) → Appends a.language out (put x out) x)
    → (out : Tokens) → Appends (mark LeftParen ▸ (a ◂ mark RightParen)).language out (put_mark RightParen (put x (put_mark LeftParen out))) x
in_parens a put exact x printed out =
    let left = put_mark LeftParen out in
    let mid = put x left in
    let new = put_mark RightParen mid in
    let closed = printing.appends_mapped (λ (y : _ × Unit {0}). y.0) (sequence a.language (mark RightParen).language) left new (x, tt)
    (printing.appends_seq kind_of a (mark RightParen).language exact left mid new x tt (printed left) (quoted_printed (is_symbol RightParen) (symbol_token RightParen) _ mid refl)) in
    printing.appends_mapped (λ (y : Unit {0} × _). y.1) (sequence (mark LeftParen).language (a ◂ mark RightParen).language) out new (tt, x)
    (printing.appends_seq kind_of (mark LeftParen) (a ◂ mark RightParen).language (the_mark LeftParen) out left new tt x (quoted_printed (is_symbol LeftParen) (symbol_token LeftParen) _ out refl) closed)

-- a part, perhaps in parentheses, is printed without them
pub bare_prints : {A : Type 0} (a : Grammar A) (put : A → Tokens → Tokens) → Prints a.language put → Prints (either a (mark LeftParen ▸ (a ◂ mark RightParen))).language put
bare_prints a put prints x (ts, i, j, inl s) out = printing.appends_left a.language (mark LeftParen ▸ (a ◂ mark RightParen)).language out (put x out) x (prints x (ts, i, j, s) out)
bare_prints a put prints x (ts, i, j, inr ((u, y), e, (m, h, ((z, v), f, (k, s, r))))) out =
    printing.appends_left a.language (mark LeftParen ▸ (a ◂ mark RightParen)).language out (put x out) x (prints x (spelled_as a.language z x (f ∙ e) (ts, m, k, s)) out)

-- ---- amounts

a_number_prints : Prints (mapped (λ (t : Lexeme). a_number t.place (number_of t.meaning)) (one kind_of is_number)).language put_amount
a_number_prints x (ts, i, j, (t, e, there)) out =
    let number = mapped (λ (t : Lexeme). a_number t.place (number_of t.meaning)) (one kind_of is_number) in
    subst (λ (z : Amount). Appends number.language out (put_amount z out) z) e
    (token_printed (λ t. a_number t.place (number_of t.meaning)) is_number (number_token (number_of t.meaning) false) t.place (a_number t.place (number_of t.meaning)) out refl refl)

pub amount_prints : Prints amount.language put_amount
unfolding amount_parts
amount_prints = either_prints _ _ put_amount a_number_prints (mapped_prints a_parameter _ _ put_amount name_prints (λ x out. refl))

abbrev put_other_amounts : Amount × Amount → Tokens → Tokens
put_other_amounts p out = put_amount p.1 (put_mark Colon (put_amount p.0 (put_mark Colon out)))

amounts_same : (a : Amount) (o : Option (Amount × Amount)) (out : Tokens) → put_amounts (amounts_of a o) out ≡ put_optional put_other_amounts o (put_amount a out)
amounts_same a None out = refl
amounts_same a (Some p) out = refl

pub amounts_prints : Prints amounts.language put_amounts
unfolding amounts_parts
amounts_prints =
    let pair = seq_prints amount (mark Colon ▸ amount).language _ _ amount-exact amount_prints (behind_mark Colon amount.language _ amount_prints) in
    let others = optional_prints _ _ (behind_mark Colon (amount ∙∙ (mark Colon ▸ amount)).language _ pair) in
    mapped_prints (λ x. amounts_of x.0 x.1) _ _ put_amounts (seq_prints amount _ _ _ amount-exact amount_prints others) (λ x out. amounts_same x.0 x.1 out)

-- ---- lists of delays

path_delay_prints : Prints path_delay.language put_amounts
unfolding path_delay_parts
path_delay_prints = bare_prints amounts put_amounts amounts_prints

next_delay_prints : (limited : Bool) (n : ℕ) → Prints (next_delay limited n).language (behind_comma put_amounts)
next_delay_prints limited n = guarded_prints _ _ _ (behind_mark Comma path_delay.language put_amounts path_delay_prints)

abbrev several : Bool → Grammar (List Amounts)
several limited = mapped (λ x. x.0 ∷ x.1) (path_delay ∙∙ more_delays limited)

several_prints : (limited : Bool) → Prints (several limited).language (put_listed put_amounts)
several_prints limited =
    let others = by_prints (next_delay limited) (λ n _. suc n) (may_close limited) (behind_comma put_amounts) (next_delay-exact limited) (next_delay_prints limited) 1 in
    mapped_prints (λ x. x.0 ∷ x.1) _ _ (put_listed put_amounts) (seq_prints path_delay (more_delays limited).language _ _ path_delay-exact path_delay_prints others) (λ x out. refl)

-- one delay alone is a list of them
one_closes : (limited : Bool) → may_close limited 1 ≡ true
one_closes true = refl
one_closes false = refl

one_of_several : (limited : Bool) (a : Amounts) → IsSpelled amounts.language a → IsSpelled (several limited).language (a ∷ [])
unfolding path_delay_parts
one_of_several limited a (ts, i, j, s) = (ts, i, j, ((a, []), refl, (j, inl s, (refl, one_closes limited))))

delays_printed : (limited : Bool) (ds : List Amounts) → IsSpelled (several limited).language ds → (out : Tokens) → Appends (delays limited).language out (put_delays ds out) ds
unfolding delays_parts
delays_printed limited ds s out =
    printing.appends_right (image (λ (a : Amounts). a ∷ []) amounts.language) (mark LeftParen ▸ (several limited ◂ mark RightParen)).language out (put_delays ds out) ds
    (in_parens (several limited) (put_listed put_amounts) (several-exact limited) ds (several_prints limited ds s) out)

pub delays_prints : (limited : Bool) → Prints (delays limited).language put_delays
unfolding delays_parts
delays_prints limited ds (ts, i, j, inl (a, e, s)) out =
    subst (λ (z : List Amounts). Appends (delays limited).language out (put_delays z out) z) e (delays_printed limited (a ∷ []) (one_of_several limited a (ts, i, j, s)) out)
delays_prints limited ds (ts, i, j, inr ((u, y), e, (m, h, ((z, v), f, (k, s, r))))) out = delays_printed limited ds (spelled_as (several limited).language z ds (f ∙ e) (ts, m, k, s)) out

-- ---- limits

sign_there : (o : Option (Unit {0})) (out : Tokens) → put_sign (is_there o) out ≡ put_optional (λ _ out. put_mark Minus out) o out
sign_there None out = refl
sign_there (Some u) out = refl

pub signed_amount_prints : (signs : Bool) → Prints (signed_amount signs).language put_signed
unfolding signed_amount_parts
signed_amount_prints signs =
    let sign = optional_prints _ _ (guarded_prints signs (mark Minus).language _ (mark_prints Minus)) in
    mapped_prints _ _ _ put_signed (seq_prints (optional (only_if signs (mark Minus))) amount.language _ _ (sign-exact signs) sign amount_prints) (λ x out. ap (put_amount x.1) (sign_there x.0 out))

abbrev put_other_limits : SignedAmount × SignedAmount → Tokens → Tokens
put_other_limits p out = put_signed p.1 (put_mark Colon (put_signed p.0 (put_mark Colon out)))

limits_same : (a : SignedAmount) (o : Option (SignedAmount × SignedAmount)) (out : Tokens) → put_limit (limit_of a o) out ≡ put_optional put_other_limits o (put_signed a out)
limits_same a None out = refl
limits_same a (Some p) out = refl

plain_limit_prints : (signs : Bool) → Prints (plain_limit signs).language put_limit
unfolding plain_limit_parts
plain_limit_prints signs =
    let one = signed_amount signs in
    let exact = signed_amount-exact signs in
    let prints = signed_amount_prints signs in
    let pair = seq_prints one (mark Colon ▸ one).language _ _ exact prints (behind_mark Colon one.language _ prints) in
    let others = optional_prints _ _ (behind_mark Colon (one ∙∙ (mark Colon ▸ one)).language _ pair) in
    mapped_prints (λ x. limit_of x.0 x.1) _ _ put_limit (seq_prints one _ _ _ exact prints others) (λ x out. limits_same x.0 x.1 out)

pub limit_prints : (signs : Bool) → Prints (limit signs).language put_limit
unfolding limit_parts
limit_prints signs = bare_prints (plain_limit signs) put_limit (plain_limit_prints signs)

-- ---- specparams

is_same_pulse_name : (m : Meaning) → is_pulse_name (kind_of_meaning m) ≡ true → kind_of_meaning m ≡ kind_of_meaning (name_token (text_of m))
is_same_pulse_name (name_token text) h = refl
is_same_pulse_name (module_word s) h = absurd cc
is_same_pulse_name (word_token w) h = absurd cc
is_same_pulse_name (left_out_token text) h = absurd cc
is_same_pulse_name (system_token text) h = absurd cc
is_same_pulse_name (other_token text) h = absurd cc
is_same_pulse_name (number_token n whole) h = absurd cc
is_same_pulse_name (sized_token bits) h = absurd cc
is_same_pulse_name (unsized_token bits) h = absurd cc
is_same_pulse_name (pair_token from to) h = absurd cc
is_same_pulse_name (symbol_token s) h = absurd cc
is_same_pulse_name (byte_token b) h = absurd cc

pulse_name_prints : Prints pulse_name.language put_name
unfolding pulse_name_parts
pulse_name_prints x s out = token_printed (λ t. record { text = text_of t.meaning; place = t.place }) is_pulse_name (name_token x.text) x.place x out refl (text_is is_pulse_name is_same_pulse_name x s)

pub specparam_prints : Prints specparam.language put_specparam
unfolding specparam_parts
specparam_prints =
    let value = seq_prints name (mark Assign ▸ mtm).language _ _ name-exact name_prints (behind_mark Assign mtm.language _ mtm_prints) in
    let error_exact = perhaps (behind (the_mark Comma) mtm-exact (apart _ _ refl)) refl in
    let error = before_mark RightParen (optional (mark Comma ▸ mtm)) _ error_exact (optional_prints _ _ (behind_mark Comma mtm.language _ mtm_prints)) in
    let both = seq_prints mtm (optional (mark Comma ▸ mtm) ◂ mark RightParen).language _ _ mtm-exact mtm_prints error in
    let opened = behind_mark LeftParen (mtm ∙∙ (optional (mark Comma ▸ mtm) ◂ mark RightParen)).language _ both in
    let limits = behind_mark Assign (mark LeftParen ▸ (mtm ∙∙ (optional (mark Comma ▸ mtm) ◂ mark RightParen))).language _ opened in
    let pulse = seq_prints pulse_name (mark Assign ▸ (mark LeftParen ▸ (mtm ∙∙ (optional (mark Comma ▸ mtm) ◂ mark RightParen)))).language _ _ pulse_name-exact pulse_name_prints limits in
    either_prints _ _ put_specparam (mapped_prints _ _ _ put_specparam value (λ x out. refl)) (mapped_prints _ _ _ put_specparam pulse (λ x out. refl))
