-- Each rule of the numbers of specify blocks is read exactly.
use Rattle.std.proofs.Common.{◌≡◌, ℕ, suc, Bool, true, false, ◌∷◌, refl}
use Rattle.std.specs.Prelude.{◌||◌, not, nat_lt}
use Rattle.std.proofs.lemmas.Bool.{and_parts, and_right}
use Rattle.grammar.specs.Exact.{Apart, IsWithin}
use Rattle.grammar.specs.Rule.{◌∙∙◌, mapped, only_if}
use Rattle.grammar.proofs.Laws.{only_if-exact, many_by-exact}
use Rattle.vl_token.specs.declared.symbols.Symbol.TheVariants.{Comma, Colon, Minus, Assign, LeftParen, RightParen}
use Rattle.vl_tree.specs.Amounts.{amount_parts, amount, amounts_parts, amounts, path_delay_parts, path_delay, may_close, next_delay, delays_continue, more_delays, delays_parts, delays, signed_amount_parts, signed_amount, plain_limit_parts, plain_limit, limit_parts, limit, pulse_name_parts, pulse_name, specparam_parts, specparam}
use Rattle.vl_tree.specs.Kinds.{kind_of, is_number, is_pulse_name, is_symbol}
use Rattle.vl_tree.specs.Rules.{mark, optional}
use Rattle.vl_tree.proofs.AllKinds.{apart, is_within}
use Rattle.vl_tree.proofs.Building.{IsExact, token, the_mark, then, made, behind, before, called, or, perhaps}
use Rattle.vl_tree.proofs.ExpressionsExact.{name-exact, mtm-exact}

pub amount-exact : IsExact amount
unfolding amount_parts
amount-exact = called _ _ (or (token _ is_number) (made _ name-exact) refl refl (apart _ _ refl)) refl (is_within _ _ refl) (is_within _ _ refl)

pub amounts-exact : IsExact amounts
unfolding amounts_parts
amounts-exact =
    let others = behind (the_mark Colon) (then amount-exact (behind (the_mark Colon) amount-exact (apart _ _ refl)) (apart _ _ refl)) (apart _ _ refl) in
    called _ _ (made _ (then amount-exact (perhaps others refl) (apart _ _ refl))) refl (is_within _ _ refl) (is_within _ _ refl)

-- ---- lists of delays

pub path_delay-exact : IsExact path_delay
unfolding path_delay_parts
path_delay-exact =
    let inside = behind (the_mark LeftParen) (before amounts-exact (the_mark RightParen) (apart _ _ refl)) (apart _ _ refl) in
    called _ _ (or amounts-exact inside refl refl (apart _ _ refl)) refl (is_within _ _ refl) (is_within _ _ refl)

pub next_delay-exact : (limited : Bool) (n : ℕ) → IsExact (next_delay limited n)
next_delay-exact limited n = only_if-exact kind_of (not limited || nat_lt n 12) _ (behind (the_mark Comma) path_delay-exact (apart _ _ refl))

pub next_delay-full : (limited : Bool) (n : ℕ) → (next_delay limited n).empty ≡ false
next_delay-full limited n = and_right (not limited || nat_lt n 12) false refl

pub next_delay-continues : (limited : Bool) (n : ℕ) → IsWithin (next_delay limited n).continues (is_symbol Colon)
next_delay-continues limited n k p = (and_parts (not limited || nat_lt n 12) (is_symbol Colon k) p).1

pub next_delay-starts : (limited : Bool) (n : ℕ) → IsWithin (next_delay limited n).starts (is_symbol Comma)
next_delay-starts limited n k p = (and_parts (not limited || nat_lt n 12) (is_symbol Comma k) p).1

pub more_delays-exact : (limited : Bool) → IsExact (more_delays limited)
more_delays-exact limited = many_by-exact kind_of delays_continue (next_delay limited) (λ n _. suc n) (may_close limited) (next_delay-exact limited) (next_delay-full limited)
    (λ n x k p q. apart (is_symbol Colon) (is_symbol Comma) refl k (next_delay-continues limited n k p) (next_delay-starts limited (suc n) k q))
    (λ n e k p. is_within (is_symbol Comma) delays_continue refl k (next_delay-starts limited n k p))
    (λ n k p. is_within (is_symbol Colon) delays_continue refl k (next_delay-continues limited n k p)) 1

delays_close : (limited : Bool) → Apart (path_delay ∙∙ more_delays limited).continues (is_symbol RightParen)
delays_close true = apart _ _ refl
delays_close false = apart _ _ refl

pub several-exact : (limited : Bool) → IsExact (mapped (λ x. x.0 ∷ x.1) (path_delay ∙∙ more_delays limited))
several-exact limited = made _ (then path_delay-exact (more_delays-exact limited) (λ k p q. apart (is_symbol Colon) (is_symbol Comma) refl k p (next_delay-starts limited 1 k q)))

pub delays-exact : (limited : Bool) → IsExact (delays limited)
unfolding delays_parts
delays-exact limited =
    let inside = behind (the_mark LeftParen) (before (several-exact limited) (the_mark RightParen) (delays_close limited)) (apart _ _ refl) in
    called _ _ (or (made _ amounts-exact) inside refl refl (apart _ _ refl)) refl (is_within _ _ refl) (is_within _ _ refl)

-- ---- limits

pub sign-exact : (signs : Bool) → IsExact (optional (only_if signs (mark Minus)))
sign-exact signs = perhaps (only_if-exact kind_of signs _ (the_mark Minus)) (and_right signs false refl)

pub signed_amount-exact : (signs : Bool) → IsExact (signed_amount signs)
unfolding signed_amount_parts
signed_amount-exact true = called _ _ (made _ (then (sign-exact true) amount-exact (apart _ _ refl))) refl (is_within _ _ refl) (is_within _ _ refl)
signed_amount-exact false = called _ _ (made _ (then (sign-exact false) amount-exact (apart _ _ refl))) refl (is_within _ _ refl) (is_within _ _ refl)

pub plain_limit-exact : (signs : Bool) → IsExact (plain_limit signs)
unfolding plain_limit_parts
plain_limit-exact signs =
    let one = signed_amount-exact signs in
    let others = behind (the_mark Colon) (then one (behind (the_mark Colon) one (apart _ _ refl)) (apart _ _ refl)) (apart _ _ refl) in
    called _ _ (made _ (then one (perhaps others refl) (apart _ _ refl))) refl (is_within _ _ refl) (is_within _ _ refl)

pub limit-exact : (signs : Bool) → IsExact (limit signs)
unfolding limit_parts
limit-exact signs =
    let inside = behind (the_mark LeftParen) (before (plain_limit-exact signs) (the_mark RightParen) (apart _ _ refl)) (apart _ _ refl) in
    called _ _ (or (plain_limit-exact signs) inside refl refl (apart _ _ refl)) refl (is_within _ _ refl) (is_within _ _ refl)

-- ---- specparams

pub pulse_name-exact : IsExact pulse_name
unfolding pulse_name_parts
pulse_name-exact = called _ _ (token _ is_pulse_name) refl (is_within _ _ refl) (is_within _ _ refl)

pub specparam-exact : IsExact specparam
unfolding specparam_parts
specparam-exact =
    let value = then name-exact (behind (the_mark Assign) mtm-exact (apart _ _ refl)) (apart _ _ refl) in
    let error = before (perhaps (behind (the_mark Comma) mtm-exact (apart _ _ refl)) refl) (the_mark RightParen) (apart _ _ refl) in
    let limits = behind (the_mark LeftParen) (then mtm-exact error (apart _ _ refl)) (apart _ _ refl) in
    let pulse = then pulse_name-exact (behind (the_mark Assign) limits (apart _ _ refl)) (apart _ _ refl) in
    called _ _ (or (made _ value) (made _ pulse) refl refl (apart _ _ refl)) refl (is_within _ _ refl) (is_within _ _ refl)
