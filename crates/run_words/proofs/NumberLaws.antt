-- A number of few digits is read.
use Rattle.std.proofs.Common.{◌≡◌, ℕ, ◌<◌, ◌≤◌, ◌^◌, List, length, Bool, true, false, cond, Result, Ok, ◌&&◌, nat_le, refl, sym, ap, ◌∙◌, subst, arith, rules, Some, None}
use Rattle.std.proofs.lemmas.Bool.{leb-true}
use Rattle.std.proofs.lemmas.Option.{same_Some}
use Rattle.std.specs.Result.{result_ok}
use Rattle.std.specs.Char.{is_ascii_digit}
use Rattle.std.specs.List.{list_all}
use Rattle.std.specs.Str.Parse.{ParsesUnsigned, digits_value}
use Rattle.std.proofs.lemmas.Str.Parse.{IsNumeralModel, numerals_by_value, digits_value_short, parse_gives}
use Rattle.run_words.specs.Words.{is_number, time_within}

own : IsNumeralModel (λ ds. list_all is_ascii_digit ds ≡ true) (digits_value 10)
own = numerals_by_value _ (search rules)

both : (a b : Bool) → (a && b) ≡ true → (a ≡ true) × (b ≡ true)
both false b e = cc
both true b e = (refl, e)

not_refused : {E : Type 0} (text : List ℕ) (r : Result ℕ E) → r ≡ Ok (digits_value 10 text) → result_ok r ≡ None → ⊥
not_refused text r given e = let ok : Some (digits_value 10 text) ≡ None = sym (ap result_ok given) ∙ e in cc

-- a number that fits so many bits by its digits
pub number_read : {E : Type 0} (bits most : ℕ) → ((n : ℕ) → n < 10 ^ most → n < 2 ^ bits) → (text : List ℕ) (r : Result ℕ E) (digits : ℕ) → digits ≤ most → ParsesUnsigned bits 10 text r → is_number digits text ≡ true → r ≡ Ok (digits_value 10 text)
number_read bits most fits text r digits few h number =
    let parts = both (list_all is_ascii_digit text && nat_le 1 (length text)) (nat_le (length text) digits) number in
    let front = both (list_all is_ascii_digit text) (nat_le 1 (length text)) parts.0 in
    let some : 1 ≤ length text = leb-true 1 (length text) front.1 in
    let within : length text ≤ most = omega (arith, few, leb-true (length text) digits parts.1) in
    parse_gives own bits text r h front.0 (omega arith) (fits (digits_value 10 text) (digits_value_short own text most front.0 within))

pub is_read : {E : Type 0} (text : List ℕ) (r : Result ℕ E) → (digits : ℕ) → digits ≤ 9 → ParsesUnsigned 32 10 text r → is_number digits text ≡ true → result_ok r ≡ None → ⊥
is_read text r digits most h number none = not_refused text r (number_read 32 9 (λ n few. omega (arith, few)) text r digits most h number) none

-- a time of eighteen digits has fewer than 2^60 ticks
pub time_few : (text : List ℕ) (n : ℕ) → time_within 18 text ≡ Some n → n < 2 ^ 60
time_few text n e = by (is_number 18 text) refl e
  where
    by : (b : Bool) → is_number 18 text ≡ b → cond b (Some (digits_value 10 text)) None ≡ Some n → n < 2 ^ 60
    by false t e = cc
    by true t e =
        let parts = both (list_all is_ascii_digit text && nat_le 1 (length text)) (nat_le (length text) 18) t in
        let front = both (list_all is_ascii_digit text) (nat_le 1 (length text)) parts.0 in
        let few : digits_value 10 text < 10 ^ 18 = digits_value_short own text 18 front.0 (leb-true (length text) 18 parts.1) in
        subst (λ k. k < 2 ^ 60) (same_Some (digits_value 10 text) n e) (omega (arith, few))

-- a time of eighteen digits at most
pub time_read : {E : Type 0} (text : List ℕ) (r : Result ℕ E) (digits : ℕ) → digits ≤ 18 → ParsesUnsigned 64 10 text r → is_number digits text ≡ true → result_ok r ≡ time_within digits text
time_read text r digits most h number =
    ap result_ok (number_read 64 18 (λ n few. omega (arith, few)) text r digits most h number) ∙ sym (ap (λ b. cond b (Some (digits_value 10 text)) None) number)
