-- Ranges by their last byte, and the numbers of a few digits.
use Rattle.std.proofs.Common.{◌≡◌, ◌≢◌, ℕ, ◌+◌, ◌-◌, get_or, ◌*◌, ◌^◌, ◌<◌, ◌≤◌, true, false, List, [], ◌∷◌, ◌++◌, length, reverse, refl, sym, ap, ◌∙◌, arith, inl, inr}
use Rattle.std.specs.Prelude.{◌&&◌, ◌==◌, nat_le, nat_lt}
use Rattle.std.specs.Char.{is_ascii_digit}
use Rattle.std.specs.List.{list_all}
use Rattle.std.proofs.Math.Nat.{pow-le-pow_right}
use Rattle.std.proofs.lemmas.Bool.{and_parts, cases_Bool, eqb-true, leb-true}
use Rattle.std.proofs.lemmas.List.{reverse-append, reverse-reverse}
use Rattle.sg_time.specs.Spelling.{number_from}
use Rattle.sg_time.proofs.Digits.{le-number_from, upper}
use Rattle.vcd_form.specs.Kinds.{are_digits, ends_in_bracket, is_inside}

pub bracket_ends : (text front : List ℕ) → text ≡ front ++ 93 ∷ [] → is_inside front ≡ ends_in_bracket (reverse text)
bracket_ends text front e =
    let back : reverse text ≡ 93 ∷ reverse front = ap reverse e ∙ reverse-append front (93 ∷ []) in
    sym (ap ends_in_bracket back ∙ ap is_inside (reverse-reverse front))

pub no_bracket : (text : List ℕ) → ((front : List ℕ) → text ≢ front ++ 93 ∷ []) → false ≡ ends_in_bracket (reverse text)
no_bracket text none = go (reverse text) refl
  where
    go : (back : List ℕ) → reverse text ≡ back → false ≡ ends_in_bracket back
    go [] e = refl
    go (b ∷ bs) e = elim (cases_Bool (b == 93)) [
      | inl does ↦
          let last : b ≡ 93 = eqb-true b 93 does in
          let whole : text ≡ reverse (93 ∷ bs) = sym (reverse-reverse text) ∙ (ap reverse e ∙ ap (λ c. reverse (c ∷ bs)) last) in
          absurd (none (reverse bs) (whole ∙ reverse-append (93 ∷ []) bs))
      | inr other ↦ rw other refl
    ]

pub few_are_small : (text : List ℕ) → (are_digits text && nat_le (length text) 9) ≡ true → number_from 0 text < 2 ^ 32
few_are_small text h =
    let parts = and_parts (are_digits text) (nat_le (length text) 9) h in
    let digits = (and_parts (nat_lt 0 (length text)) (list_all is_ascii_digit text) parts.0).1 in
    let few = leb-true (length text) 9 parts.1 in
    let size : 10 ^ length text ≤ 10 ^ 9 = pow-le-pow_right (omega arith) few in
    omega (arith, upper 0 text digits, size)

pub first_digit : (n : ℕ) (digits : List ℕ) → 1 ≤ length digits → n * 10 + (get_or digits 0 0 - 48) ≤ number_from n digits
first_digit n [] some = absurd (omega arith)
first_digit n (d ∷ ds) some = le-number_from (n * 10 + (d - 48)) ds
