-- The number of a bit select.
use Rattle.std.proofs.Common.{◌≡◌, ℕ, zero, suc, ◌+◌, ◌-◌, ◌*◌, ◌^◌, ◌<◌, ◌≤◌, List, [], ◌∷◌, length, take, drop, true, false, refl, sym, ap, ◌∙◌, subst, arith}
use Rattle.std.specs.Prelude.{Option, Some, None, IfSome, IfNone, nat_le, ◌&&◌}
use Rattle.std.specs.List.{list_all, prefix_len}
use Rattle.std.specs.Char.{is_ascii_digit}
use Rattle.std.proofs.lemmas.Bool.{and_parts, leb-true}
use Rattle.std.proofs.lemmas.List.{length-take}
use Rattle.std.proofs.Math.Nat.{pow-suc, mul_assoc, mul_comm, mul-le-mul_right, le-mul_of_pos_right}
use Rattle.sg_time.specs.Spelling.{number_from}
use Rattle.vl_pieces.proofs.Runs.{run_form}
use Rattle.sdf_lex.specs.Words.{is_closing, is_sized, size_of}

tens_some : (k : ℕ) → 0 < 10 ^ k
tens_some zero = omega arith
tens_some (suc k) = let p = tens_some k in rw (pow-suc 10 k) (omega arith)

number_bound : (k n : ℕ) (ds : List ℕ) → length ds ≤ k → list_all is_ascii_digit ds ≡ true → number_from n ds < (n + 1) * 10 ^ k
number_bound k n [] le h = let more = le-mul_of_pos_right (n + 1) (tens_some k) in omega arith
number_bound zero n (d ∷ ds) le h = absurd (omega arith)
number_bound (suc k) n (d ∷ ds) le h =
    let parts = and_parts (is_ascii_digit d) (list_all is_ascii_digit ds) h in
    let range = and_parts (nat_le 48 d) (nat_le d 57) parts.0 in
    let top : d ≤ 57 = leb-true d 57 range.1 in
    let below : number_from (n * 10 + (d - 48)) ds < (n * 10 + (d - 48) + 1) * 10 ^ k = number_bound k (n * 10 + (d - 48)) ds (omega arith) parts.1 in
    let front : n * 10 + (d - 48) + 1 ≤ (n + 1) * 10 = omega arith in
    let wide : (n * 10 + (d - 48) + 1) * 10 ^ k ≤ (n + 1) * 10 * 10 ^ k = mul-le-mul_right (10 ^ k) front in
    let same : (n + 1) * 10 * 10 ^ k ≡ (n + 1) * 10 ^ suc k = mul_assoc (n + 1) 10 (10 ^ k) ∙ ap (λ (x : ℕ). (n + 1) * x) (mul_comm 10 (10 ^ k) ∙ sym (pow-suc 10 k)) in
    subst (λ (x : ℕ). number_from (n * 10 + (d - 48)) ds < x) same (omega (arith, below, wide))

-- what the code finds is the definition's, and below 10 ^ 18
pub size_stands : (bytes digits : List ℕ) (count : ℕ) (o : Option ℕ) → count ≡ prefix_len is_ascii_digit bytes → digits ≡ take count bytes
    → is_sized count (drop count bytes) ≡ true → IfSome o (λ n. n ≡ number_from 0 digits) → IfNone o (2 ^ 64 ≤ number_from 0 digits)
    → (o ≡ size_of bytes) × IfSome o (λ n. n < 10 ^ 18)
size_stands bytes digits count o c d sized some none = by o some none
  where
    few : length (take (prefix_len is_ascii_digit bytes) bytes) ≤ 18
    few =
        let most : count ≤ 18 = leb-true count 18 (and_parts (nat_le 1 count) (nat_le count 18) (and_parts (nat_le 1 count && nat_le count 18) (is_closing (drop count bytes)) sized).0).1 in
        omega (arith, length-take (prefix_len is_ascii_digit bytes) bytes, c)

    small : number_from 0 (take (prefix_len is_ascii_digit bytes) bytes) < 10 ^ 18
    small = let b = number_bound 18 0 (take (prefix_len is_ascii_digit bytes) bytes) few (run_form is_ascii_digit bytes) in omega arith

    same : digits ≡ take (prefix_len is_ascii_digit bytes) bytes
    same = d ∙ ap (λ n. take n bytes) c

    test : is_sized (prefix_len is_ascii_digit bytes) (drop (prefix_len is_ascii_digit bytes) bytes) ≡ true
    test = subst (λ n. is_sized n (drop n bytes) ≡ true) c sized

    by : (p : Option ℕ) → IfSome p (λ n. n ≡ number_from 0 digits) → IfNone p (2 ^ 64 ≤ number_from 0 digits) → (p ≡ size_of bytes) × IfSome p (λ n. n < 10 ^ 18)
    by (Some n) e q =
        let is : n ≡ number_from 0 (take (prefix_len is_ascii_digit bytes) bytes) = e ∙ ap (λ ds. number_from 0 ds) same in
        (rw (test, is) refl, omega (arith, small, is))
    by None e q =
        let much : 2 ^ 64 ≤ number_from 0 (take (prefix_len is_ascii_digit bytes) bytes) = subst (λ ds. 2 ^ 64 ≤ number_from 0 ds) same q in
        absurd (omega (arith, small, much))

pub size_none : (bytes : List ℕ) (count : ℕ) → count ≡ prefix_len is_ascii_digit bytes → is_sized count (drop count bytes) ≡ false → None ≡ size_of bytes
size_none bytes count c sized =
    let test : is_sized (prefix_len is_ascii_digit bytes) (drop (prefix_len is_ascii_digit bytes) bytes) ≡ false = subst (λ n. is_sized n (drop n bytes) ≡ false) c sized in
    rw test refl
