-- A number of few digits is below 2 ^ 68.
use Rattle.std.specs.Prelude.{zero, suc, ℕ, ◌+◌, ◌-◌, ◌*◌, ◌^◌, ◌≡◌, ◌<◌, ◌≤◌, ◌==◌, Bool, true, false, cond, List, [], ◌∷◌, length, drop, Option, Some, None, MatchOption, refl}
use Rattle.std.specs.List.{prefix_len}
use Rattle.std.proofs.Common.{sym, ◌∙◌, ap, subst, arith, get_or}
use Rattle.std.proofs.Math.Nat.{pow-suc, mul_assoc, mul_comm}
use Rattle.std.proofs.lemmas.Bool.{eqb-true, ltb-false}
use Rattle.std.proofs.lemmas.Nat.{mul-le}
use Rattle.sg_time.specs.Spelling.{number_from}
use Rattle.sg_time.proofs.ScalingLaws.{pow_at_least}
use Rattle.vcd_model.specs.Faults.{many_digits}

abbrev pub AreBytes : List ℕ → Type 0
AreBytes ds = (k : ℕ) → get_or ds k 0 < 256

tens : (n k : ℕ) → (n * 10) * 10 ^ k ≡ n * 10 ^ suc k
tens n k = mul_assoc n 10 (10 ^ k) ∙ ap (λ m. n * m) (mul_comm 10 (10 ^ k) ∙ sym (pow-suc 10 k))

bound : (n : ℕ) (ds : List ℕ) → AreBytes ds → number_from n ds + 23 ≤ (n + 23) * 10 ^ length ds
bound n [] h = omega arith
bound n (d ∷ ds) h =
    let byte : d < 256 = h 0 in
    let rest = bound (n * 10 + (d - 48)) ds (λ k. h (suc k)) in
    let more : (n * 10 + (d - 48) + 23) * 10 ^ length ds ≤ ((n + 23) * 10) * 10 ^ length ds = mul-le (n * 10 + (d - 48) + 23) (10 ^ length ds) ((n + 23) * 10) (10 ^ length ds) (omega (arith, byte)) (omega arith) in
    let ten = tens (n + 23) (length ds) in
    omega (arith, rest, more, ten)

abbrev pub is_zero : ℕ → Bool
is_zero b = b == 48

without-zeros : (ds : List ℕ) → number_from 0 (drop (prefix_len is_zero ds) ds) ≡ number_from 0 ds
without-zeros [] = refl
without-zeros (d ∷ ds) = by (d == 48) refl (without-zeros ds)
  where
    one-more : (n : ℕ) → 1 + n ≡ suc n
    one-more n = omega arith

    same : d ≡ 48 → number_from 0 ds ≡ number_from (0 * 10 + (d - 48)) ds
    same e = ap (λ n. number_from n ds) (omega (arith, e))

    by : (b : Bool) → (d == 48) ≡ b → number_from 0 (drop (prefix_len is_zero ds) ds) ≡ number_from 0 ds → number_from 0 (drop (cond b (1 + prefix_len is_zero ds) 0) (d ∷ ds)) ≡ number_from 0 (d ∷ ds)
    by true e ih = ap (λ n. number_from 0 (drop n (d ∷ ds))) (one-more (prefix_len is_zero ds)) ∙ ih ∙ same (eqb-true d 48 e)
    by false e ih = refl

dropped-bytes : (n : ℕ) (ds : List ℕ) → AreBytes ds → AreBytes (drop n ds)
dropped-bytes zero ds h = h
dropped-bytes (suc n) [] h = h
dropped-bytes (suc n) (d ∷ ds) h = dropped-bytes n ds (λ k. h (suc k))

few-below : (ds : List ℕ) → AreBytes ds → many_digits ds ≡ false → number_from 0 ds < 2 ^ 68
few-below ds h few =
    let short : length (drop (prefix_len is_zero ds) ds) ≤ 19 = ltb-false 19 _ few in
    let high = bound 0 (drop (prefix_len is_zero ds) ds) (dropped-bytes (prefix_len is_zero ds) ds h) in
    let power = pow_at_least (length (drop (prefix_len is_zero ds) ds)) 19 short in
    subst (λ n. n < 2 ^ 68) (without-zeros ds) (omega (arith, high, power))

pub few_digits_are : (ds : List ℕ) (o : Option ℕ) → AreBytes ds → many_digits ds ≡ false → MatchOption o (2 ^ 68 ≤ number_from 0 ds) (λ n. (n ≡ number_from 0 ds) × (n < 2 ^ 68))
    → MatchOption o (many_digits ds ≡ true) (λ n. (many_digits ds ≡ false) × (n ≡ number_from 0 ds) × (n < 2 ^ 68))
few_digits_are ds None h few m = absurd (let low = few-below ds h few in omega (arith, low, m))
few_digits_are ds (Some n) h few m = (few, m.0, m.1)
