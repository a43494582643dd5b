-- Bits and numbers from the left.
use Rattle.std.proofs.Common.{◌≡◌, ℕ, zero, suc, ◌+◌, ◌-◌, ◌*◌, ◌/◌, ◌%◌, ◌^◌, ◌<◌, ◌≤◌, List, [], ◌∷◌, ◌++◌, length, get_or, refl, arith, append_assoc}
use Rattle.sg_logic.specs.declared.values.Value.{Value}
use Rattle.sg_time.specs.Spelling.{number_from}
use Rattle.vl_token.specs.Constants.{bit, low_bits}

pub low_bits_none : (n : ℕ) → low_bits 0 n ≡ []
unfolding low_bits
low_bits_none n = refl

-- one bit is put, and the others behind it
pub low_bits_more : (so_far : List Value) (k n : ℕ) → 0 < k → (so_far ++ bit (n / 2 ^ (k - 1) % 2) ∷ []) ++ low_bits (k - 1) n ≡ so_far ++ low_bits k n
unfolding low_bits
low_bits_more so_far zero n lt = absurd (omega arith)
low_bits_more so_far (suc k) n lt = let e : suc k - 1 ≡ k = omega arith in rw (e, append_assoc) refl

number_grows : (n : ℕ) (ds : List ℕ) → n ≤ number_from n ds
number_grows n [] = omega arith
number_grows n (d ∷ ds) = omega (arith, number_grows (n * 10 + (d - 48)) ds)

-- with its first digit a number is at most what it is with all of them
pub number_first : (n : ℕ) (ds : List ℕ) → 0 < length ds → n * 10 + (get_or ds 0 0 - 48) ≤ number_from n ds
number_first n [] lt = absurd (omega arith)
number_first n (d ∷ ds) lt = number_grows (n * 10 + (d - 48)) ds
