-- The lengths of lists that spell six delays or twelve.
use Rattle.std.proofs.Common.{zero, suc, ◌≡◌, sym, refl, ℕ, List, [], ◌∷◌, length, IsOk, arith}
use Rattle.std.specs.List.{Contains}
use Rattle.sg_delay.specs.Expansion.{list_lengths, of_six, six}

six_of_1 : (list : List ℕ) → length list ≡ 1 → IsOk (of_six (six list))
six_of_1 [] h = absurd (omega arith)
six_of_1 (a ∷ []) h = refl
six_of_1 (a ∷ b ∷ list) h = absurd (omega arith)

six_of_2 : (list : List ℕ) → length list ≡ 2 → IsOk (of_six (six list))
six_of_2 [] h = absurd (omega arith)
six_of_2 (a ∷ []) h = absurd (omega arith)
six_of_2 (a ∷ b ∷ []) h = refl
six_of_2 (a ∷ b ∷ c ∷ list) h = absurd (omega arith)

six_of_3 : (list : List ℕ) → length list ≡ 3 → IsOk (of_six (six list))
six_of_3 [] h = absurd (omega arith)
six_of_3 (a ∷ []) h = absurd (omega arith)
six_of_3 (a ∷ b ∷ []) h = absurd (omega arith)
six_of_3 (a ∷ b ∷ c ∷ []) h = refl
six_of_3 (a ∷ b ∷ c ∷ d ∷ list) h = absurd (omega arith)

six_of_6 : (list : List ℕ) → length list ≡ 6 → IsOk (of_six (six list))
six_of_6 [] h = absurd (omega arith)
six_of_6 (a ∷ []) h = absurd (omega arith)
six_of_6 (a ∷ b ∷ []) h = absurd (omega arith)
six_of_6 (a ∷ b ∷ c ∷ []) h = absurd (omega arith)
six_of_6 (a ∷ b ∷ c ∷ d ∷ []) h = absurd (omega arith)
six_of_6 (a ∷ b ∷ c ∷ d ∷ e ∷ []) h = absurd (omega arith)
six_of_6 (a ∷ b ∷ c ∷ d ∷ e ∷ f ∷ []) h = refl
six_of_6 (a ∷ b ∷ c ∷ d ∷ e ∷ f ∷ g ∷ list) h = absurd (omega arith)

-- a length other than 12
pub six_from_length : (list : List ℕ) → (length list ≡ 12 → ⊥) → Contains list_lengths (length list) → IsOk (of_six (six list))
six_from_length list not (zero, lt, h) = six_of_1 list (sym h)
six_from_length list not (suc zero, lt, h) = six_of_2 list (sym h)
six_from_length list not (suc (suc zero), lt, h) = six_of_3 list (sym h)
six_from_length list not (suc (suc (suc zero)), lt, h) = six_of_6 list (sym h)
six_from_length list not (suc (suc (suc (suc zero))), lt, h) = absurd (not (sym h))
six_from_length list not (suc (suc (suc (suc (suc i)))), lt, h) = absurd (omega arith)

pub length_from_six : (list : List ℕ) → IsOk (of_six (six list)) → Contains list_lengths (length list)
length_from_six [] h = absurd (cc)
length_from_six (a ∷ []) h = (0, omega arith, refl)
length_from_six (a ∷ b ∷ []) h = (1, omega arith, refl)
length_from_six (a ∷ b ∷ c ∷ []) h = (2, omega arith, refl)
length_from_six (a ∷ b ∷ c ∷ d ∷ []) h = absurd (cc)
length_from_six (a ∷ b ∷ c ∷ d ∷ e ∷ []) h = absurd (cc)
length_from_six (a ∷ b ∷ c ∷ d ∷ e ∷ f ∷ []) h = (3, omega arith, refl)
length_from_six (a ∷ b ∷ c ∷ d ∷ e ∷ f ∷ g ∷ list) h = absurd (cc)
