-- Digits one after another.
use Rattle.std.proofs.Common.{ℕ, zero, suc, ◌≡◌, ◌+◌, ◌-◌, ◌*◌, ◌<◌, List, [], ◌∷◌, length, drop, get_or, refl, arith}
use Rattle.sg_time.specs.Spelling.{number_from}

pub digit-step : (n : ℕ) (ds : List ℕ) (i : ℕ) → i < length ds → number_from n (drop i ds) ≡ number_from (n * 10 + (get_or ds i 0 - 48)) (drop (suc i) ds)
digit-step n [] i h = absurd (omega arith)
digit-step n (d ∷ ds) zero h = refl
digit-step n (d ∷ ds) (suc i) h = digit-step n ds i (omega arith)
