-- Some lists of delays, and some gates' delays.
use Rattle.std.proofs.Common.{◌≡◌, refl, [], ◌∷◌, Ok, Err}
use Rattle.sg_logic.specs.declared.values.Value.TheVariants.{Zero, One, X, Z}
use Rattle.sg_delay.specs.declared.expansion.DelayError.TheVariants.{BadCount}
use Rattle.sg_delay.specs.Expansion.{delays_of}
use Rattle.sg_delay.specs.GateDelay.{delay_to}

-- in the order 01 10 0z z1 1z z0 0x x1 1x x0 xz zx
of_six_delays : delays_of (1 ∷ 2 ∷ 3 ∷ 4 ∷ 5 ∷ 6 ∷ []) ≡ Ok (record { at = 1 ∷ 2 ∷ 3 ∷ 4 ∷ 5 ∷ 6 ∷ 1 ∷ 4 ∷ 2 ∷ 6 ∷ 5 ∷ 4 ∷ [] })
of_six_delays = refl

of_three_delays : delays_of (2 ∷ 3 ∷ 4 ∷ []) ≡ Ok (record { at = 2 ∷ 3 ∷ 4 ∷ 2 ∷ 4 ∷ 3 ∷ 2 ∷ 2 ∷ 3 ∷ 3 ∷ 4 ∷ 2 ∷ [] })
of_three_delays = refl

of_four_delays : delays_of (1 ∷ 1 ∷ 1 ∷ 1 ∷ []) ≡ Err BadCount
of_four_delays = refl

rise : delay_to (7 ∷ 4 ∷ []) One ≡ 7
rise = refl

fall : delay_to (7 ∷ 4 ∷ []) Zero ≡ 4
fall = refl

lesser_to_x : delay_to (7 ∷ 4 ∷ []) X ≡ 4
lesser_to_x = refl

one_for_all : delay_to (5 ∷ []) Z ≡ 5
one_for_all = refl
