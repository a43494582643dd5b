-- A list of each length that may be, lists of others, and the delays of gates without one and with one.
use Rattle.std.proofs.Common.{◌≡◌, refl, [], ◌∷◌, Ok, Err}
use Rattle.std.specs.Prelude.{map, replicate}
use Rattle.sg_logic.specs.declared.values.Value.TheVariants.{Zero, One, X, Z}
use Rattle.sg_delay.specs.declared.expansion.DelayError.TheVariants.{BadCount}
use Rattle.sg_delay.specs.Expansion.{delays_of}
use Rattle.sg_delay.specs.GateDelay.{delay_to}

-- in the order 01 10 0z z1 1z z0 0x x1 1x x0 xz zx
of_one_delay : delays_of (7 ∷ []) ≡ Ok (record { at = 7 ∷ 7 ∷ 7 ∷ 7 ∷ 7 ∷ 7 ∷ 7 ∷ 7 ∷ 7 ∷ 7 ∷ 7 ∷ 7 ∷ [] })
of_one_delay = refl

of_two_delays : delays_of (2 ∷ 3 ∷ []) ≡ Ok (record { at = 2 ∷ 3 ∷ 2 ∷ 2 ∷ 3 ∷ 3 ∷ 2 ∷ 2 ∷ 3 ∷ 3 ∷ 3 ∷ 2 ∷ [] })
of_two_delays = refl

of_twelve_delays : delays_of (12 ∷ 11 ∷ 10 ∷ 9 ∷ 8 ∷ 7 ∷ 6 ∷ 5 ∷ 4 ∷ 3 ∷ 2 ∷ 1 ∷ []) ≡ Ok (record { at = 12 ∷ 11 ∷ 10 ∷ 9 ∷ 8 ∷ 7 ∷ 6 ∷ 5 ∷ 4 ∷ 3 ∷ 2 ∷ 1 ∷ [] })
of_twelve_delays = refl

of_no_delay : delays_of [] ≡ Err BadCount
of_no_delay = refl

of_other_lengths : map (λ n. delays_of (replicate n 1)) (5 ∷ 7 ∷ 8 ∷ 9 ∷ 10 ∷ 11 ∷ 13 ∷ 14 ∷ [])
    ≡ Err BadCount ∷ Err BadCount ∷ Err BadCount ∷ Err BadCount ∷ Err BadCount ∷ Err BadCount ∷ Err BadCount ∷ Err BadCount ∷ []
of_other_lengths = refl

without_delay : map (delay_to []) (Zero ∷ One ∷ X ∷ Z ∷ []) ≡ 0 ∷ 0 ∷ 0 ∷ 0 ∷ []
without_delay = refl

one_delay : map (delay_to (5 ∷ [])) (Zero ∷ One ∷ X ∷ Z ∷ []) ≡ 5 ∷ 5 ∷ 5 ∷ 5 ∷ []
one_delay = refl

two_delays : map (delay_to (7 ∷ 4 ∷ [])) (Zero ∷ One ∷ X ∷ Z ∷ []) ≡ 4 ∷ 7 ∷ 4 ∷ 4 ∷ []
two_delays = refl

lesser_to_x_and_z : map (delay_to (5 ∷ 3 ∷ [])) (X ∷ Z ∷ []) ≡ 3 ∷ 3 ∷ []
lesser_to_x_and_z = refl

three_delays : map (delay_to (4 ∷ 6 ∷ 9 ∷ [])) (One ∷ Zero ∷ Z ∷ X ∷ []) ≡ 4 ∷ 6 ∷ 9 ∷ 4 ∷ []
three_delays = refl

least_to_x : map (λ delays. delay_to delays X) ((6 ∷ 4 ∷ 9 ∷ []) ∷ (9 ∷ 6 ∷ 4 ∷ []) ∷ []) ≡ 4 ∷ 4 ∷ []
least_to_x = refl
