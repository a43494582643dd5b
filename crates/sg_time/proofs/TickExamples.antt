-- Ticks of delays, at the halves and at the limits, and parts of a hundred.
use Rattle.std.proofs.Common.{◌≡◌, refl, Ok, Err, true, false}
use Rattle.std.specs.Prelude.{pos, negsuc}
use Rattle.sg_time.specs.declared.decimal.TimeError.TheVariants as error
use Rattle.sg_time.specs.Ticks.{ticks, percentage}

-- 0.0125
ticks_1 : ticks (record { negative = false; digits = 125; exponent = negsuc 3 }) (negsuc 8) (negsuc 11) (negsuc 11) ≡ Ok (pos 13)
ticks_1 = refl

-- 0.126
ticks_2 : ticks (record { negative = false; digits = 126; exponent = negsuc 2 }) (negsuc 8) (negsuc 10) (negsuc 11) ≡ Ok (pos 130)
ticks_2 = refl

-- -0.125
ticks_3 : ticks (record { negative = true; digits = 125; exponent = negsuc 2 }) (negsuc 8) (negsuc 10) (negsuc 11) ≡ Ok (negsuc 129)
ticks_3 = refl

-- 0.1249
ticks_4 : ticks (record { negative = false; digits = 1249; exponent = negsuc 3 }) (negsuc 8) (negsuc 10) (negsuc 11) ≡ Ok (pos 120)
ticks_4 = refl

-- 2.5
ticks_5 : ticks (record { negative = false; digits = 25; exponent = negsuc 0 }) (negsuc 8) (negsuc 8) (negsuc 8) ≡ Ok (pos 3)
ticks_5 = refl

-- -2.5
ticks_6 : ticks (record { negative = true; digits = 25; exponent = negsuc 0 }) (negsuc 8) (negsuc 8) (negsuc 8) ≡ Ok (negsuc 2)
ticks_6 = refl

-- -0.4
ticks_7 : ticks (record { negative = true; digits = 4; exponent = negsuc 0 }) (negsuc 8) (negsuc 8) (negsuc 8) ≡ Ok (pos 0)
ticks_7 = refl

-- 1
ticks_8 : ticks (record { negative = false; digits = 1; exponent = pos 0 }) (negsuc 11) (negsuc 8) (negsuc 11) ≡ Ok (pos 0)
ticks_8 = refl

-- 1
ticks_9 : ticks (record { negative = false; digits = 1; exponent = pos 0 }) (pos 2) (negsuc 14) (negsuc 14) ≡ Ok (pos 100000000000000000)
ticks_9 = refl

-- 12
ticks_10 : ticks (record { negative = false; digits = 12; exponent = pos 0 }) (pos 2) (negsuc 14) (negsuc 14) ≡ Err error.TooLarge
ticks_10 = refl

-- 1e99
ticks_11 : ticks (record { negative = false; digits = 1; exponent = pos 99 }) (pos 2) (negsuc 14) (negsuc 14) ≡ Err error.TooLarge
ticks_11 = refl

-- -1e99
ticks_12 : ticks (record { negative = true; digits = 1; exponent = pos 99 }) (pos 2) (negsuc 14) (negsuc 14) ≡ Err error.TooLarge
ticks_12 = refl

-- 1e-99
ticks_13 : ticks (record { negative = false; digits = 1; exponent = negsuc 98 }) (pos 2) (negsuc 14) (negsuc 14) ≡ Ok (pos 0)
ticks_13 = refl

-- 0e99
ticks_14 : ticks (record { negative = false; digits = 0; exponent = pos 99 }) (pos 2) (negsuc 14) (negsuc 14) ≡ Ok (pos 0)
ticks_14 = refl

-- 115292150460684697
ticks_15 : ticks (record { negative = false; digits = 115292150460684697; exponent = pos 0 }) (negsuc 10) (negsuc 10) (negsuc 11) ≡ Ok (pos 1152921504606846970)
ticks_15 = refl

-- -115292150460684697
ticks_16 : ticks (record { negative = true; digits = 115292150460684697; exponent = pos 0 }) (negsuc 10) (negsuc 10) (negsuc 11) ≡ Ok (negsuc 1152921504606846969)
ticks_16 = refl

-- 115292150460684698
ticks_17 : ticks (record { negative = false; digits = 115292150460684698; exponent = pos 0 }) (negsuc 10) (negsuc 10) (negsuc 11) ≡ Err error.TooLarge
ticks_17 = refl

-- 50 of 25
part_1 : percentage (record { negative = false; digits = 50; exponent = pos 0 }) 25 ≡ Ok 13
part_1 = refl

-- -50 of 25
part_2 : percentage (record { negative = true; digits = 50; exponent = pos 0 }) 25 ≡ Ok 0
part_2 = refl

-- 33.3 of 10
part_3 : percentage (record { negative = false; digits = 333; exponent = negsuc 0 }) 10 ≡ Ok 3
part_3 = refl

-- 1e1 of 5
part_4 : percentage (record { negative = false; digits = 1; exponent = pos 1 }) 5 ≡ Ok 1
part_4 = refl

-- 0.4 of 100
part_5 : percentage (record { negative = false; digits = 4; exponent = negsuc 0 }) 100 ≡ Ok 0
part_5 = refl

-- 2e2 of 7
part_6 : percentage (record { negative = false; digits = 2; exponent = pos 2 }) 7 ≡ Ok 14
part_6 = refl

-- 1e99 of 0
part_7 : percentage (record { negative = false; digits = 1; exponent = pos 99 }) 0 ≡ Ok 0
part_7 = refl

-- 1e-99 of 18446744073709551615
part_8 : percentage (record { negative = false; digits = 1; exponent = negsuc 98 }) 18446744073709551615 ≡ Ok 0
part_8 = refl

-- 100 of 18446744073709551615
part_9 : percentage (record { negative = false; digits = 100; exponent = pos 0 }) 18446744073709551615 ≡ Err error.TooLarge
part_9 = refl

-- 10 of 11529215046068469754
part_10 : percentage (record { negative = false; digits = 10; exponent = pos 0 }) 11529215046068469754 ≡ Ok 1152921504606846975
part_10 = refl

-- 10 of 11529215046068469755
part_11 : percentage (record { negative = false; digits = 10; exponent = pos 0 }) 11529215046068469755 ≡ Err error.TooLarge
part_11 = refl
