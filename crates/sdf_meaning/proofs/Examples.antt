-- Small decimals beside one another.
use Rattle.std.proofs.Common.{◌≡◌, true, false, refl}
use Rattle.std.specs.Prelude.{pos, neg_ℤ}
use Rattle.sdf_tree.specs.Faults.{is_below}

-- 1.9 is below 2
below_two : is_below (record { negative = false; digits = 19; exponent = neg_ℤ (pos 1) }) (record { negative = false; digits = 2; exponent = pos 0 }) ≡ true
below_two = refl

-- 2.0 isn't
two_places : is_below (record { negative = false; digits = 20; exponent = neg_ℤ (pos 1) }) (record { negative = false; digits = 2; exponent = pos 0 }) ≡ false
two_places = refl

-- -2 is below -1
below_zero : is_below (record { negative = true; digits = 2; exponent = pos 0 }) (record { negative = true; digits = 1; exponent = pos 0 }) ≡ true
below_zero = refl

-- and -0 isn't below 0
no_zero : is_below (record { negative = true; digits = 0; exponent = pos 0 }) (record { negative = false; digits = 0; exponent = pos 0 }) ≡ false
no_zero = refl
