-- Times in ticks. A time of some units is a fraction of ticks, which nothing rounds.
use Rattle.std.specs.Prelude.{ℕ, ℤ, ◌*◌, ◌/◌, ◌%◌, ◌^◌, ◌==◌, ◌+ℤ◌, ◌-ℤ◌, Bool, nat_lt, nat_le}
use Rattle.sg_time.specs.Spelling.{Number}
use Rattle.sg_time.specs.Ticks.{above, below}

-- the powers of ten of a second that the unit and the tick are
pub record Scale : Type 0 where
  pub unit : ℤ
  pub tick : ℤ

abbrev pub power_in : Scale → Number → ℤ
power_in scale t = t.exponent +ℤ (scale.unit -ℤ scale.tick)

-- the fraction of ticks that a time is
abbrev pub numerator : Scale → Number → ℕ
numerator scale t = t.digits * 10 ^ above (power_in scale t)

abbrev pub denominator : Scale → Number → ℕ
denominator scale t = 10 ^ below (power_in scale t)

abbrev pub is_whole : Scale → Number → Bool
is_whole scale t = (numerator scale t % denominator scale t) == 0

abbrev pub ticks : Scale → Number → ℕ
ticks scale t = numerator scale t / denominator scale t

-- 2 ^ 60 ticks or more
abbrev pub is_too_large : Scale → Number → Bool
is_too_large scale t = nat_le (2 ^ 60 * denominator scale t) (numerator scale t)

-- of two fractions the first is less
abbrev pub is_before : Scale → Number → Number → Bool
is_before scale t u = nat_lt (numerator scale t * denominator scale u) (numerator scale u * denominator scale t)
