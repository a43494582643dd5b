-- Powers of ten that tell numbers of 18 digits apart.
use Rattle.std.specs.Prelude.{ℕ, ◌*◌, ◌^◌, nat_le, if◌then◌else◌}
use Rattle.std.specs.Int.{int_gap}
use Rattle.sg_time.specs.Spelling.{Number}

abbrev pub few_places : ℕ → ℕ
few_places n = if nat_le n 18 then n else 18

-- a number's size beside another, with no more places than tell them apart
abbrev pub near_size : Number → Number → ℕ
near_size n other = n.digits * 10 ^ few_places (int_gap other.exponent n.exponent)
