-- Numbers of ticks: digits alone, below 2^60.
use Rattle.std.specs.Prelude.{ℕ, ℤ, pos, neg_ℤ, ◌^◌, ◌==◌, ◌&&◌, Bool, nat_lt, List, [], ◌∷◌, length, Option, Some, None, option_map, if◌then◌else◌}
use Rattle.std.specs.Char.{is_ascii_digit}
use Rattle.std.specs.List.{list_all}
use Rattle.sg_time.specs.Spelling.{number_from}

abbrev pub are_digits : List ℕ → Bool
are_digits text = nat_lt 0 (length text) && list_all is_ascii_digit text

abbrev pub number_of : List ℕ → Option ℕ
number_of text = if are_digits text then (if nat_lt (number_from 0 text) (2 ^ 60) then Some (number_from 0 text) else None) else None

-- the same, perhaps with a `-` before it
abbrev pub signed_of : List ℕ → Option ℤ
signed_of [] = None
signed_of (b ∷ bs) = if b == 45 then option_map (λ n. neg_ℤ (pos n)) (number_of bs) else option_map pos (number_of (b ∷ bs))
