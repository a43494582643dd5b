-- A bridge, on which no public clause rests: the longest number and the longest sized constant at the front of a text, as the code
-- finds them. That they are the definition's is proved (`proofs/NumberLaws.antt`, `proofs/SizedLaws.antt`).
use Rattle.std.specs.Prelude.{ℕ, ◌+◌, ◌-◌, ◌==◌, ◌||◌, List, [], ◌∷◌, length, drop, Option, Some, None, if◌then◌else◌}
use Rattle.std.specs.List.{prefix_len}
use Rattle.std.specs.Char.{is_ascii_digit}
use Rattle.vl_token.specs.Constants.{base_of, is_digit_of}
use Rattle.vl_token.specs.declared.bases.Base.{Base}
use Rattle.sg_time.specs.Reading.{sign_at, run_len}

-- at most two digits
abbrev pub digits_len : List ℕ → ℕ
digits_len [] = 0
digits_len (a ∷ []) = if is_ascii_digit a then 1 else 0
digits_len (a ∷ b ∷ bs) = if is_ascii_digit a then (if is_ascii_digit b then 2 else 1) else 0

abbrev pub signed_len : ℕ → List ℕ → ℕ
signed_len n digits = if 0 == digits_len digits then 0 else 1 + (n - length digits) + digits_len digits

abbrev pub power_len : List ℕ → ℕ
power_len [] = 0
power_len (b ∷ bs) = if (b == 101) || (b == 69) then signed_len (length bs) (sign_at bs).1 else 0

abbrev pub behind_run : ℕ → List ℕ → ℕ
behind_run n [] = n
behind_run n (b ∷ bs) =
    if b == 46 then (if 0 == n + run_len bs then 0 else n + (1 + (run_len bs + power_len (drop (run_len bs) bs))))
    else if 0 == n then 0 else n + power_len (b ∷ bs)

unfoldable pub number_len : List ℕ → ℕ
number_len text = behind_run (run_len text) (drop (run_len text) text)

-- an apostrophe, the letter of a base, and the digits that follow, 0 where there are none
abbrev pub digits_size : Option Base → List ℕ → ℕ
digits_size None digits = 0
digits_size (Some base) digits = prefix_len (is_digit_of base) digits

abbrev pub behind_base : ℕ → ℕ → ℕ
behind_base width digits = if digits == 0 then 0 else width + 2 + digits

abbrev pub base_size : ℕ → List ℕ → ℕ
base_size width [] = 0
base_size width (q ∷ []) = 0
base_size width (q ∷ letter ∷ digits) = if q == 39 then behind_base width (digits_size (base_of letter) digits) else 0

unfoldable pub sized_len : List ℕ → ℕ
sized_len text = base_size (prefix_len is_ascii_digit text) (drop (prefix_len is_ascii_digit text) text)
