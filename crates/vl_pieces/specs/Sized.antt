-- Sized constants (IEEE 1364-2005, the clause on integer constants): their form, and their width.
use Rattle.std.specs.Prelude.{ℕ, ◌==◌, ◌&&◌, nat_le, List, [], ◌∷◌, take, drop, Option, Some, None, if◌then◌else◌}
use Rattle.std.specs.List.{prefix_len, list_all}
use Rattle.std.specs.Char.{is_ascii_digit}
use Rattle.sg_time.specs.Spelling.{number_from}
use Rattle.vl_token.specs.Constants.{base_of, is_digit_of}
use Rattle.vl_token.specs.declared.bases.Base.{Base}

-- the parts of a sized constant: its width, empty where it has none, its base and its digits
pub record Sized : Type 0 where
  pub width : List ℕ
  pub base : Base
  pub digits : List ℕ

abbrev pub with_digits : List ℕ → Option Base → List ℕ → Option Sized
with_digits width None digits = None
with_digits width (Some base) [] = None
with_digits width (Some base) (d ∷ ds) = if list_all (is_digit_of base) (d ∷ ds) then Some (record { width = width; base = base; digits = d ∷ ds }) else None

abbrev pub behind_width : List ℕ → List ℕ → Option Sized
behind_width width [] = None
behind_width width (q ∷ []) = None
behind_width width (q ∷ letter ∷ digits) = if q == 39 then with_digits width (base_of letter) digits else None

-- the sized constant that bytes spell: decimal digits or none, an apostrophe, the letter of a base, and its digits
abbrev pub sized_of : List ℕ → Option Sized
sized_of bytes = behind_width (take (prefix_len is_ascii_digit bytes) bytes) (drop (prefix_len is_ascii_digit bytes) bytes)

abbrev pub width_in : ℕ → ℕ → Option (Option ℕ)
width_in widest n = if nat_le 1 n && nat_le n widest then Some (Some n) else None

-- no width, or one from 1 to 65536
abbrev pub width_of : List ℕ → Option (Option ℕ)
width_of [] = Some None
width_of (d ∷ ds) = width_in 65536 (number_from 0 (d ∷ ds))
