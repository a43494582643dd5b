-- The bytes of plain names (IEEE 1364-2005, 3.7).
use Rattle.std.specs.Prelude.{ℕ, ◌==◌, ◌&&◌, ◌||◌, Bool, false, List, [], ◌∷◌}
use Rattle.std.specs.List.{list_all}
use Rattle.std.specs.Char.{is_ascii_alphabetic, is_ascii_alphanumeric}

-- a letter or an underscore
abbrev pub is_name_start : ℕ → Bool
is_name_start b = is_ascii_alphabetic b || (b == 95)

-- a letter, an underscore, a digit or a dollar sign
abbrev pub is_name_byte : ℕ → Bool
is_name_byte b = is_ascii_alphanumeric b || (b == 95) || (b == 36)

-- a simple identifier: it may be a reserved word
abbrev pub is_simple : List ℕ → Bool
is_simple [] = false
is_simple (b ∷ bs) = is_name_start b && list_all is_name_byte bs
