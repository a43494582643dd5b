-- The code's table of words as the definitions see it, and what tells most names from them.
use Rattle.std.specs.Prelude.{ℕ, ◌-◌, List, [], ◌∷◌, Bool, false, ◌&&◌, ◌||◌, ◌==◌, length, get_or}
use Rattle.std.specs.Char.{is_ascii_lowercase}
use Rattle.std.specs.Borrow.{Bor}
use Rattle.sg_text.specs.declared.words.Reserved.{Reserved}
use Rattle.sg_text.specs.Words.{Row}

-- a row of the table
abbrev pub row : Bor (List ℕ) × Reserved → Row
row r = record { text = r.0.now; purpose = r.1 }

-- whether a text begins with a small letter and ends with one, or with 0 or 1
abbrev pub has_ends : List ℕ → Bool
has_ends [] = false
has_ends (b ∷ []) = false
has_ends (b ∷ c ∷ bs) =
    let last = get_or (c ∷ bs) (length bs) 0 in
    is_ascii_lowercase b && (is_ascii_lowercase last || (last == 48) || (last == 49))
