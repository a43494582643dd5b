-- Waivers, a line each: `INSTANCE CHECK FROM TO`, each of which may be `*`; a word that begins with `#` begins a comment.
use Rattle.std.specs.Prelude.{ℕ, ◌==◌, Bool, false, List, [], ◌∷◌, length, Option, Some, None, option_map, codes, if◌then◌else◌, Result}
use Rattle.std.specs.List.{before_first}
use Rattle.tally_violations.specs.Numbers.{number_of}
use Rattle.tally_violations.specs.Rows.{Row, passed, told, faulty, told_in, word_at}
use Rattle.tally_violations.specs.Violations.{is_text, told_or, ◌>>=◌}

-- where it stands, and what it takes away: a part that is None takes all; FROM is inside, TO isn't
pub record Waiver : Type 0 where
  pub line : ℕ
  pub instance : Option (List ℕ)
  pub check : Option (List ℕ)
  pub from : Option ℕ
  pub to : Option ℕ

abbrev pub is_star : List ℕ → Bool
is_star word = is_text (codes "*") word

abbrev pub name_of : List ℕ → Option (List ℕ)
name_of word = if is_star word then None else Some word

-- `*`, or a number
abbrev pub bound_of : List ℕ → Option (Option ℕ)
bound_of word = if is_star word then Some None else option_map Some (number_of word)

abbrev pub waiver_of : (line : ℕ) → List (List ℕ) → Option Waiver
waiver_of line ws = do
  from ← bound_of (word_at ws 2)
  to ← bound_of (word_at ws 3)
  Some (record { line = line; instance = name_of (word_at ws 0); check = name_of (word_at ws 1); from = from; to = to })

abbrev pub begins_comment : List ℕ → Bool
begins_comment [] = false
begins_comment (b ∷ bs) = b == 35

abbrev pub plain_row : (line : ℕ) → List (List ℕ) → Row Waiver
plain_row line ws = if length ws == 0 then passed else (if length ws == 4 then told_or (waiver_of line ws) else faulty)

abbrev pub waiver_row : (line : ℕ) → List (List ℕ) → Row Waiver
waiver_row line ws = plain_row line (before_first begins_comment ws)

abbrev pub waivers : List ℕ → Result (List Waiver) ℕ
waivers text = told_in waiver_row text
