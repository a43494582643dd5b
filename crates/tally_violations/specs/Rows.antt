-- A text as rows between line feeds, a row as words between blanks.
use Rattle.std.specs.Prelude.{ℕ, suc, ◌==◌, ◌||◌, Bool, List, [], ◌∷◌, ◌++◌, length, filter, nat_lt, slice_index_or, Option, Some, None, Result, Ok, Err}
use Rattle.std.specs.List.{slice_split}

abbrev pub rows : List ℕ → List (List ℕ)
rows text = slice_split (λ b. b == 10) text

-- a space, a tab or a carriage return
abbrev pub is_blank : ℕ → Bool
is_blank b = (b == 32) || (b == 9) || (b == 13)

unfoldable pub words : List ℕ → List (List ℕ)
words row = filter (λ w. nat_lt 0 (length w)) (slice_split is_blank row)

-- a word by its number, empty past the last
abbrev pub word_at : List (List ℕ) → ℕ → List ℕ
word_at ws n = slice_index_or ws n []

-- what a row says: nothing of what is asked for, one of it, or it has no form
pub data Row (X : Type 0) : Type 0 where
  passed : Row X
  told : X → Row X
  faulty : Row X

-- one more before what other rows say
abbrev pub with_one : {X : Type 0} → X → Result (List X) ℕ → Result (List X) ℕ
with_one x (Ok xs) = Ok (x ∷ xs)
with_one x (Err line) = Err line

abbrev pub then_more : {X : Type 0} → ℕ → Row X → Result (List X) ℕ → Result (List X) ℕ
then_more line passed more = more
then_more line (told x) more = with_one x more
then_more line faulty more = Err line

-- all that rows say, the first of which is a line of that number; or the number of the first line without a form
abbrev pub told_from : {X : Type 0} → (says : ℕ → List (List ℕ) → Row X) → (line : ℕ) → List (List ℕ) → Result (List X) ℕ
told_from says line [] = Ok []
told_from says line (row ∷ rows) = then_more line (says line (words row)) (told_from says (suc line) rows)

abbrev pub told_in : {X : Type 0} → (says : ℕ → List (List ℕ) → Row X) → List ℕ → Result (List X) ℕ
told_in says text = told_from says 1 (rows text)
