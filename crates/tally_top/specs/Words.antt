-- The words of the command line and what they ask for: `violations REPORT [--waive FILE]`, the option before or behind the report.
use lib.Pointwise.{pointwise}
use Rattle.std.specs.Prelude.{ℕ, ◌==◌, ◌&&◌, Bool, not, List, [], length, nat_lt, nat_eq, codes, slice_index_or, Option, Some, None, if◌then◌else◌}
use Rattle.std.specs.List.{starts_with}

-- the file of the report, and that of the waivers, if there is one
pub record Asked : Type 0 where
  pub report : List ℕ
  pub waive : Option (List ℕ)

abbrev pub is_text : List ℕ → List ℕ → Bool
is_text text word = pointwise nat_eq word text

-- a word by its number, empty past the last
abbrev pub word_at : List (List ℕ) → ℕ → List ℕ
word_at ws n = slice_index_or ws n []

-- a file's name isn't empty and doesn't begin with `-`
abbrev pub is_name : List ℕ → Bool
is_name word = nat_lt 0 (length word) && not (starts_with nat_eq word (codes "-"))

abbrev pub asked_plain : (report : List ℕ) → Option Asked
asked_plain report = if is_name report then Some (record { report = report; waive = None }) else None

abbrev pub asked_waived : (report waive : List ℕ) → Option Asked
asked_waived report waive = if is_name report && is_name waive then Some (record { report = report; waive = Some waive }) else None

abbrev pub is_option : List ℕ → Bool
is_option word = is_text (codes "--waive") word

abbrev pub asked_in_four : List (List ℕ) → Option Asked
asked_in_four ws =
    if is_option (word_at ws 2) then asked_waived (word_at ws 1) (word_at ws 3)
    else if is_option (word_at ws 1) then asked_waived (word_at ws 3) (word_at ws 2)
    else None

-- none where they are refused
abbrev pub asked_of : List (List ℕ) → Option Asked
asked_of ws =
    if is_text (codes "violations") (word_at ws 0)
    then (if length ws == 2 then asked_plain (word_at ws 1) else (if length ws == 4 then asked_in_four ws else None))
    else None
