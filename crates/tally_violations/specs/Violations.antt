-- The violations that a report tells, a line each: `violation TIME INSTANCE CHECK REFERENCE TIME DATA TIME limit LIMIT`.
use lib.Pointwise.{pointwise}
use Rattle.std.specs.Prelude.{ℕ, ℤ, pos, ◌-ℤ◌, ◌==◌, ◌&&◌, ◌||◌, Bool, List, length, Option, Some, None, option_and_then, nat_eq, codes, if◌then◌else◌, Result}
use Rattle.tally_violations.specs.Numbers.{number_of, signed_of}
use Rattle.tally_violations.specs.Rows.{Row, passed, told, faulty, told_in, word_at}

-- the instance, the word of the check, the time, and by how many ticks the limit was missed
pub record Violation : Type 0 where
  pub instance : List ℕ
  pub check : List ℕ
  pub time : ℕ
  pub short : ℤ

infixl 10 ◌>>=◌
abbrev pub ◌>>=◌ : {A B : Type 0} → Option A → (A → Option B) → Option B
known >>= next = option_and_then next known

abbrev pub is_text : List ℕ → List ℕ → Bool
is_text text word = pointwise nat_eq word text

abbrev pub is_limit_before : List ℕ → Bool
is_limit_before check = is_text (codes "setup") check || is_text (codes "removal") check

abbrev pub is_limit_behind : List ℕ → Bool
is_limit_behind check = is_text (codes "hold") check || is_text (codes "recovery") check || is_text (codes "width") check || is_text (codes "period") check

-- The limit less the time that was seen. That is the time from the data to the reference for setup and removal, and from the reference
-- to the data for the other checks; for skew, which limits it from above, the rest of it (IEEE 1364-2005, 15.2, 15.3).
abbrev pub short_of : (check : List ℕ) → (reference datum : ℕ) → (limit : ℤ) → Option ℤ
short_of check reference datum limit =
    if is_limit_before check then Some (limit -ℤ (pos reference -ℤ pos datum))
    else if is_limit_behind check then Some (limit -ℤ (pos datum -ℤ pos reference))
    else if is_text (codes "skew") check then Some ((pos datum -ℤ pos reference) -ℤ limit)
    else None

-- what the ten words of a line say
abbrev pub violation_of : List (List ℕ) → Option Violation
violation_of ws = do
  time ← number_of (word_at ws 1)
  reference ← number_of (word_at ws 5)
  datum ← number_of (word_at ws 7)
  limit ← signed_of (word_at ws 9)
  short ← short_of (word_at ws 3) reference datum limit
  Some (record { instance = word_at ws 2; check = word_at ws 3; time = time; short = short })

abbrev pub told_or : {X : Type 0} → Option X → Row X
told_or None = faulty
told_or (Some x) = told x

abbrev pub is_form : List (List ℕ) → Bool
is_form ws = (length ws == 10) && is_text (codes "limit") (word_at ws 8)

-- lines of other words are passed over
abbrev pub violation_row : (line : ℕ) → List (List ℕ) → Row Violation
violation_row line ws =
    if is_text (codes "violation") (word_at ws 0) then (if is_form ws then told_or (violation_of ws) else faulty) else passed

-- the violations of a report, or the number of the first line without a form
abbrev pub violations : List ℕ → Result (List Violation) ℕ
violations text = told_in violation_row text
