-- The lines of a report: each change as it is told.
use Rattle.std.specs.Prelude.{ℕ, ◌+◌, ◌++◌, ◌∷◌, List, [], count_by, map, take}
use Rattle.std.specs.List.Sorted.{IsPermutation, IsSortedByKey, IsStableByKey}
use Rattle.std.specs.Ordering.{nat_cmp, ordering_then}
use Rattle.std.specs.declared.cmp.Ordering.{Ordering}
use Rattle.fit_changes.specs.declared.lines.Line as code
use Rattle.fit_changes.specs.declared.rules.Rule.{Rule}
use Rattle.fit_changes.specs.Changes.{Change, ChangedText, is_feed}

-- in which file and on which line, by which rule, in which module or primitive, and what it is in words
pub record Line : Type 0 where
  pub file : ℕ
  pub number : ℕ
  pub rule : Rule
  pub part : List ℕ
  pub what : List ℕ

abbrev pub line_seen : code.Line → Line
line_seen l = record { file = l.file; number = l.number; rule = l.rule; part = l.part.items; what = l.what.items }

-- the line on which a byte stands, counted from 1
abbrev pub line_of : List ℕ → ℕ → ℕ
line_of text byte = 1 + count_by is_feed (take byte text)

abbrev pub told_line : (file number : ℕ) → Change → Line
told_line file number c = record { file = file; number = number; rule = c.rule; part = c.part; what = c.what }

-- the lines of a file's changes
abbrev pub lines_of : ℕ → ChangedText → List Line
lines_of file t = map (λ c. told_line file (line_of t.text c.byte) c) t.changes

-- of files, whose numbers begin with one
abbrev pub lines_from : ℕ → List ChangedText → List Line
lines_from file [] = []
lines_from file (t ∷ ts) = lines_of file t ++ lines_from (file + 1) ts

-- ---- their order

abbrev pub place_of : Line → ℕ × ℕ
place_of l = (l.file, l.number)

abbrev pub compared : ℕ × ℕ → ℕ × ℕ → Ordering
compared x y = ordering_then (nat_cmp x.0 y.0) (nat_cmp x.1 y.1)

-- lines in the order of files and lines, where those of one line of a file stay in their order
pub record AreSorted (lines sorted : List Line) : Type 0 where
  pub same : IsPermutation lines sorted
  pub in_order : IsSortedByKey place_of compared sorted
  pub stable : IsStableByKey place_of compared lines sorted
