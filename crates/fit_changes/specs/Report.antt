-- The report of changes: a line a change, `FILE:LINE: PART: same|told RULE: what`, then how many there are by each rule.
use Rattle.std.specs.Prelude.{ℕ, Bool, ◌==◌, ◌++◌, ◌∷◌, List, [], Option, Some, None, codes, count_by, decimal, flat_map, if◌then◌else◌, length, slice_index_or}
use Rattle.std.specs.List.{find, list_any}
use Rattle.fit_changes.specs.declared.rules.Rule.{Rule}
use Rattle.fit_changes.specs.Lines.{Line}
use Rattle.fit_changes.specs.Rules.{is_told, rule_number, rule_word, rules}

abbrev pub place_text : List ℕ → ℕ → List ℕ
place_text file line = file ++ codes ":" ++ decimal line ++ codes ": "

-- the name of a module or primitive, or a dash outside
abbrev pub part_text : List ℕ → List ℕ
part_text [] = codes "-"
part_text (b ∷ bs) = b ∷ bs

abbrev pub kept_text : Bool → List ℕ
kept_text told = if told then codes ": told " else codes ": same "

abbrev pub rule_text : Rule → List ℕ
rule_text r = kept_text (is_told r) ++ rule_word r ++ codes ": "

-- a line, of files with these names
abbrev pub line_text : List (List ℕ) → Line → List ℕ
line_text names l = place_text (slice_index_or names l.file []) l.number ++ part_text l.part ++ rule_text l.rule ++ l.what ++ codes "\n"

abbrev pub lines_text : List (List ℕ) → List Line → List ℕ
lines_text names lines = flat_map (line_text names) lines

-- whether values or violations may change by a change
abbrev pub tells : Line → Bool
tells l = is_told l.rule

abbrev pub are_told : List Line → Bool
are_told lines = list_any tells lines

-- the first line that says so, if there is one
abbrev pub line_if : List (List ℕ) → Option Line → List ℕ
line_if names None = []
line_if names (Some l) = line_text names l

abbrev pub first_told : List (List ℕ) → List Line → List ℕ
first_told names lines = line_if names (find tells lines)

abbrev pub is_by : Rule → Line → Bool
is_by r l = rule_number l.rule == rule_number r

abbrev pub count_line : List ℕ → ℕ → List ℕ
count_line word count = word ++ codes " " ++ decimal count ++ codes "\n"

-- how many changes there are by a rule, where there are any
abbrev pub count_line_of : Rule → ℕ → List ℕ
count_line_of r count = if count == 0 then [] else count_line (rule_word r) count

abbrev pub rule_line : List Line → Rule → List ℕ
rule_line lines r = count_line_of r (count_by (is_by r) lines)

-- how many there are by each rule, and in all
abbrev pub counts_text : List Line → List ℕ
counts_text lines = flat_map (rule_line lines) rules ++ count_line (codes "changes") (length lines)
