-- The text of the figures: a line a group, the waivers that take nothing, and two counts.
use Rattle.std.specs.Prelude.{ℕ, ℤ, ◌-◌, List, [], ◌∷◌, ◌++◌, length, codes, decimal, flat_map}
use Rattle.std.specs.Fmt.{signed_decimal}
use Rattle.std.specs.Int.{int_max}
use Rattle.tally_violations.specs.Groups.{groups}
use Rattle.tally_violations.specs.Left.{unused}
use Rattle.tally_violations.specs.declared.violations.Violation.{Violation}
use Rattle.tally_violations.specs.declared.waivers.Waiver.{Waiver}

-- the most by which the limit was missed
abbrev pub worst : ℤ → List Violation → ℤ
worst most [] = most
worst most (v ∷ vs) = worst (int_max most v.short) vs

-- a word behind others
abbrev pub word_text : List ℕ → List ℕ
word_text word = codes " " ++ word

abbrev pub key_text : Violation → List ℕ
key_text v = v.instance.now ++ word_text v.check.now

abbrev pub values_text : (count first : ℕ) → (short : ℤ) → List ℕ
values_text count first short =
    word_text (codes "count") ++ word_text (decimal count) ++ word_text (codes "first") ++ word_text (decimal first) ++ word_text (codes "short") ++ word_text (signed_decimal short)

-- `INSTANCE CHECK count N first TIME short TICKS`
abbrev pub group_line : List Violation → List ℕ
group_line [] = []
group_line (v ∷ vs) = key_text v ++ values_text (length (v ∷ vs)) v.time (worst v.short vs) ++ codes "\n"

-- of a file of this name
abbrev pub unused_line : (name : List ℕ) → Waiver → List ℕ
unused_line name w = codes "unused " ++ name ++ codes ":" ++ decimal w.line ++ codes "\n"

abbrev pub count_line : (word : List ℕ) → ℕ → List ℕ
count_line word n = word ++ word_text (decimal n) ++ codes "\n"

abbrev pub counts_text : (left waived : ℕ) → List ℕ
counts_text left waived = count_line (codes "violations") left ++ count_line (codes "waived") waived

-- of violations that are left, in their order
abbrev pub figures_text : (name : List ℕ) → (all : List Violation) → List Waiver → (ordered : List Violation) → List ℕ
figures_text name all ws ordered =
    flat_map group_line (groups ordered) ++ flat_map (unused_line name) (unused all ws) ++ counts_text (length ordered) (length all - length ordered)
