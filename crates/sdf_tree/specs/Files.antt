-- The grammar of SDF files (IEEE 1497-2001, annex A): heads, cells, and the file.
use Rattle.std.specs.Prelude.{ℕ, ℤ, pos, ◌+ℤ◌, Bool, true, false, ◌||◌, not, List, Option, Some, None, is_some}
use Rattle.grammar.specs.Rule.{◌∙∙◌, ◌▸◌, ◌◂◌, mapped, named, no_kind, only_if}
use Rattle.grammar.specs.States.{many_by}
use Rattle.sg_text.specs.declared.places.Place.{Place}
use Rattle.sdf_tree.specs.declared.keywords.Keyword.TheVariants as keyword
use Rattle.sdf_tree.specs.declared.tree.Skipped.{Skipped}
use Rattle.sdf_tree.specs.declared.tree.Skipped.TheVariants as skipped
use Rattle.sdf_tree.specs.declared.words.Divider.{Divider}
use Rattle.sdf_tree.specs.declared.words.Divider.TheVariants.{Point}
use Rattle.sdf_tree.specs.Checks.{check}
use Rattle.sdf_tree.specs.Entries.{group}
use Rattle.sdf_tree.specs.Kinds.{Kind, kind_of, is_left, is_right, is_star, is_select, is_word, is_word_that, is_text_word, is_value_word, is_instance, is_divider, is_scale, is_unit, is_joined, skipped_part_of, names, word_text, divider_word, scale_word, unit_word, joined_word}
use Rattle.sdf_tree.specs.Rules.{Grammar, token, mark, word, placed, either, optional, many}
use Rattle.sdf_tree.specs.Values.{text, numbers, numbers_continue, balanced}
use Rattle.sdf_tree.specs.Written.{Instance, the_top, all_of_type, the_path, Group, Check, Part, delays, checks, skipped_part, Cell, Head, text_head, divider_head, unit_head, value_head, FilePart, a_head, a_cell}

-- ---- cells

abbrev pub is_skipped_part : Kind → Bool
is_skipped_part = is_word_that (λ w. is_some (skipped_part_of w))

pub data PartBody : Type 0 where
  delays_body : List Group → PartBody
  checks_body : List Check → PartBody
  skipped_body : Skipped → PartBody

-- part-body = DELAY { group } | TIMINGCHECK { check } | (TIMINGENV | LABEL) balanced
unfoldable pub part_body_parts : (limited : Bool) → Divider → Grammar PartBody
part_body_parts limited divider =
    either (mapped delays_body (word keyword.Delay ▸ many (group limited divider)))
    (either (mapped checks_body (word keyword.TimingCheck ▸ many (check divider))) (mapped skipped_body (token (λ t. names skipped_part_of skipped.Label t.meaning) is_skipped_part ◂ balanced)))

abbrev pub part_starts : Kind → Bool
part_starts k = is_word keyword.Delay k || (is_word keyword.TimingCheck k || is_skipped_part k)

abbrev pub part_continues : Kind → Bool
part_continues k = not (is_right k)

abbrev pub part_body : (limited : Bool) → Divider → Grammar PartBody
part_body limited divider = named part_starts part_continues (part_body_parts limited divider)

abbrev pub part_of : Place → PartBody → Part
part_of place (delays_body gs) = delays gs
part_of place (checks_body cs) = checks cs
part_of place (skipped_body s) = skipped_part place s

-- part = "(" part-body ")"
unfoldable pub part_parts : (limited : Bool) → Divider → Grammar Part
part_parts limited divider = mapped (λ x. part_of x.0 x.1) (placed (mark is_left ▸ (part_body limited divider ◂ mark is_right)))

abbrev pub part : (limited : Bool) → Divider → Grammar Part
part limited divider = named is_left no_kind (part_parts limited divider)

-- cell-type = "(" CELLTYPE text ")"
unfoldable pub cell_type_parts : Grammar (List ℕ)
cell_type_parts = mark is_left ▸ (word keyword.CellType ▸ (text ◂ mark is_right))

abbrev pub cell_type : Grammar (List ℕ)
cell_type = named is_left no_kind cell_type_parts

-- An instance below the top: names with the divider between, whose brackets belong to them, so that a bit select at the end does too.
abbrev pub instance_path : Divider → Grammar Instance
instance_path divider = mapped the_path (token (λ t. word_text t.meaning) (is_instance divider) ◂ optional (mark is_select))

abbrev pub instance_or_top : Option Instance → Instance
instance_or_top None = the_top
instance_or_top (Some i) = i

-- "*" | instance-path
abbrev pub instance_there : Divider → Grammar Instance
instance_there divider = either (mapped (λ _. all_of_type) (mark is_star)) (instance_path divider)

-- instance = "(" INSTANCE [ "*" | instance-path ] ")"
unfoldable pub instance_parts : Divider → Grammar Instance
instance_parts divider = mapped instance_or_top (mark is_left ▸ (word keyword.Instance ▸ (optional (instance_there divider) ◂ mark is_right)))

abbrev pub instance : Divider → Grammar Instance
instance divider = named is_left no_kind (instance_parts divider)

-- cell = CELL cell-type instance { part }
unfoldable pub cell_parts : (limited : Bool) → Divider → Grammar Cell
cell_parts limited divider = mapped (λ x. record { cell_type = x.0; instance = x.1.0; parts = x.1.1 }) (word keyword.Cell ▸ (cell_type ∙∙ (instance divider ∙∙ many (part limited divider))))

abbrev pub cell : (limited : Bool) → Divider → Grammar Cell
cell limited divider = named (is_word keyword.Cell) is_left (cell_parts limited divider)

-- ---- heads

-- unit: 1, 10 or 100 and a unit, in two words or in one
unfoldable pub unit_parts : Grammar ℤ
unit_parts = either (mapped (λ x. pos x.0 +ℤ x.1) (token (λ t. scale_word t.meaning) is_scale ∙∙ token (λ t. unit_word t.meaning) is_unit)) (token (λ t. joined_word t.meaning) is_joined)

abbrev pub unit_starts : Kind → Bool
unit_starts k = is_scale k || is_joined k

abbrev pub time_unit : Grammar ℤ
time_unit = named unit_starts no_kind unit_parts

-- head = (SDFVERSION | DESIGN | DATE | VENDOR | PROGRAM | VERSION | PROCESS) text | DIVIDER divider | TIMESCALE unit
--     | (VOLTAGE | TEMPERATURE) [ numbers ]
unfoldable pub head_parts : Grammar Head
head_parts =
    either (mapped (λ _. text_head) (mark (is_word_that is_text_word) ▸ text))
    (either (mapped divider_head (word keyword.Divider ▸ token (λ t. divider_word t.meaning) is_divider))
    (either (mapped unit_head (word keyword.TimeScale ▸ time_unit)) (mapped value_head (mark (is_word_that is_value_word) ▸ optional numbers))))

abbrev pub head_starts : Kind → Bool
head_starts k = is_word_that is_text_word k || (is_word keyword.Divider k || (is_word keyword.TimeScale k || is_word_that is_value_word k))

abbrev pub head : Grammar Head
head = named head_starts numbers_continue head_parts

-- ---- files

-- Heads stand before cells, and the last divider holds for all cells.
pub record FileState : Type 0 where
  pub heads : Bool
  pub divider : Divider

abbrev pub divider_after : Divider → Head → Divider
divider_after divider (divider_head d) = d
divider_after divider _ = divider

abbrev pub state_after_part : FileState → FilePart → FileState
state_after_part s (a_head h) = record { heads = s.heads; divider = divider_after s.divider h }
state_after_part s (a_cell c) = record { heads = false; divider = s.divider }

-- file-part = "(" head ")" | "(" cell ")"
unfoldable pub file_part_parts : (limited : Bool) → FileState → Grammar FilePart
file_part_parts limited s = mark is_left ▸ (either (mapped a_head (only_if s.heads head)) (mapped a_cell (cell limited s.divider)) ◂ mark is_right)

abbrev pub file_part : (limited : Bool) → FileState → Grammar FilePart
file_part limited s = named is_left no_kind (file_part_parts limited s)

abbrev pub first_state : FileState
first_state = record { heads = true; divider = Point }

unfoldable pub file_parts_parts : Bool → Grammar (List FilePart)
file_parts_parts limited = many_by kind_of is_left (file_part limited) state_after_part (λ s. true) first_state

-- file = "(" DELAYFILE { head } { cell } ")"
unfoldable pub file_body : Bool → Grammar (List FilePart)
file_body limited = mark is_left ▸ (word keyword.DelayFile ▸ (file_parts_parts limited ◂ mark is_right))

abbrev pub file : Bool → Grammar (List FilePart)
file limited = named is_left no_kind (file_body limited)
