-- The rules of heads, cells and files are movable.
use Rattle.std.proofs.Common.{Bool}
use Rattle.sdf_tree.specs.declared.keywords.Keyword.TheVariants as keyword
use Rattle.sdf_tree.specs.declared.words.Divider.{Divider}
use Rattle.sdf_tree.specs.Files.{is_skipped_part, part_body_parts, part_body, part_parts, part, cell_type_parts, cell_type, instance_path, instance_parts, instance, cell_parts, cell, unit_parts, time_unit, head_parts, head, FileState, file_part_parts, file_part}
use Rattle.sdf_tree.specs.Kinds.{is_left, is_right, is_star, is_select, is_word_that, is_text_word, is_value_word, is_instance, is_divider, is_scale, is_unit, is_joined}
use Rattle.sdf_windows.specs.Movable.{Moves}
use Rattle.sdf_windows.proofs.Building.{the_token, the_mark, the_word, then, made, behind, before, called, with_place, or, perhaps, repeated, where_so}
use Rattle.sdf_windows.proofs.Checks.{check_moves}
use Rattle.sdf_windows.proofs.Entries.{group_moves}
use Rattle.sdf_windows.proofs.Values.{text_moves, numbers_moves, balanced_moves}

-- ---- cells

pub part_body_moves : (limited : Bool) (divider : Divider) → Moves (part_body limited divider)
unfolding part_body_parts
part_body_moves limited divider =
    let delays = behind (the_word keyword.Delay) (repeated (group_moves limited divider)) in
    let checks = behind (the_word keyword.TimingCheck) (repeated (check_moves divider)) in
    let skipped = before (the_token _ is_skipped_part) balanced_moves in
    called _ _ (or (made _ delays) (or (made _ checks) (made _ skipped)))

pub part_moves : (limited : Bool) (divider : Divider) → Moves (part limited divider)
unfolding part_parts
part_moves limited divider = called _ _ (made _ (with_place (behind (the_mark is_left) (before (part_body_moves limited divider) (the_mark is_right)))))

pub cell_type_moves : Moves cell_type
unfolding cell_type_parts
cell_type_moves = called _ _ (behind (the_mark is_left) (behind (the_word keyword.CellType) (before text_moves (the_mark is_right))))

pub instance_path_moves : (divider : Divider) → Moves (instance_path divider)
instance_path_moves divider = made _ (before (the_token _ (is_instance divider)) (perhaps (the_mark is_select)))

pub instance_moves : (divider : Divider) → Moves (instance divider)
unfolding instance_parts
instance_moves divider =
    let which = or (made _ (the_mark is_star)) (instance_path_moves divider) in
    called _ _ (made _ (behind (the_mark is_left) (behind (the_word keyword.Instance) (before (perhaps which) (the_mark is_right)))))

pub cell_moves : (limited : Bool) (divider : Divider) → Moves (cell limited divider)
unfolding cell_parts
cell_moves limited divider = called _ _ (made _ (behind (the_word keyword.Cell) (then cell_type_moves (then (instance_moves divider) (repeated (part_moves limited divider))))))

-- ---- heads

pub time_unit_moves : Moves time_unit
unfolding unit_parts
time_unit_moves = called _ _ (or (made _ (then (the_token _ is_scale) (the_token _ is_unit))) (the_token _ is_joined))

pub head_moves : Moves head
unfolding head_parts
head_moves =
    let of_text = behind (the_mark (is_word_that is_text_word)) text_moves in
    let divider = behind (the_word keyword.Divider) (the_token _ is_divider) in
    let unit = behind (the_word keyword.TimeScale) time_unit_moves in
    let value = behind (the_mark (is_word_that is_value_word)) (perhaps numbers_moves) in
    called _ _ (or (made _ of_text) (or (made _ divider) (or (made _ unit) (made _ value))))

-- ---- parts of files

pub file_part_moves : (limited : Bool) (s : FileState) → Moves (file_part limited s)
unfolding file_part_parts
file_part_moves limited s =
    let heads = made _ (where_so s.heads head_moves) in
    called _ _ (behind (the_mark is_left) (before (or heads (made _ (cell_moves limited s.divider))) (the_mark is_right)))
