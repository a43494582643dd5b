-- The rules of the timing checks of cells are movable.
use Rattle.sdf_tree.specs.declared.words.Divider.{Divider}
use Rattle.sdf_tree.specs.Checks.{terminal_rest_parts, terminal_rest, terminal_parts, terminal, is_pair, is_window, is_single, is_skipped_check, two_terminals_parts, two_terminals, check_body_parts, check_body, check_parts, check}
use Rattle.sdf_tree.specs.Kinds.{is_left, is_right}
use Rattle.sdf_windows.specs.Movable.{Moves}
use Rattle.sdf_windows.proofs.Building.{the_token, the_mark, then, made, behind, before, called, with_place, or}
use Rattle.sdf_windows.proofs.Entries.{spec_moves, cond_moves}
use Rattle.sdf_windows.proofs.Values.{value_moves, port_moves, edge_word_moves, balanced_moves}

pub terminal_rest_moves : (divider : Divider) → Moves (terminal_rest divider)
unfolding terminal_rest_parts
terminal_rest_moves divider =
    let with_edge = then edge_word_moves (before (port_moves divider) (the_mark is_right)) in
    let conditional = then cond_moves (before (spec_moves divider) (the_mark is_right)) in
    called _ _ (or (made _ with_edge) (made _ conditional))

pub terminal_moves : (divider : Divider) → Moves (terminal divider)
unfolding terminal_parts
terminal_moves divider = called _ _ (or (made _ (port_moves divider)) (behind (the_mark is_left) (terminal_rest_moves divider)))

pub two_terminals_moves : (divider : Divider) → Moves (two_terminals divider)
unfolding two_terminals_parts
two_terminals_moves divider = called _ _ (then (terminal_moves divider) (then (terminal_moves divider) value_moves))

pub check_body_moves : (divider : Divider) → Moves (check_body divider)
unfolding check_body_parts
check_body_moves divider =
    let two = two_terminals_moves divider in
    let pair = then (the_token _ is_pair) two in
    let window = then (the_token _ is_window) (then two value_moves) in
    let single = then (the_token _ is_single) (then (terminal_moves divider) value_moves) in
    let skipped = before (the_token _ is_skipped_check) balanced_moves in
    called _ _ (or (made _ pair) (or (made _ window) (or (made _ single) (made _ skipped))))

pub check_moves : (divider : Divider) → Moves (check divider)
unfolding check_parts
check_moves divider = called _ _ (made _ (with_place (behind (the_mark is_left) (before (check_body_moves divider) (the_mark is_right)))))
