-- The rules of the delays of cells are movable.
use Rattle.std.proofs.Common.{ℕ, Bool}
use Rattle.std.specs.Prelude.{◌==◌}
use Rattle.sdf_tree.specs.declared.keywords.Keyword.TheVariants as keyword
use Rattle.sdf_tree.specs.declared.words.Divider.{Divider}
use Rattle.sdf_tree.specs.Entries.{spec_parts, spec, cond_parts, cond, tail_rest_parts, tail_part, count_after, tail_parts, tail, path_parts, path, inner_path_parts, inner_path, net_body_parts, net_body, body_parts, body, entry_parts, entry, is_pulse, pulse_parts, pulse, group_body_parts, group_body, group_parts, group}
use Rattle.sdf_tree.specs.Kinds.{is_left, is_right}
use Rattle.sdf_tree.specs.Values.{may_come, may_end}
use Rattle.sdf_windows.specs.Movable.{Moves}
use Rattle.sdf_windows.proofs.Building.{the_token, the_mark, the_word, then, made, behind, before, called, with_place, or, perhaps, repeated, where_so, by_state}
use Rattle.sdf_windows.proofs.Values.{text_moves, value_moves, delay_rest_moves, list_moves, port_moves, edge_word_moves, condition_moves}

pub spec_moves : (divider : Divider) → Moves (spec divider)
unfolding spec_parts
spec_moves divider =
    let with_edge = behind (the_mark is_left) (then edge_word_moves (before (port_moves divider) (the_mark is_right))) in
    called _ _ (or (made _ (port_moves divider)) (made _ with_edge))

pub cond_moves : Moves cond
unfolding cond_parts
cond_moves = called _ _ (behind (the_word keyword.Cond) (behind (perhaps text_moves) condition_moves))

-- ---- paths

tail_rest_moves : (limited : Bool) (n : ℕ) → Moves (tail_rest_parts limited n)
unfolding tail_rest_parts
tail_rest_moves limited n =
    let retain = behind (the_word keyword.Retain) (before (list_moves limited) (the_mark is_right)) in
    or (made _ (where_so (n == 0) retain)) (made _ delay_rest_moves)

tail_part_moves : (limited : Bool) (n : ℕ) → Moves (tail_part limited n)
tail_part_moves limited n = where_so (may_come limited n) (made _ (with_place (behind (the_mark is_left) (tail_rest_moves limited n))))

pub tail_moves : (limited : Bool) → Moves (tail limited)
unfolding tail_parts
tail_moves limited = called _ _ (made _ (by_state is_left (tail_part limited) count_after (may_end limited) (tail_part_moves limited) 0))

pub path_moves : (limited : Bool) (divider : Divider) → Moves (path limited divider)
unfolding path_parts
path_moves limited divider = called _ _ (behind (the_word keyword.IoPath) (then (spec_moves divider) (then (port_moves divider) (tail_moves limited))))

pub inner_path_moves : (limited : Bool) (divider : Divider) → Moves (inner_path limited divider)
unfolding inner_path_parts
inner_path_moves limited divider = called _ _ (behind (the_mark is_left) (before (path_moves limited divider) (the_mark is_right)))

-- ---- entries

pub net_body_moves : (limited : Bool) (divider : Divider) → Moves (net_body limited divider)
unfolding net_body_parts
net_body_moves limited divider =
    let port = port_moves divider in
    let delays = list_moves limited in
    let to_port = behind (the_word keyword.Port) (then port delays) in
    let between = behind (the_word keyword.Interconnect) (then port (then port delays)) in
    let device = behind (the_word keyword.Device) (then (perhaps port) delays) in
    let net = behind (the_word keyword.NetDelay) (then port delays) in
    called _ _ (or (made _ to_port) (or (made _ between) (or (made _ device) (made _ net))))

pub body_moves : (limited : Bool) (divider : Divider) → Moves (body limited divider)
unfolding body_parts
body_moves limited divider =
    let inner = inner_path_moves limited divider in
    let conditional = then cond_moves inner in
    let otherwise = behind (the_word keyword.CondElse) inner in
    called _ _ (or (made _ (path_moves limited divider)) (or (made _ conditional) (or (made _ otherwise) (net_body_moves limited divider))))

pub entry_moves : (limited : Bool) (divider : Divider) → Moves (entry limited divider)
unfolding entry_parts
entry_moves limited divider = called _ _ (made _ (with_place (behind (the_mark is_left) (before (body_moves limited divider) (the_mark is_right)))))

-- ---- groups

pub pulse_moves : (divider : Divider) → Moves (pulse divider)
unfolding pulse_parts
pulse_moves divider =
    let port = port_moves divider in
    called _ _ (then (the_token _ is_pulse) (then (perhaps (then port port)) (then value_moves (perhaps value_moves))))

pub group_body_moves : (limited : Bool) (divider : Divider) → Moves (group_body limited divider)
unfolding group_body_parts
group_body_moves limited divider =
    let entries = repeated (entry_moves limited divider) in
    let first = behind (the_word keyword.Absolute) entries in
    let second = behind (the_word keyword.Increment) entries in
    called _ _ (or (made _ first) (or (made _ second) (made _ (pulse_moves divider))))

pub group_moves : (limited : Bool) (divider : Divider) → Moves (group limited divider)
unfolding group_parts
group_moves limited divider = called _ _ (made _ (with_place (behind (the_mark is_left) (before (group_body_moves limited divider) (the_mark is_right)))))
