-- The items so far are in.
use Rattle.std.proofs.Common.{◌≡◌, ℕ, List, ◌||◌, take, map, flat_map, bytes_eq}
use Rattle.std.specs.List.{list_any}
use Rattle.vl_tree.specs.Seen.{view_item}
use Rattle.fit_parts.specs.Below.{is_seen}
use Rattle.fit_parts.specs.Trees.{used_by_item}
use Rattle.fit_parts.proofs.names.add_items.Given as goal

abbrev pub invariant-loop-item : goal.invariant-loop-item
invariant-loop-item l = (n : List ℕ) → is_seen n l.used.keys ≡ (is_seen n l.initial.used.keys || list_any (bytes_eq n) (flat_map used_by_item (map view_item (take l.item-index l.items))))
