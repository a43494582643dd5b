-- The items so far are in.
use Rattle.std.proofs.Common.{take, map, flat_map}
use Rattle.std.specs.List.{list_any}
use Rattle.vl_tree.specs.Seen.{view_item}
use Rattle.elab_model.specs.Members.{members_of_item}
use Rattle.elab_model.specs.Tops.{is_instance_of}
use Rattle.elab_hierarchy.proofs.Used.{AddsUsed}
use Rattle.elab_hierarchy.proofs.tops.add_items.Given as goal

abbrev pub invariant-loop-item : goal.invariant-loop-item
invariant-loop-item l = AddsUsed l.initial.used.keys l.used.keys (λ n. list_any (is_instance_of n) (flat_map members_of_item (map view_item (take l.item-index l.items))))
