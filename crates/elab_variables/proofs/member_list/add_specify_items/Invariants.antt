-- What is there, followed by the paths and the checks of what is left, is the whole.
use Rattle.std.proofs.Common.{◌≡◌, ◌++◌, map, filter_map, drop}
use Rattle.vl_tree.specs.Seen.{view_specify_item}
use Rattle.elab_model.specs.Members.{member_of_item}
use Rattle.elab_variables.specs.Seen.{view_member}
use Rattle.elab_variables.proofs.member_list.add_specify_items.Given as goal

abbrev pub invariant-loop-item : goal.invariant-loop-item
invariant-loop-item l =
    map view_member l.list.items ++ filter_map member_of_item (map view_specify_item (drop l.item-index l.items)) ≡ map view_member l.initial.list.items ++ filter_map member_of_item (map view_specify_item l.items)
