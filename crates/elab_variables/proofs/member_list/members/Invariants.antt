-- What is there, followed by what is left, is the whole.
use Rattle.std.proofs.Common.{◌≡◌, ◌++◌, map, flat_map, drop}
use Rattle.vl_tree.specs.Seen.{view_item}
use Rattle.elab_model.specs.Members.{members_of_item}
use Rattle.elab_variables.specs.Seen.{view_member}
use Rattle.elab_variables.proofs.member_list.members.Given as goal

abbrev pub invariant-loop-item : goal.invariant-loop-item
invariant-loop-item l =
    map view_member l.list.items ++ flat_map members_of_item (map view_item (drop l.item-index l.definition.items.items))
    ≡ flat_map members_of_item (map view_item l.definition.items.items)
