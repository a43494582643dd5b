-- Those so far are there.
use Rattle.std.proofs.Common.{map, take}
use Rattle.vl_tree.specs.Seen.{view_specify_item}
use Rattle.specify_values.specs.Seen.{Adds}
use Rattle.specify_values.proofs.gathering.add_all.Given as goal

abbrev pub invariant-loop-item : goal.invariant-loop-item
invariant-loop-item l = Adds (map view_specify_item (take l.item-index l.list)) l.initial.items l.items
