-- Those so far are there.
use Rattle.std.proofs.Common.{take}
use Rattle.std.specs.Prelude.{flat_map}
use Rattle.vl_tree.specs.Seen.{view_item}
use Rattle.specify_model.specs.Blocks.{items_of_item}
use Rattle.specify_values.specs.Seen.{AreItems}
use Rattle.specify_values.proofs.gathering.block_items.Given as goal

abbrev pub invariant-loop-item : goal.invariant-loop-item
invariant-loop-item l = AreItems (flat_map (λ x. items_of_item (view_item x)) (take l.item-index l.definition.items.items)) l.items
