-- One more item's are there.
use Rattle.vl_tree.specs.Seen.{view_item}
use Rattle.specify_model.specs.Blocks.{items_of_item}
use Rattle.specify_values.proofs.Gathered.{next-block_of, all-blocks}
use Rattle.specify_values.proofs.gathering.block_items.Goals as goal

pub loop-item-preserved : goal.loop-item-preserved
loop-item-preserved c =
    next-block_of (λ x. items_of_item (view_item x)) c.deref-item-items.result.now c.args.definition.now.items.items c.loop-item.item-index c.item-item.result c.loop-item.items c.add_item.new.items
    c.deref-item-items.ensures.value c.loop-item-test.true c.item-item.is c.loop-item.invariant c.in_ok-add_item.ensures

pub returns : goal.returns
returns c =
    all-blocks c.deref-item-items.result.now c.args.definition.now.items.items c.loop-item.item-index c.loop-item.items c.deref-item-items.ensures.value c.loop-item-test.false c.loop-item.invariant
