-- One more is there.
use Rattle.vl_tree.specs.Seen.{view_specify_item}
use Rattle.specify_values.proofs.Gathered.{none-added, next-one, all-ones}
use Rattle.specify_values.proofs.gathering.add_all.Goals as goal

pub loop-item-init : goal.loop-item-init
loop-item-init c = none-added c.args.items.now

pub loop-item-preserved : goal.loop-item-preserved
loop-item-preserved c =
    next-one view_specify_item c.args.list.now c.loop-item.item-index c.item-item.result c.args.items.now c.loop-item.items c.add_one.new.items c.loop-item-test.true c.item-item.is
    c.loop-item.invariant c.in_ok-add_one.ensures

pub returns : goal.returns
returns c = all-ones view_specify_item c.args.list.now c.loop-item.item-index c.args.items.now c.loop-item.items c.loop-item-test.false c.loop-item.invariant
