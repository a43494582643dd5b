-- The names of one item more.
use Rattle.std.proofs.Common.{rules, ◌<◌, length, arith, add-one}
use Rattle.elab_names.proofs.InstanceNames.{item-next, names_from}
use Rattle.elab_names.proofs.instances.instance_names.Goals as goal

pub loop-item-preserved : goal.loop-item-preserved
loop-item-preserved c =
    let lt : c.loop-item.item-index < length c.deref-item-items.result.now = omega arith in
    rw add-one (item-next c.loop-item.names.items c.add_item.new.names.items c.deref-item-items.result.now c.loop-item.item-index c.item-item.result (names_from c.deref-item-items.result.now)
    lt (search rules) c.in_ok-add_item.ensures c.loop-item.invariant)
