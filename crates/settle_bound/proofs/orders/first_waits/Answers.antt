use Rattle.std.proofs.Common.{arith}
use Rattle.settle_bound.proofs.StartLaws.{waits-step}
use Rattle.settle_bound.proofs.orders.first_waits.Goals as goal

pub overflow_add-index_mut : goal.overflow_add-index_mut
overflow_add-index_mut c =
    let s = waits-step c.args.ways.now c.deref-pin-items.result.now c.loop-pin.pin-index (record { net = 0; element = 0 }) c.loop-pin.waits.items c.index.result.now c.index_mut.result.now c.requires c.deref-pin-items.ensures.value
    c.loop-pin.invariant.counted c.loop-pin.invariant.each c.loop-pin-test.true c.index.ensures c.index_mut.ensures.value in
    let f = s.fits in
    omega arith

pub loop-pin-preserved : goal.loop-pin-preserved
loop-pin-preserved c =
    let s = waits-step c.args.ways.now c.deref-pin-items.result.now c.loop-pin.pin-index (record { net = 0; element = 0 }) c.loop-pin.waits.items c.index.result.now c.index_mut.result.now c.requires c.deref-pin-items.ensures.value
    c.loop-pin.invariant.counted c.loop-pin.invariant.each c.loop-pin-test.true c.index.ensures c.index_mut.ensures.value in
    record { counted = s.counted; each = s.each }
