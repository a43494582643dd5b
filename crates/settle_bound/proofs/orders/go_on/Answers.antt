use Rattle.std.proofs.Common.{◌<◌, length, arith}
use Rattle.settle_bound.proofs.OrderLaws.{next-hops, next-enough, next-done, passed-all}
use Rattle.settle_bound.proofs.orders.go_on.Goals as goal

pub release-requires-clause-hops : goal.release-requires-clause-hops
release-requires-clause-hops c =
    let l : c.loop-place.place < length c.loop-place.order.ready.items = omega (arith, c.len.ensures, c.if-place-len.false) in
    next-hops c.args.ways.now c.loop-place.order c.loop-place.place c.index-net.result.now c.of.result.now c.deref.result.now c.requires.ways c.loop-place.invariant.so_far l c.index-net.ensures c.of.ensures c.deref.ensures.value

pub release-requires-clause-enough : goal.release-requires-clause-enough
release-requires-clause-enough c =
    let l : c.loop-place.place < length c.loop-place.order.ready.items = omega (arith, c.len.ensures, c.if-place-len.false) in
    next-enough c.args.ways.now c.loop-place.order c.loop-place.place c.index-net.result.now c.of.result.now c.deref.result.now c.requires.ways c.loop-place.invariant.so_far l c.index-net.ensures c.of.ensures c.deref.ensures.value

pub loop-place-preserved : goal.loop-place-preserved
loop-place-preserved c =
    let l : c.loop-place.place < length c.loop-place.order.ready.items = omega (arith, c.len.ensures, c.if-place-len.false) in
    let s = next-done c.args.ways.now c.loop-place.order c.release.new.order c.loop-place.place c.index-net.result.now c.index-before.result.now c.of.result.now c.deref.result.now c.requires.ways c.loop-place.invariant.so_far l
    c.index-net.ensures c.index-before.ensures c.of.ensures c.deref.ensures.value c.in_ok-release.ensures in
    record { so_far = s.so_far; there = s.there }

pub returns : goal.returns
returns c = passed-all c.args.ways.now c.loop-place.order c.loop-place.place c.loop-place.invariant.so_far c.loop-place-test.false
