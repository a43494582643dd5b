use Rattle.std.proofs.Common.{◌∙◌}
use Rattle.std.proofs.lemmas.List.{take_rest}
use Rattle.settle_bound.proofs.RingLaws.{wait-on-at, walk-within, ring-at}
use Rattle.settle_bound.proofs.rings.find_ring.Goals as goal

pub walk_back-requires-clause-back : goal.walk_back-requires-clause-back
walk_back-requires-clause-back c =
    wait-on-at c.args.ways.now c.args.order.now c.in_ok-back.back.items c.deref.result.now c.deref-2.result.now c.deref-3.result.now c.requires.ways c.requires.order c.deref.ensures.value c.in_ok-back.ensures c.deref-2.ensures.value c.deref-3.ensures.value

pub first_driving-first-requires-clause-within : goal.first_driving-first-requires-clause-within
first_driving-first-requires-clause-within c = walk-within c.args.ways.now c.args.start c.in_ok-walk.walk c.deref-4.result.now c.deref-5.result.now c.requires.ways c.in_ok-walk.ensures c.deref-4.ensures.value c.deref-5.ensures.value

pub returns : goal.returns
returns c =
    ring-at c.args.ways.now c.args.start c.in_ok-walk.walk c.first_driving-first.result c.in_ok-from_slice.field-0.items c.deref-5.result.now c.deref-6.result.now c.deref-4.result.now c.in_ok-walk.ensures c.deref-5.ensures.value c.deref-4.ensures.value
    c.first_driving-first.ensures.within c.first_driving-first.ensures.drives c.deref-6.ensures.value (c.in_ok-from_slice.ensures.items ∙ take_rest c.deref-6.result.now c.first_driving-first.result)
