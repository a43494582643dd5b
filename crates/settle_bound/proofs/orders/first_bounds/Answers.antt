use Rattle.std.proofs.Common.{length, ap, ◌∙◌}
use Rattle.std.proofs.lemmas.List.{length-replicate}
use Rattle.settle_bound.proofs.StartLaws.{alone-none, bounds-step}
use Rattle.settle_bound.proofs.orders.first_bounds.Goals as goal

pub loop-link-init : goal.loop-link-init
loop-link-init c =
    let e = c.in_ok-bounds.ensures.items_if_clones_equal (λ y e. e) in
    record {
      alone = alone-none c.args.ways.now.links.items c.args.ways.now.pins.items c.args.ways.now.nets c.in_ok-bounds.bounds.items e;
      each = ap length e ∙ length-replicate c.args.ways.now.nets 0;
    }

pub loop-link-preserved : goal.loop-link-preserved
loop-link-preserved c =
    let s = bounds-step c.args.ways.now c.deref-link-items.result.now c.loop-link.link-index (record { driven = 0; weight = 0 }) c.loop-link.bounds.items c.index.result.now c.from.result c.max.result c.requires c.deref-link-items.ensures.value
    c.loop-link.invariant.alone c.loop-link.invariant.each c.loop-link-test.true c.index.ensures c.from.ensures c.max.ensures in
    record { alone = s.alone; each = s.each }
