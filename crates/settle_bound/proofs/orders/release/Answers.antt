use Rattle.std.proofs.Common.{◌<◌, length, slice_index_or, subst, sym}
use Rattle.settle_bound.specs.Links.{link_at}
use Rattle.settle_bound.proofs.ReleaseLaws.{released-more, enough-left}
use Rattle.settle_bound.proofs.orders.release.Goals as goal

inside : (c : goal.In_ok-release_one) → (link_at c.args.links.now (slice_index_or c.args.hops.now c.loop-hop.hop-index 0)).driven < length c.args.order.now.bounds.items
inside c =
    let i = c.loop-hop.hop-index in
    c.requires.nets (slice_index_or c.args.hops.now i 0) (record { driven = 0; weight = 0 }) (c.requires.hops i 0 c.loop-hop-test.true)

pub loop-hop-preserved : goal.loop-hop-preserved
loop-hop-preserved c =
    let i = c.loop-hop.hop-index in
    let l = c.loop-hop-test.true in
    let in_bounds = inside c in
    let in_waits = subst (λ n. (link_at c.args.links.now (slice_index_or c.args.hops.now i 0)).driven < n) (sym c.requires.waits) in_bounds in
    released-more c.args.links.now c.args.hops.now c.args.before c.args.order.now c.loop-hop.order c.release_one.new.order i 0 l c.loop-hop.invariant c.requires.waits in_bounds
    (enough-left c.args.links.now c.args.hops.now c.args.before c.args.order.now c.loop-hop.order i 0 l c.loop-hop.invariant c.requires.enough in_waits)
    c.in_ok-release_one.ensures
