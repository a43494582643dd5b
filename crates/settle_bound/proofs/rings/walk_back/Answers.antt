use Rattle.std.proofs.Common.{◌<◌, false, refl, sym, ◌∙◌, subst}
use Rattle.std.proofs.lemmas.List.{get_or_read}
use Rattle.settle_bound.specs.Orders.{at}
use Rattle.settle_bound.proofs.RingLaws.{walks-start, walks-more}
use Rattle.settle_bound.proofs.rings.walk_back.Goals as goal

pub loop-seen-init : goal.loop-seen-init
loop-seen-init c = walks-start c.args.ways.now c.args.waits.now c.args.start c.new-hops.result.items c.in_ok-seen.seen.items c.requires.start c.requires.waiting (c.in_ok-seen.ensures.items_if_clones_equal (λ y e. e)) c.new-hops.ensures.items

pub loop-seen-preserved : goal.loop-seen-preserved
loop-seen-preserved c =
    walks-more c.args.ways.now c.args.waits.now c.args.back.now c.args.start c.loop-seen.net (at c.args.back.now c.loop-seen.net) c.loop-seen.hops.items c.push.new.self.items c.loop-seen.seen.items c.index-pin.result.now c.requires.ways c.requires.back c.loop-seen.invariant
    (sym (get_or_read c.loop-seen.seen.items c.loop-seen.net c.index.result.now (subst (λ n. c.loop-seen.net < n) (sym c.loop-seen.invariant.seen_of_each) c.loop-seen.invariant.known) c.index.ensures false) ∙ c.loop-seen-test.true) refl c.index-pin.ensures c.in_ok-push.ensures.items
