use Rattle.std.proofs.Common.{ap, ◌∙◌}
use Rattle.settle_bound.proofs.StartLaws.{ready-yes, ready-not}
use Rattle.settle_bound.proofs.orders.first_ready.Goals as goal
use Rattle.settle_bound.proofs.orders.first_ready.Goals.{then-wait-eq0+in_ok-push, else-wait-eq0}

pub loop-net-preserved : goal.loop-net-preserved
loop-net-preserved c = elim c.if-wait-eq0.branch [
  | then-wait-eq0+in_ok-push w ↦ ready-yes c.args.waits.now c.loop-net.ready.items c.if-wait-eq0.ready.items c.loop-net.net c.loop-net.invariant w.if-wait-eq0.true (ap (λ v. v.items) w.ready-is ∙ w.in_ok-push.ensures.items)
  | else-wait-eq0 w ↦ ready-not c.args.waits.now c.loop-net.ready.items c.if-wait-eq0.ready.items c.loop-net.net c.loop-net.invariant w.if-wait-eq0.false (ap (λ v. v.items) w.ready-is)
]
