-- What stands above the place is to follow.
use Rattle.event_wheel.proofs.LeastLaws.{IsSetUpto}
use Rattle.event_wheel.proofs.least.set_time.Given as goal

abbrev pub invariant-loop-place : goal.invariant-loop-place
invariant-loop-place l = IsSetUpto l.fn.tree l.tree l.buckets l.bucket l.fn.time l.place

abbrev pub decreases-loop-place : goal.decreases-loop-place
decreases-loop-place l = l.place
