-- What is kept of the sets behind those that are left.
use Rattle.std.proofs.Common.{length}
use Rattle.stim_read.proofs.LastLaws.{IsBehind}
use Rattle.stim_read.proofs.bits.last_of_each.Given as goal

abbrev pub invariant-loop-front : goal.invariant-loop-front
invariant-loop-front l = IsBehind l.bits l.left l.kept.items l.seen.keys

abbrev pub decreases-loop-front : goal.decreases-loop-front
decreases-loop-front l = length l.left
