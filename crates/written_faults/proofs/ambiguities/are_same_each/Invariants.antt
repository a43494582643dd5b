-- The transitions so far have the same delays and limits.
use Rattle.std.proofs.Common.{ℕ, ◌<◌}
use Rattle.sg_delay.specs.declared.limits.Limit.{Limit}
use Rattle.written_faults.proofs.SameLaws.{AreSameAt}
use Rattle.written_faults.proofs.ambiguities.are_same_each.Given as goal

abbrev pub invariant-loop-transition : goal.invariant-loop-transition
invariant-loop-transition l = (i : ℕ) (d f : Limit) → i < l.transition → AreSameAt l.delays l.limits l.other_delays l.other_limits i d f
