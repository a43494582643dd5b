use Rattle.std.proofs.Common.{◌≡◌, drop, length, map}
use Rattle.sim_rounds.specs.MomentsSeen.{pending_seen}
use Rattle.sim_rounds.specs.Restored.{with_values}
use Rattle.sim_rounds.proofs.restoring.put_values.Given as goal

-- the transitions that are left make of the values what all make
abbrev pub invariant-loop-transition : goal.invariant-loop-transition
invariant-loop-transition l =
    (with_values (map (λ p. pending_seen p) (drop l.transition-index l.pending)) l.values ≡ with_values (map (λ p. pending_seen p) l.pending) l.fn.values) × (length l.values ≡ length l.fn.values)
