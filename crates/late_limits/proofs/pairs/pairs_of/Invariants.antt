use Rattle.std.proofs.Common.{◌≡◌, ◌++◌, drop, map}
use Rattle.late_limits.specs.Found.{windows_at}
use Rattle.late_limits.specs.Pairs.{pair_of}
use Rattle.late_limits.proofs.pairs.pairs_of.Given as goal

-- the rest completes it
abbrev pub invariant-loop-check : goal.invariant-loop-check
invariant-loop-check l =
    l.pairs.items ++ map (λ w. pair_of l.signals w.1) (windows_at l.timings l.limits (drop l.check-index l.checks)) ≡ map (λ w. pair_of l.signals w.1) (windows_at l.timings l.limits l.checks)
