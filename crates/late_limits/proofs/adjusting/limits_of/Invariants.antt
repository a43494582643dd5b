use Rattle.std.proofs.Common.{◌≡◌, ◌++◌, drop, map}
use Rattle.sg_circuit.specs.declared.checks.CheckTiming.{CheckTiming}
use Rattle.late_limits.proofs.adjusting.limits_of.Given as goal

-- the rest completes it
abbrev pub invariant-loop-timing : goal.invariant-loop-timing
invariant-loop-timing l = l.limits.items ++ map (λ (t : CheckTiming). t.limits) (drop l.timing-index l.timings) ≡ map (λ (t : CheckTiming). t.limits) l.timings
