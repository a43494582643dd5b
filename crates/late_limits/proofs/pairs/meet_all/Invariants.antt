use Rattle.std.proofs.Common.{◌≡◌, drop}
use Rattle.std.specs.List.{flat_map}
use Rattle.sg_circuit.specs.Pins.{firsts_after}
use Rattle.sg_circuit.specs.Signals.{signal_nets}
use Rattle.late_limits.specs.Found.{signals_at, timing_at}
use Rattle.late_limits.proofs.pairs.meet_all.Given as goal

-- the rest completes them
abbrev pub invariant-loop-check : goal.invariant-loop-check
invariant-loop-check l = firsts_after l.signals (flat_map (λ k. signal_nets (timing_at l.timings k)) (drop l.check-index l.checks)) ≡ signals_at l.timings l.checks
