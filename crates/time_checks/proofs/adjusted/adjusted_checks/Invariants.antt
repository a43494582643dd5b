use Rattle.std.proofs.Common.{◌≡◌, map, take}
use Rattle.std.specs.List.{enumerate_from}
use Rattle.time_checks.specs.Adjusted.{adjusted_check}
use Rattle.time_checks.specs.AdjustedSeen.{all_seen}
use Rattle.time_checks.proofs.adjusted.adjusted_checks.Given as goal

abbrev pub invariant-loop-check : goal.invariant-loop-check
invariant-loop-check l = all_seen l.checks.items ≡ map (adjusted_check l.circuit) (take l.check (enumerate_from 0 l.circuit.check_timings))
