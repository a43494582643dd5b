use Rattle.std.proofs.Common.{◌≡◌, map, take}
use Rattle.time_checks.specs.AdjustedSeen.{all_seen}
use Rattle.time_checks.specs.Watching.{watch_by}
use Rattle.time_checks.proofs.watches.watches_of.Given as goal

abbrev pub invariant-loop-check : goal.invariant-loop-check
invariant-loop-check l = l.watches.items ≡ map (λ c. watch_by c) (all_seen (take l.check-index l.checks))
