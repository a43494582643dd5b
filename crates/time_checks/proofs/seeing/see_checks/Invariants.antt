use Rattle.std.proofs.Common.{◌≡◌, ◌++◌, map, take}
use Rattle.std.specs.List.{flat_map}
use Rattle.fan_round.specs.Lists.{at_places}
use Rattle.time_checks.specs.Checking.{found_in, next_at, no_times}
use Rattle.time_checks.specs.AdjustedSeen.{all_seen}
use Rattle.time_checks.specs.Seen.{violation_seen, Continues}
use Rattle.time_checks.proofs.seeing.see_checks.Given as goal

abbrev pub invariant-loop-number : goal.invariant-loop-number
invariant-loop-number l = record {
  latest : l.latest ≡ at_places (next_at (all_seen l.checks) l.last l.values l.time) no_times (take l.number-index l.work) l.fn.latest;
  found : map (λ v. violation_seen v) l.violations.items ≡ map (λ v. violation_seen v) l.fn.violations.items ++ flat_map (found_in (all_seen l.checks) l.last l.values l.time l.fn.latest) (take l.number-index l.work);
  kept : Continues l.fn.violations.items l.violations.items;
}
