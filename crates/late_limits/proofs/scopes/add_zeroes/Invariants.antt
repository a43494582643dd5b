use Rattle.std.proofs.Common.{◌≡◌, ◌++◌, drop, map}
use Rattle.late_limits.specs.Adjusted.{zero_of}
use Rattle.late_limits.specs.Found.{windows_at}
use Rattle.late_limits.proofs.scopes.add_zeroes.Given as goal

-- the rest completes them
abbrev pub invariant-loop-limit : goal.invariant-loop-limit
invariant-loop-limit l =
    l.found.items ++ map (zero_of (windows_at l.timings l.limits l.checks)) (drop l.limit-index l.zeroed) ≡ l.fn.found.items ++ map (zero_of (windows_at l.timings l.limits l.checks)) l.zeroed
