use Rattle.std.proofs.Common.{◌≡◌, ◌++◌, drop, map}
use Rattle.late_limits.specs.Found.{delay_of}
use Rattle.late_limits.proofs.scopes.add_delays.Given as goal

-- the rest completes them
abbrev pub invariant-loop-late : goal.invariant-loop-late
invariant-loop-late l = l.found.items ++ map (delay_of l.elements l.signals l.delays) (drop l.late-index l.lates) ≡ l.fn.found.items ++ map (delay_of l.elements l.signals l.delays) l.lates
