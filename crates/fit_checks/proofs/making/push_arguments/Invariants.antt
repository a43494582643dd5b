-- The arguments so far.
use Rattle.std.specs.Prelude.{◌≡◌, ◌++◌, take}
use Rattle.fit_checks.specs.Written.{arguments}
use Rattle.fit_checks.specs.WrittenSeen.{kinds_seen, runs_seen}
use Rattle.fit_checks.proofs.making.push_arguments.Given as goal

abbrev pub invariant-loop-run : goal.invariant-loop-run
invariant-loop-run l = kinds_seen l.out.items ≡ kinds_seen l.fn.out.items ++ arguments (runs_seen (take l.run-index l.runs))
