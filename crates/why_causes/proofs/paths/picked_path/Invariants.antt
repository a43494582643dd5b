-- The latest through the paths so far.
use Rattle.std.proofs.Common.{◌≡◌, List}
use Rattle.cond_expr.specs.Condition.{Condition}
use Rattle.sg_circuit.specs.PathsSeen.{paths_seen}
use Rattle.why_causes.specs.Causes.{through_path}
use Rattle.why_causes.proofs.LatestLaws.{latest_to}
use Rattle.why_causes.proofs.paths.picked_path.Given as goal

abbrev pub invariant-loop-place : goal.invariant-loop-place
invariant-loop-place l = (conditions : List Condition) → l.best ≡ latest_to (through_path l.trace l.change) (paths_seen conditions l.timings l.paths) l.place
