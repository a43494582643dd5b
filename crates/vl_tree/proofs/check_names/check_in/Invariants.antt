use Rattle.std.proofs.Common.{◌≡◌, length, map}
use Rattle.vl_tree.specs.CheckNames.{check_in}
use Rattle.vl_tree.specs.CheckNamesSeen.{row}
use Rattle.vl_tree.proofs.check_names.check_in.Given as goal

abbrev pub invariant-loop-rest : goal.invariant-loop-rest
invariant-loop-rest l = check_in l.bytes (map row l.rest) ≡ check_in l.bytes (map row l.rows)

abbrev pub decreases-loop-rest : goal.decreases-loop-rest
decreases-loop-rest l = length l.rest
