-- Each round takes a piece.
use Rattle.std.specs.Prelude.{length}
use Rattle.fit_conditions.proofs.pieces.has_directive.Given as goal

abbrev pub decreases-loop-rest : goal.decreases-loop-rest
decreases-loop-rest l = length l.rest
