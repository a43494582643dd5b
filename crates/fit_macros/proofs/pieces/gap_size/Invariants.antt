-- Each round takes some bytes.
use Rattle.std.specs.Prelude.{length}
use Rattle.fit_macros.proofs.pieces.gap_size.Given as goal

abbrev pub decreases-loop-rest : goal.decreases-loop-rest
decreases-loop-rest l = length l.rest
