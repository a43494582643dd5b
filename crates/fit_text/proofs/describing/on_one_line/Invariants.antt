-- Each round takes some bytes.
use Rattle.std.specs.Prelude.{length}
use Rattle.fit_text.proofs.describing.on_one_line.Given as goal

abbrev pub decreases-loop-rest : goal.decreases-loop-rest
decreases-loop-rest l = length l.rest
