use Rattle.std.proofs.Common.{◌≡◌, length, map}
use Rattle.sg_text.specs.Words.{use_in}
use Rattle.sg_text.specs.WordsSeen.{row}
use Rattle.sg_text.proofs.words.use_in.Given as goal

abbrev pub invariant-loop-rest : goal.invariant-loop-rest
invariant-loop-rest l = use_in l.bytes (map row l.rest) ≡ use_in l.bytes (map row l.rows)

abbrev pub decreases-loop-rest : goal.decreases-loop-rest
decreases-loop-rest l = length l.rest
