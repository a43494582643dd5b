-- No token that was looked at is too deep.
use Rattle.std.proofs.Common.{◌-◌, length, map}
use Rattle.sdf_lex.specs.Seen.{lexeme}
use Rattle.sdf_read.proofs.Depths.{Looked}
use Rattle.sdf_read.proofs.depth.first_too_deep.Given as goal

abbrev pub invariant-more : goal.invariant-more
invariant-more l = Looked (map lexeme l.tokens) l.at l.depth

abbrev pub decreases-more : goal.decreases-more
decreases-more l = length (map lexeme l.tokens) - l.at
