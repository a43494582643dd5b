-- What is left is the same only where all is.
use Rattle.std.specs.Prelude.{◌≡◌, length}
use Rattle.fit_checks.specs.WrittenSeen.{kinds_seen, tokens_seen}
use Rattle.fit_checks.proofs.tokens.are_same.Given as goal

abbrev pub invariant-loop-left : goal.invariant-loop-left
invariant-loop-left l = kinds_seen l.left ≡ tokens_seen l.others → kinds_seen l.made ≡ tokens_seen l.tokens

abbrev pub decreases-loop-left : goal.decreases-loop-left
decreases-loop-left l = length l.left
