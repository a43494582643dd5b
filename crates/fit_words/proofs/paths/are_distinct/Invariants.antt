use Rattle.std.proofs.Common.{◌≡◌, length, map}
use Rattle.fit_words.specs.Paths.{are_distinct}
use Rattle.fit_words.proofs.paths.are_distinct.Given as goal

abbrev pub invariant-loop-left : goal.invariant-loop-left
invariant-loop-left l = are_distinct (map (λ t. t.now) l.left) ≡ are_distinct (map (λ t. t.now) l.texts)

abbrev pub decreases-loop-left : goal.decreases-loop-left
decreases-loop-left l = length l.left
