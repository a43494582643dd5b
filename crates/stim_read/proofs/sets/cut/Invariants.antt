-- What is behind has no `=`.
use Rattle.std.proofs.Common.{◌≡◌, ◌++◌, length, drop, None}
use Rattle.stim_read.specs.Sets.{cut}
use Rattle.stim_read.proofs.sets.cut.Given as goal

abbrev pub invariant-loop-front : goal.invariant-loop-front
invariant-loop-front l = record {
  whole : l.word ≡ l.left ++ drop (length l.left) l.word;
  none : cut (drop (length l.left) l.word) ≡ None;
}

abbrev pub decreases-loop-front : goal.decreases-loop-front
decreases-loop-front l = length l.left
