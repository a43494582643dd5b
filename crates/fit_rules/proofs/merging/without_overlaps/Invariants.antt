-- Each round takes one.
use Rattle.std.specs.Prelude.{length}
use Rattle.fit_rules.proofs.merging.without_overlaps.Given as goal

abbrev pub decreases-loop-next : goal.decreases-loop-next
decreases-loop-next l = length l.sorted.items
