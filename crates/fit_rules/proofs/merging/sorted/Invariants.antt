-- Each round takes one.
use Rattle.std.specs.Prelude.{length}
use Rattle.fit_rules.proofs.merging.sorted.Given as goal

abbrev pub decreases-loop-edit : goal.decreases-loop-edit
decreases-loop-edit l = length l.edits.items
