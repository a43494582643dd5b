-- Each turn takes a change away.
use Rattle.std.specs.Prelude.{length}
use Rattle.fit_rules.proofs.exact.exact_of.Given as goal

abbrev pub decreases-loop-edit : goal.decreases-loop-edit
decreases-loop-edit l = length l.edits.items
