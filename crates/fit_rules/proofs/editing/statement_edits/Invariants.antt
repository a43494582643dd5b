-- Each round takes one.
use Rattle.std.specs.Prelude.{length}
use Rattle.fit_rules.proofs.editing.statement_edits.Given as goal

abbrev pub decreases-loop-ask : goal.decreases-loop-ask
decreases-loop-ask l = length l.asks.items
