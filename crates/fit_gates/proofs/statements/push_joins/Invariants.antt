-- The text so far and that of the rest.
use Rattle.std.specs.Prelude.{◌≡◌, ◌++◌, length}
use Rattle.fit_gates.specs.Text as spelled
use Rattle.fit_gates.proofs.statements.push_joins.Given as goal

abbrev pub invariant-loop-rest : goal.invariant-loop-rest
invariant-loop-rest l = l.text.items ++ spelled.joins_text l.naming l.delay l.rest ≡ l.fn.text.items ++ spelled.joins_text l.naming l.delay l.joins

abbrev pub decreases-loop-rest : goal.decreases-loop-rest
decreases-loop-rest l = length l.rest
