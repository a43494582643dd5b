-- What is left says what all does.
use Rattle.std.specs.Prelude.{◌≡◌, length}
use Rattle.std.specs.List.{list_any}
use Rattle.fit_checks.specs.Written.{is_operator}
use Rattle.fit_checks.specs.WrittenSeen.{tokens_seen}
use Rattle.fit_checks.proofs.forms.has_operator.Given as goal

abbrev pub invariant-loop-left : goal.invariant-loop-left
invariant-loop-left l = list_any is_operator (tokens_seen l.left) ≡ list_any is_operator (tokens_seen l.run)

abbrev pub decreases-loop-left : goal.decreases-loop-left
decreases-loop-left l = length l.left
