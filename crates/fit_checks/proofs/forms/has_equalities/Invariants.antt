-- What is left says what all does.
use Rattle.std.specs.Prelude.{◌≡◌, length}
use Rattle.fit_checks.specs.Written.{has_equalities}
use Rattle.fit_checks.specs.WrittenSeen.{tokens_seen}
use Rattle.fit_checks.proofs.forms.has_equalities.Given as goal

abbrev pub invariant-loop-left : goal.invariant-loop-left
invariant-loop-left l = has_equalities (tokens_seen l.left) ≡ has_equalities (tokens_seen l.run)

abbrev pub decreases-loop-left : goal.decreases-loop-left
decreases-loop-left l = length l.left
