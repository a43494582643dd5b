-- What is left says what all does.
use Rattle.std.specs.Prelude.{◌≡◌, length}
use Rattle.std.specs.List.{list_all}
use Rattle.fit_checks.specs.Forms.{is_empty}
use Rattle.fit_checks.specs.WrittenSeen.{runs_seen}
use Rattle.fit_checks.proofs.forms.are_empty.Given as goal

abbrev pub invariant-loop-left : goal.invariant-loop-left
invariant-loop-left l = list_all is_empty (runs_seen l.left) ≡ list_all is_empty (runs_seen l.runs)

abbrev pub decreases-loop-left : goal.decreases-loop-left
decreases-loop-left l = length l.left
