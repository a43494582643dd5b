-- The text stays.
use Rattle.std.specs.Prelude.{◌≡◌, length}
use Rattle.fit_text.proofs.expanding.with_changes.Given as goal

abbrev pub invariant-loop-change : goal.invariant-loop-change
invariant-loop-change l = l.made.text ≡ l.fn.text

abbrev pub decreases-loop-change : goal.decreases-loop-change
decreases-loop-change l = length l.changes.items
