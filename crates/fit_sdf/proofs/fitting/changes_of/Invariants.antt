-- The text stays.
use Rattle.std.specs.Prelude.{◌≡◌}
use Rattle.fit_sdf.proofs.fitting.changes_of.Given as goal

abbrev pub invariant-loop-edit : goal.invariant-loop-edit
invariant-loop-edit l = l.changes.text ≡ l.text
