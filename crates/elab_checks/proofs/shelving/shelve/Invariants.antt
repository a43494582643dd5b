-- The conditions of the checks so far stand in the table.
use Rattle.std.specs.Prelude.{All}
use Rattle.specify_checks.specs.Seen.{IsSpelledCheck}
use Rattle.elab_paths.specs.Shelving.{ListGrows, AreRead}
use Rattle.elab_paths.proofs.SideBySide.{Each}
use Rattle.elab_checks.specs.Shelving.{IsShelvedCheck}
use Rattle.elab_checks.proofs.shelving.shelve.Given as goal

abbrev pub invariant-loop-check : goal.invariant-loop-check
invariant-loop-check l =
    ListGrows l.initial.conditions.items l.conditions.items × Each (IsShelvedCheck l.conditions.items) l.yielded l.list.items
    × (All IsSpelledCheck l.yielded → AreRead l.initial.conditions.items → AreRead l.conditions.items)
