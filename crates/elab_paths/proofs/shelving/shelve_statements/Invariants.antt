-- What the specify paths so far say stands in the table.
use Rattle.std.specs.Prelude.{All}
use Rattle.specify_paths.specs.Spelled.{IsSpelled}
use Rattle.elab_paths.specs.Shelving.{ListGrows, AreRead}
use Rattle.elab_paths.proofs.OnShelves.{IsShelved}
use Rattle.elab_paths.proofs.SideBySide.{Each}
use Rattle.elab_paths.proofs.shelving.shelve_statements.Given as goal

abbrev pub invariant-loop-statement : goal.invariant-loop-statement
invariant-loop-statement l =
    ListGrows l.initial.conditions.items l.conditions.items × Each (IsShelved l.conditions.items) l.yielded l.shelved.items
    × (All (λ s. IsSpelled s.condition) l.yielded → AreRead l.initial.conditions.items → AreRead l.conditions.items)
