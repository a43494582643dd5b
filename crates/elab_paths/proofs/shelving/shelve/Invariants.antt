-- The timings of the outputs so far stand in the table.
use Rattle.std.proofs.Common.{◌≡◌, take}
use Rattle.elab_paths.specs.Shelving.{ListGrows, IsShelvedOutput}
use Rattle.elab_paths.proofs.SideBySide.{Each}
use Rattle.elab_paths.proofs.shelving.shelve.Given as goal

abbrev pub invariant-loop-output : goal.invariant-loop-output
invariant-loop-output l =
    ListGrows l.initial.shelves.timings.items l.shelves.timings.items × Each (IsShelvedOutput l.shelves.timings.items l.statements.items) (take l.output-index l.output-items) l.outputs.items
    × (l.shelves.conditions ≡ l.initial.shelves.conditions)
