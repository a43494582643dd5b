-- The timings of the paths so far stand in the table.
use Rattle.std.proofs.Common.{take}
use Rattle.elab_paths.specs.Shelving.{ListGrows, IsShelvedPath}
use Rattle.elab_paths.proofs.SideBySide.{Each}
use Rattle.elab_paths.proofs.shelving.shelve_output.Given as goal

abbrev pub invariant-loop-path : goal.invariant-loop-path
invariant-loop-path l =
    ListGrows l.initial.timings.items l.timings.items × Each (IsShelvedPath l.timings.items l.statements) (take l.path-index l.path-items) l.paths.items
