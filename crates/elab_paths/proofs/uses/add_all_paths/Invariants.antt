-- The paths so far have been added.
use Rattle.std.proofs.Common.{◌≤◌, ◌^◌, length, take}
use Rattle.elab_paths.specs.Uses.{AddsPaths}
use Rattle.elab_paths.proofs.uses.add_all_paths.Given as goal

abbrev pub invariant-loop-path : goal.invariant-loop-path
invariant-loop-path l = record {
  few : length l.paths.items ≤ 2 ^ 22;
  added : AddsPaths l.conditions l.here.table.now l.here.row.now (take l.path-index l.list) l.initial.paths.items l.paths.items;
}
