-- The outputs so far have been added.
use Rattle.std.proofs.Common.{◌≤◌, ◌^◌, length, take}
use Rattle.elab_paths.proofs.OneByOne.{AreAdded}
use Rattle.elab_paths.proofs.adding.add_all_uses.Given as goal

abbrev pub invariant-loop-output : goal.invariant-loop-output
invariant-loop-output l = record {
  few : length l.uses.paths.items ≤ 2 ^ 22;
  added : AreAdded l.conditions l.here.table.now l.here.row.now (take l.output-index l.outputs) l.initial.uses l.uses;
}
