-- The checks so far have been added.
use Rattle.std.proofs.Common.{◌≤◌, ◌^◌, length, take}
use Rattle.elab_checks.proofs.OneByOne.{AreAdded}
use Rattle.elab_checks.proofs.uses.add_checks.Given as goal

abbrev pub invariant-loop-check : goal.invariant-loop-check
invariant-loop-check l = record {
  few : length l.made.checks.items ≤ 2 ^ 22;
  added : AreAdded l.conditions l.here.table.now l.here.row.now l.here.lates.now l.here.scope (take l.check-index l.checks) l.initial.made l.made;
}
