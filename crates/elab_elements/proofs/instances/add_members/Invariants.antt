-- The members so far have been added.
use Rattle.std.proofs.Common.{◌≤◌, ◌^◌, length}
use Rattle.sg_delay.specs.declared.corners.Corner.{Corner}
use Rattle.vl_tree.specs.Tree.{Module}
use Rattle.elab_model.specs.Hierarchy.{Instance}
use Rattle.elab_elements.specs.Standing.{AreMembers}
use Rattle.elab_elements.proofs.MembersSoFar.{AreAdded}
use Rattle.elab_elements.proofs.instances.add_members.Given as goal

abbrev pub invariant-loop-at : goal.invariant-loop-at
invariant-loop-at l = record {
  few : length l.made.elements.items ≤ 2 ^ 22;
  added : (top : Module) (corner : Corner) (s : Instance) → AreMembers l.definitions top corner l.instances l.library l.rows l.number l.definition l.prepared l.row l.driven l.start s
      → AreAdded l.library.gate_delays.items l.library.udps.items l.definitions top corner s l.at l.next l.initial.made l.made;
}
