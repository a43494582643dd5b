-- The elements of the instances so far are there.
use Rattle.std.proofs.Common.{◌≤◌, ◌^◌, length}
use Rattle.sg_delay.specs.declared.corners.Corner.{Corner}
use Rattle.vl_tree.specs.Tree.{Module}
use Rattle.elab_model.specs.Nets.{nets}
use Rattle.elab_elements.specs.Standing.{AreRead}
use Rattle.elab_elements.proofs.AllInstances.{Holds, so_far}
use Rattle.elab_elements.proofs.elements.elements_in.Given as goal

abbrev pub invariant-loop-number : goal.invariant-loop-number
invariant-loop-number l = record {
  few : length l.made.elements.items ≤ 2 ^ 22;
  hold : (top : Module) (corner : Corner) → AreRead l.definitions top corner l.instances l.library l.rows
      → Holds l.library.gate_delays.items l.library.udps.items (nets l.definitions top) l.made (so_far l.definitions top corner l.number);
}
