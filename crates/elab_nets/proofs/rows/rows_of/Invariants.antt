-- The instances so far have had their turns.
use Rattle.std.proofs.Common.{◌≤◌, length}
use Rattle.sg_delay.specs.declared.corners.Corner as ghost_corner
use Rattle.vl_tree.specs.Tree.{Module}
use Rattle.elab_nets.specs.Turns.{AreUpTo, IsGiven}
use Rattle.elab_nets.proofs.rows.rows_of.Given as goal

abbrev pub invariant-loop-number : goal.invariant-loop-number
invariant-loop-number l = record {
  few : length l.rows.nets.items ≤ 4194304;
  up_to : (top : Module) (corner : ghost_corner.Corner) → IsGiven l.definitions top corner l.library l.instances → AreUpTo l.definitions top l.rows l.number;
}
