-- The checks of the instances so far.
use Rattle.std.proofs.Common.{◌≤◌, ◌^◌, take, length, flat_map}
use Rattle.sg_delay.specs.declared.corners.Corner.{Corner}
use Rattle.vl_tree.specs.Tree.{Module, Source}
use Rattle.elab_model.specs.Delays.{tick_of}
use Rattle.elab_model.specs.Drivers.{elements}
use Rattle.elab_model.specs.Hierarchy.{instances}
use Rattle.elab_model.specs.Nets.{nets}
use Rattle.circuit_model.specs.CheckUses.{check_uses_of}
use Rattle.elab_checks.specs.Standing.{AreGiven}
use Rattle.elab_checks.specs.Uses.{AreUses}
use Rattle.elab_checks.proofs.uses.circuit_checks.Given as goal

abbrev pub invariant-loop-number : goal.invariant-loop-number
invariant-loop-number l = record {
  few : length l.made.checks.items ≤ 2 ^ 22;
  so_far : (source : Source) (top : Module) (corner : Corner) → AreGiven source top corner l.library l.modules l.conditions l.instances l.rows l.lates
      → AreUses l.conditions l.made (flat_map (check_uses_of (nets source top) (elements source top corner) source corner (tick_of source top)) (take l.number (instances source top)));
}
