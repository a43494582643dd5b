-- The path uses of the instances so far.
use Rattle.std.proofs.Common.{◌≤◌, ◌^◌, take, length, flat_map}
use Rattle.sg_delay.specs.declared.corners.Corner.{Corner}
use Rattle.vl_tree.specs.Tree.{Module, Source}
use Rattle.elab_model.specs.Delays.{tick_of}
use Rattle.elab_model.specs.Hierarchy.{instances}
use Rattle.elab_model.specs.Nets.{nets}
use Rattle.circuit_model.specs.PathUses.{path_uses_of}
use Rattle.elab_paths.specs.Standing.{AreStanding}
use Rattle.elab_paths.specs.Uses.{AreUses}
use Rattle.elab_paths.proofs.adding.uses_of.Given as goal

abbrev pub invariant-loop-number : goal.invariant-loop-number
invariant-loop-number l = record {
  few : length l.uses.paths.items ≤ 2 ^ 22;
  made : (source : Source) (top : Module) (corner : Corner) → AreStanding source top corner l.library l.modules l.instances l.rows
      → AreUses l.modules.conditions.items l.modules.timings.items l.uses (flat_map (path_uses_of (nets source top) source corner (tick_of source top)) (take l.number (instances source top)));
}
