-- The regs so far.
use Rattle.std.proofs.Common.{◌≡◌, List, take}
use Rattle.std.specs.Prelude.{flat_map}
use Rattle.sg_delay.specs.declared.corners.Corner.{Corner}
use Rattle.vl_tree.specs.Tree.{Module}
use Rattle.elab_model.specs.Drivers.{reg_drives}
use Rattle.elab_model.specs.Hierarchy.{Instance}
use Rattle.elab_model.specs.Names.{variables}
use Rattle.elab_model.specs.Nets.{OwnNet}
use Rattle.elab_hierarchy.specs.Placing.{ArePlaced}
use Rattle.elab_scopes.specs.Driven.{drive_numbers}
use Rattle.elab_scopes.specs.Here.{AreRead}
use Rattle.elab_scopes.proofs.driven.reg_nets.Given as goal

abbrev pub invariant-loop-number : goal.invariant-loop-number
invariant-loop-number l =
    (top : Module) (corner : Corner) (ss : List Instance) (all : List OwnNet) → AreRead l.definitions top corner l.library l.rows ss all → ArePlaced l.definitions l.instances ss
    → l.nets.items ≡ drive_numbers all (flat_map (λ s. flat_map (reg_drives l.definitions s) (variables s.step.definition)) (take l.number ss))
