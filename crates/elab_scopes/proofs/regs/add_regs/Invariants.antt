-- The regs so far.
use Rattle.std.proofs.Common.{◌≡◌, ◌++◌, List, take}
use Rattle.std.specs.Prelude.{flat_map}
use Rattle.vl_tree.specs.Tree.{Source}
use Rattle.elab_model.specs.Drivers.{reg_drives}
use Rattle.elab_model.specs.Hierarchy.{Instance}
use Rattle.elab_model.specs.Nets.{OwnNet}
use Rattle.elab_scopes.specs.Driven.{drive_numbers}
use Rattle.elab_scopes.specs.Here.{IsHere}
use Rattle.elab_scopes.proofs.regs.add_regs.Given as goal

abbrev pub invariant-loop-variable : goal.invariant-loop-variable
invariant-loop-variable l =
    (all : List OwnNet) (source : Source) (s : Instance) → IsHere all source s l.here
    → l.nets.items ≡ l.initial.nets.items ++ drive_numbers all (flat_map (reg_drives source s) (take l.variable l.here.prepared.now.table))
