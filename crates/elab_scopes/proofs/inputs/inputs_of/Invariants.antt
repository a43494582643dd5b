-- The inputs so far.
use Rattle.std.proofs.Common.{◌≡◌, List, take}
use Rattle.std.specs.Prelude.{flat_map}
use Rattle.vl_tree.specs.Tree.{Source}
use Rattle.elab_model.specs.Drivers.{input_drives}
use Rattle.elab_model.specs.Hierarchy.{Instance}
use Rattle.elab_model.specs.Nets.{OwnNet}
use Rattle.elab_scopes.specs.Driven.{AreDriven}
use Rattle.elab_scopes.specs.Here.{IsHere}
use Rattle.elab_scopes.proofs.inputs.inputs_of.Given as goal

abbrev pub invariant-loop-variable : goal.invariant-loop-variable
invariant-loop-variable l =
    (all : List OwnNet) (source : Source) (s : Instance) → IsHere all source s l.here → s.step.place ≡ s.step.definition.name.place
    → AreDriven all (flat_map (input_drives source s) (take l.variable l.here.prepared.now.table)) l.made
