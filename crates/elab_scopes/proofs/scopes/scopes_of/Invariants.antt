-- The scopes so far.
use Rattle.std.proofs.Common.{◌≡◌, List, [], map, take}
use Rattle.sg_circuit.specs.Seen.{scope_seen}
use Rattle.sg_delay.specs.declared.corners.Corner.{Corner}
use Rattle.vl_tree.specs.Tree.{Module}
use Rattle.elab_model.specs.Hierarchy.{Instance}
use Rattle.elab_model.specs.Nets.{OwnNet}
use Rattle.elab_model.specs.Scopes.{scope_of}
use Rattle.elab_hierarchy.specs.Placing.{ArePlaced, tree_faults}
use Rattle.elab_scopes.specs.Here.{AreRead}
use Rattle.elab_scopes.proofs.scopes.scopes_of.Given as goal

abbrev pub invariant-loop-number : goal.invariant-loop-number
invariant-loop-number l =
    (top : Module) (corner : Corner) (ss : List Instance) (all : List OwnNet) → AreRead l.definitions top corner l.library l.rows ss all → ArePlaced l.definitions l.instances ss
    → tree_faults l.definitions top ≡ [] → map (λ s. scope_seen s) l.scopes.items ≡ map (scope_of all l.definitions) (take l.number ss)
