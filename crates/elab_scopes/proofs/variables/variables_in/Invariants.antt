-- The variables so far.
use Rattle.std.proofs.Common.{◌≡◌, List, map, take}
use Rattle.sg_circuit.specs.Seen.{variable_seen}
use Rattle.vl_tree.specs.Tree.{Source}
use Rattle.elab_model.specs.Hierarchy.{Instance}
use Rattle.elab_model.specs.Nets.{OwnNet}
use Rattle.elab_model.specs.Scopes.{scope_variable}
use Rattle.elab_scopes.specs.Here.{IsHere}
use Rattle.elab_scopes.proofs.variables.variables_in.Given as goal

abbrev pub invariant-loop-place : goal.invariant-loop-place
invariant-loop-place l =
    (all : List OwnNet) (source : Source) (s : Instance) → IsHere all source s l.here
    → map (λ v. variable_seen v) l.list.items ≡ map (scope_variable all source s) (take l.place l.here.prepared.now.table)
