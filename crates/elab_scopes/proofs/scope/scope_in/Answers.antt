-- A scope with its variables.
use Rattle.vl_tree.specs.Seen.{view_module}
use Rattle.sg_circuit.specs.Seen.{variable_seen}
use Rattle.std.proofs.Common.{map}
use Rattle.elab_scopes.proofs.ShownScopes.{scope-shown}
use Rattle.elab_scopes.proofs.scope.scope_in.Goals as goal

pub returns : goal.returns
returns c = λ all source s is placed n t.
    scope-shown all source s (view_module c.args.here.now.prepared.now.definition.now) c.args.placed.now.parent c.in_ok-name.name c.in_ok-module.module c.is_leaf.result
    (map (λ v. variable_seen v) c.in_ok-variables.variables.items)
    is.prepared.definition placed.parent (c.in_ok-name.ensures s.step placed.text is.prepared.definition) c.in_ok-module.ensures
    (c.is_leaf.ensures source s placed n t) (c.in_ok-variables.ensures all source s is)
