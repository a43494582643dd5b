-- The faults of the connections that are left are those of all.
use Rattle.std.proofs.Common.{◌≡◌, [], flat_map, drop, option_map}
use Rattle.vl_tree.specs.Seen.{view_expression, view_name}
use Rattle.vl_tree.specs.Tree.{Module}
use Rattle.elab_model.specs.NameFaults.{declaration_faults}
use Rattle.elab_model.specs.Names.{variables}
use Rattle.elab_modules.specs.Connecting.{connected_faults}
use Rattle.elab_modules.proofs.connections.check_named.Given as goal

abbrev pub invariant-loop-connection : goal.invariant-loop-connection
invariant-loop-connection l =
    (m : Module) → l.child ≡ variables m → declaration_faults m ≡ []
    → flat_map (λ c. connected_faults l.table m (view_name c.port) (option_map view_expression c.value)) (drop l.connection-index l.connections)
    ≡ flat_map (λ c. connected_faults l.table m (view_name c.port) (option_map view_expression c.value)) l.connections
