-- The faults of the values that are left are those of all.
use Rattle.std.proofs.Common.{◌≡◌, [], flat_map, drop, option_map}
use Rattle.std.specs.List.{zip}
use Rattle.vl_tree.specs.Seen.{view_expression, view_name}
use Rattle.vl_tree.specs.Tree.{Module}
use Rattle.elab_model.specs.NameFaults.{declaration_faults}
use Rattle.elab_model.specs.Names.{variables}
use Rattle.elab_modules.specs.Connecting.{connected_faults}
use Rattle.elab_modules.proofs.connections.check_ordered.Given as goal

abbrev pub invariant-loop-place : goal.invariant-loop-place
invariant-loop-place l =
    (m : Module) → l.child ≡ variables m → declaration_faults m ≡ []
    → flat_map (λ x. connected_faults l.table m (view_name x.0) (option_map view_expression x.1)) (drop l.place (zip l.ports l.values))
    ≡ flat_map (λ x. connected_faults l.table m (view_name x.0) (option_map view_expression x.1)) (zip l.ports l.values)
