-- The faults of the inputs that are left are those of all.
use Rattle.std.proofs.Common.{◌≡◌, false, flat_map, drop, option_map}
use Rattle.vl_tree.specs.Seen.{view_expression}
use Rattle.elab_modules.specs.Telling.{joined_value_faults}
use Rattle.elab_modules.proofs.primitive_instances.check_inputs.Given as goal

abbrev pub invariant-loop-value : goal.invariant-loop-value
invariant-loop-value l =
    flat_map (λ v. joined_value_faults l.table 1 false (option_map view_expression v)) (drop l.value-index l.values)
    ≡ flat_map (λ v. joined_value_faults l.table 1 false (option_map view_expression v)) l.values
