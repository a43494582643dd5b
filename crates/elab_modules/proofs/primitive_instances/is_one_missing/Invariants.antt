-- None was missing so far.
use Rattle.std.proofs.Common.{◌≡◌, map, drop, option_map}
use Rattle.std.specs.List.{list_any}
use Rattle.vl_tree.specs.Seen.{view_expression}
use Rattle.elab_model.specs.TerminalFaults.{is_missing}
use Rattle.elab_modules.proofs.primitive_instances.is_one_missing.Given as goal

abbrev pub invariant-loop-value : goal.invariant-loop-value
invariant-loop-value l = list_any is_missing (map (option_map view_expression) (drop l.value-index l.values)) ≡ list_any is_missing (map (option_map view_expression) l.values)
