-- The faults of the parts that are left are those of all.
use Rattle.std.proofs.Common.{◌≡◌, map, flat_map, drop}
use Rattle.vl_tree.specs.Seen.{view_expression}
use Rattle.elab_model.specs.TerminalFaults.{expression_faults}
use Rattle.elab_bits.proofs.faults.+check_expression.Given as goal

abbrev pub decreases-check_expression : goal.decreases-check_expression
decreases-check_expression l = goal.size-check_expression l

abbrev pub invariant-loop-part : goal.invariant-loop-part
invariant-loop-part l = flat_map (expression_faults l.table) (map view_expression (drop l.part-index l.part-items)) ≡ flat_map (expression_faults l.table) (map view_expression l.part-items)
