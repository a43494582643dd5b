-- The faults of the operands that are left are those of all.
use Rattle.std.proofs.Common.{◌≡◌, length, map}
use Rattle.std.specs.Prelude.{flat_map}
use Rattle.vl_tree.specs.Seen.{view_word}
use Rattle.specify_model.specs.Conditions.{operands}
use Rattle.specify_model.specs.Faults.{operand_faults}
use Rattle.specify_paths.proofs.conditions.check_operands.Given as goal

abbrev pub invariant-loop-rest : goal.invariant-loop-rest
invariant-loop-rest l = flat_map (operand_faults l.table) (operands (map view_word l.rest)) ≡ flat_map (operand_faults l.table) (operands (map view_word l.words))

abbrev pub decreases-loop-rest : goal.decreases-loop-rest
decreases-loop-rest l = length l.rest
