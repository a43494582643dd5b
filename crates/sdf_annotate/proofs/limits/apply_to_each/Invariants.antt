-- The timing checks that are left complete the pass.
use Rattle.std.proofs.Common.{[]}
use Rattle.sdf_meaning.specs.MeantSeen.{view_cell_check, view_sdf}
use Rattle.sdf_tree.specs.Meant.{a_check}
use Rattle.sdf_annotate.specs.Seen.{check_with, circuit_of, is_check_large}
use Rattle.sdf_annotate.proofs.PassSteps.{Left}
use Rattle.sdf_annotate.proofs.limits.apply_to_each.Given as goal

abbrev pub invariant-loop-number : goal.invariant-loop-number
invariant-loop-number l =
    Left (is_check_large (circuit_of l.task) (view_sdf l.task.sdf.now) l.task.corner (a_check (view_cell_check l.check))) (check_with (circuit_of l.task) (view_sdf l.task.sdf.now) l.task.corner (a_check (view_cell_check l.check))) [] l.found
    l.fn.limits l.number-index l.limits
