-- The places that are left complete the pass.
use Rattle.std.proofs.Common.{[]}
use Rattle.sdf_meaning.specs.MeantSeen.{view_meant, view_sdf}
use Rattle.annotation_model.specs.Spots.{spots}
use Rattle.annotation_setting.specs.Table.{timings_seen}
use Rattle.sdf_annotate.specs.Seen.{circuit_of, is_spot_large, spot_with}
use Rattle.sdf_annotate.proofs.PassSteps.{Left}
use Rattle.sdf_annotate.proofs.timings.apply_to_spots.Given as goal

abbrev pub invariant-loop-number : goal.invariant-loop-number
invariant-loop-number l =
    Left (is_spot_large (circuit_of l.task) (view_sdf l.task.sdf.now) l.task.corner (view_meant l.entry)) (spot_with (circuit_of l.task) (view_sdf l.task.sdf.now) l.task.corner (view_meant l.entry)) [] l.found
    (timings_seen (spots (circuit_of l.task)) l.fn.timings) l.number-index (timings_seen (spots (circuit_of l.task)) l.timings)
