-- What a whole file comes to.
use Rattle.std.specs.Prelude.{◌≡◌, All, IfSome, map, None}
use Rattle.sg_delay.specs.declared.corners.Corner.{Corner}
use Rattle.sg_circuit.specs.Circuit.{Circuit}
use Rattle.sg_circuit.specs.Closed.{AreTimings}
use Rattle.sg_circuit.specs.TimingsSeen.{leg_timing_seen}
use Rattle.sdf_tree.specs.Meant.{Sdf}
use Rattle.annotation_model.specs.Annotated.{too_large, unmatched}
use Rattle.annotation_model.specs.Given.{given}
use Rattle.annotation_model.specs.Spots.{all_checked, limits_after, spot_after, spots}
use Rattle.annotation_setting.specs.Limits.{AreLimitsOf}
use Rattle.annotation_setting.specs.Table.{timings_seen}
use Rattle.sdf_annotate.specs.Progress.{AreSized}
use Rattle.sdf_annotate.specs.Told.{told_seen}
use Rattle.sdf_annotate.specs.declared.values.NewValues.{NewValues}

-- these are the values after a file, within bounds, and no entry of it is too large
pub record AreAfter (c : Circuit) (sdf : Sdf) (corner : Corner) (v : NewValues) : Type 0 where
  pub fine : too_large c sdf corner ≡ None
  pub each_spot : timings_seen (spots c) v.timings.items ≡ map (spot_after c sdf corner (given sdf)) (spots c)
  pub each_check : v.limits.items ≡ map (limits_after c sdf corner (given sdf)) (all_checked c)
  pub told : told_seen v.unmatched.items ≡ unmatched c sdf
  pub sized : AreSized c v
  pub timings : All (λ t. IfSome t (λ b. AreTimings (leg_timing_seen b.value))) v.timings.items
  pub limits : AreLimitsOf c v.limits.items
