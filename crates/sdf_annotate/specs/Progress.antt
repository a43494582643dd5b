-- How far the code has come.
use Rattle.std.specs.Prelude.{◌≡◌, List, ◌++◌, length}
use Rattle.sg_delay.specs.declared.corners.Corner.{Corner}
use Rattle.sg_circuit.specs.Circuit.{Circuit}
use Rattle.sdf_tree.specs.Meant.{Sdf}
use Rattle.annotation_model.specs.Annotated.{unmatched_in}
use Rattle.annotation_model.specs.Given.{Given}
use Rattle.annotation_model.specs.Progress.{AreFine, HasTables, IsTooLarge}
use Rattle.annotation_model.specs.Spots.{all_checked, spots}
use Rattle.annotation_setting.specs.Table.{timings_seen}
use Rattle.sdf_annotate.specs.Told.{told_seen}
use Rattle.sdf_annotate.specs.declared.unmatched.AnnotError.{AnnotError}
use Rattle.sdf_annotate.specs.declared.unmatched.AnnotError.TheVariants.{TooLarge, NoMemory}
use Rattle.sdf_annotate.specs.declared.values.NewValues.{NewValues}

-- the tables have a row for each place
pub record AreSized (c : Circuit) (v : NewValues) : Type 0 where
  pub timings : length v.timings.items ≡ length (spots c)
  pub limits : length v.limits.items ≡ length (all_checked c)

-- the tables after these entries
abbrev pub HasAll : Circuit → Sdf → Corner → List Given → NewValues → Type 0
HasAll c sdf corner done v = HasTables c sdf corner done (timings_seen (spots c) v.timings.items) v.limits.items

-- What entries came to, whatever came before them: the tables have them, none was too large, and those for nothing are told.
pub record CameTo (c : Circuit) (sdf : Sdf) (corner : Corner) (gs : List Given) (old new : NewValues) : Type 0 where
  pub tables : (done : List Given) → HasAll c sdf corner done old → HasAll c sdf corner (done ++ gs) new
  pub fine : (done : List Given) → HasAll c sdf corner done old → AreFine c sdf corner done gs
  pub told : told_seen new.unmatched.items ≡ told_seen old.unmatched.items ++ unmatched_in c sdf gs
  pub sized : AreSized c new

-- one of them was too large, whatever came before them
abbrev pub StoppedAt : Circuit → Sdf → Corner → List Given → NewValues → AnnotError → Type 0
StoppedAt c sdf corner gs old (TooLarge place) = (done : List Given) → HasAll c sdf corner done old → IsTooLarge c sdf corner done gs place
StoppedAt c sdf corner gs old NoMemory = Unit {0}
