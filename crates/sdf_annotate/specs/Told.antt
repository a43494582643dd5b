-- What annotation answers.
use Rattle.std.specs.Prelude.{◌≡◌, ℕ, List, map, Some, None}
use Rattle.sg_text.specs.declared.places.Place.{Place}
use Rattle.sg_delay.specs.declared.corners.Corner.{Corner}
use Rattle.sg_circuit.specs.Circuit.{Circuit}
use Rattle.late_limits.specs.Adjusted.{IsAdjustedFrom}
use Rattle.sdf_tree.specs.Meant.{Sdf}
use Rattle.annotation_model.specs.Annotated.{annotated, too_large, unmatched}
use Rattle.sdf_annotate.specs.declared.unmatched.AnnotError.{AnnotError}
use Rattle.sdf_annotate.specs.declared.unmatched.AnnotError.TheVariants.{TooLarge, NoMemory}
use Rattle.sdf_annotate.specs.declared.unmatched.Unmatched.{Unmatched}

abbrev pub told_seen : List Unmatched → List (Place × List ℕ)
told_seen us = map (λ (u : Unmatched). (u.place, u.word)) us

-- no entry is too large, the circuit is annotated, and adjusted to its new limits, and the entries that are for nothing are told
pub record IsAnnotated (c : Circuit) (sdf : Sdf) (corner : Corner) (new : Circuit) (told : List (Place × List ℕ)) : Type 0 where
  pub fine : too_large c sdf corner ≡ None
  pub circuit : IsAdjustedFrom (annotated c sdf corner) new
  pub unmatched : told ≡ unmatched c sdf

-- the first entry that is too large stands at the place that is told; of want of memory nothing is said
abbrev pub IsTooLargeAt : Circuit → Sdf → Corner → AnnotError → Type 0
IsTooLargeAt c sdf corner (TooLarge place) = too_large c sdf corner ≡ Some place
IsTooLargeAt c sdf corner NoMemory = Unit {0}
