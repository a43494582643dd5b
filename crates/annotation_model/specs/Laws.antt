-- What holds of annotation, as statements.
use Rattle.std.specs.Prelude.{◌≡◌, ℕ, ℤ, ◌*◌, ◌<◌, ◌^◌, unsigned_abs, if◌then◌else◌, All, List, [], ◌∷◌, ◌++◌, None}
use Rattle.sg_delay.specs.declared.corners.Corner.{Corner}
use Rattle.sg_circuit.specs.Circuit.{Circuit}
use Rattle.sg_circuit.specs.Closed.{AreTimings}
use Rattle.sdf_tree.specs.Meant.{Sdf}
use Rattle.annotation_model.specs.Given.{Given, given}
use Rattle.annotation_model.specs.Spots.{Spot, spots, timings_of, is_for_spot, applied_at, spot_after, Checked, all_checked, is_for_check, bounds, limits_with, limits_after}
use Rattle.annotation_model.specs.Annotated.{too_large}

-- With one entry more a leg or a path is as it was, or as the entry makes it where the entry is for it: what the filter says is what comes of applying entries one
-- after another. Likewise a timing check.
pub record OneEntryMore (c : Circuit) (sdf : Sdf) (corner : Corner) (gs : List Given) (g : Given) : Type 0 where
  pub spot : (s : Spot) → spot_after c sdf corner (gs ++ g ∷ []) s
      ≡ (if is_for_spot c sdf.divider g s then applied_at c sdf corner g s (spot_after c sdf corner gs s) else spot_after c sdf corner gs s)
  pub check : (k : Checked) → limits_after c sdf corner (gs ++ g ∷ []) k
      ≡ (if is_for_check c sdf.divider g k then limits_with c sdf corner g k (limits_after c sdf corner gs k) else limits_after c sdf corner gs k)

abbrev pub EntriesOneAfterAnother : Type 0
EntriesOneAfterAnother = (c : Circuit) (sdf : Sdf) (corner : Corner) (gs : List Given) (g : Given) → OneEntryMore c sdf corner gs g

-- limits of a check whose sizes, as often as they weigh, are below 2^60 ticks
abbrev pub AreSmall : (weight : ℕ) → List ℤ → Type 0
AreSmall weight limits = All (λ l. unsigned_abs l * weight < 2 ^ 60) limits

-- timings and limits that are within bounds stay so, at each place
pub record StayWithinBounds (c : Circuit) (sdf : Sdf) (corner : Corner) : Type 0 where
  pub spot : All (λ s. AreTimings (timings_of s)) (spots c) → All (λ s. AreTimings (spot_after c sdf corner (given sdf) s)) (spots c)
  pub check : All (λ k. AreSmall (bounds c k).weight k.timing.limits) (all_checked c) → All (λ k. AreSmall (bounds c k).weight (limits_after c sdf corner (given sdf) k)) (all_checked c)

abbrev pub ValuesStayWithinBounds : Type 0
ValuesStayWithinBounds = (c : Circuit) (sdf : Sdf) (corner : Corner) → too_large c sdf corner ≡ None → StayWithinBounds c sdf corner
