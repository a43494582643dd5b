-- How far annotation has come: some entries were applied to tables of all places.
use Rattle.std.specs.Prelude.{◌≡◌, ℤ, List, ◌++◌, map, Some}
use Rattle.sg_text.specs.declared.places.Place.{Place}
use Rattle.sg_delay.specs.declared.corners.Corner.{Corner}
use Rattle.sg_circuit.specs.Timings.{Timing}
use Rattle.sg_circuit.specs.Circuit.{Circuit}
use Rattle.sdf_tree.specs.Meant.{Sdf}
use Rattle.annotation_model.specs.Given.{Given}
use Rattle.annotation_model.specs.Spots.{spots, spot_after, all_checked, limits_after}
use Rattle.annotation_model.specs.Annotated.{first_too_large}

-- the tables of all places after these entries
pub record HasTables (c : Circuit) (sdf : Sdf) (corner : Corner) (done : List Given) (timings : List (List Timing)) (limits : List (List ℤ)) : Type 0 where
  pub each_spot : timings ≡ map (spot_after c sdf corner done) (spots c)
  pub each_check : limits ≡ map (limits_after c sdf corner done) (all_checked c)

-- none of these entries is too large behind those before them
pub record AreFine (c : Circuit) (sdf : Sdf) (corner : Corner) (done more : List Given) : Type 0 where
  pub on : (rest : List Given) → first_too_large c sdf corner done (more ++ rest) ≡ first_too_large c sdf corner (done ++ more) rest

-- one of them is, the first at a place
pub record IsTooLarge (c : Circuit) (sdf : Sdf) (corner : Corner) (done more : List Given) (place : Place) : Type 0 where
  pub here : (rest : List Given) → first_too_large c sdf corner done (more ++ rest) ≡ Some place
