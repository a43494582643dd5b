-- What an entry gives to the parts of a timing check.
use Rattle.std.specs.Prelude.{◌≡◌, ℤ, ◌+◌, Bool, true, false, List, [], ◌∷◌, Option, Result, Ok, Err}
use Rattle.std.specs.Option.{option_map}
use Rattle.sg_delay.specs.declared.corners.Triple as code_triple
use Rattle.sdf_tree.specs.Meant.{Triple}
use Rattle.sdf_meaning.specs.MeantSeen.{view_triple}
use Rattle.annotation_model.specs.Applied.{Bounds, limit_or}
use Rattle.annotation_values.specs.declared.bounds.Bounds as code_bounds
use Rattle.annotation_values.specs.declared.bounds.Bounds.TheVariants.{Unsigned, Signed}

abbrev pub bounds_seen : code_bounds.Bounds → Bounds
bounds_seen Unsigned = record { signed = false; weight = 1 }
bounds_seen (Signed signals) = record { signed = true; weight = signals + 1 }

abbrev pub parts_seen : Option code_triple.Triple × Option code_triple.Triple → Option Triple × Option Triple
parts_seen given = (option_map view_triple given.0, option_map view_triple given.1)

-- two limits, each after what is given to it
abbrev pub changed_limits : (signed : Bool) → Option ℤ → Option ℤ → List ℤ → List ℤ
changed_limits signed one other (first ∷ second ∷ rest) = limit_or signed one first ∷ limit_or signed other second ∷ []
changed_limits signed one other limits = limits

-- the limits of a check, or that one is too large
abbrev pub TellsLimits : {E : Type 0} → Bool → List ℤ → Result (List ℤ) E → Type 0
TellsLimits large value (Ok limits) = (large ≡ false) × (limits ≡ value)
TellsLimits large value (Err e) = large ≡ true
