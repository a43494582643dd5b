-- Where it is said that a net is driven.
use Rattle.std.specs.Prelude.{◌≡◌, ◌⊎◌, ℕ, List, Some}
use Rattle.std.specs.List.{slice_get}
use Rattle.sg_text.specs.declared.places.Place.{Place}

-- a place that belongs to a net of the list
pub record IsPlaceOf (net : ℕ) (nets : List ℕ) (places : List Place) (place : Place) : Type 0 where
  pub at : ℕ
  pub net_is : slice_get nets at ≡ Some net
  pub place_is : slice_get places at ≡ Some place

-- the place of an input or an element that drives a net
abbrev pub IsPlaceOfDriver : ℕ → List ℕ → List Place → List ℕ → List Place → Place → Type 0
IsPlaceOfDriver net inputs input_places outputs places place = IsPlaceOf net inputs input_places place ⊎ IsPlaceOf net outputs places place
