-- The places of the first number that is none, and of the first limits that cross.
use Rattle.std.specs.Prelude.{Bool, ◌||◌, List, Option}
use Rattle.std.specs.List.{find}
use Rattle.std.specs.Option.{option_map}
use Rattle.sg_text.specs.declared.places.Place.{Place}
use Rattle.sdf_tree.specs.Faults.{is_bad, crosses, crosses_at, Crossing}
use Rattle.sdf_tree.specs.Written.{Number, Value}

abbrev pub first_place : {A : Type 0} → (A → Bool) → (A → Place) → List A → Option Place
first_place is_fault place xs = option_map place (find is_fault xs)

abbrev pub bad_number : List Number → Option Place
bad_number ns = first_place is_bad (λ n. n.place) ns

abbrev pub crossing : List Crossing → Option Place
crossing cs = first_place crosses (λ c. c.place) cs

-- whether two limits cross, wherever they stand
abbrev pub crosses_within : Value → Value → Bool
crosses_within reject error = crosses_at reject.min error.min || (crosses_at reject.typ error.typ || crosses_at reject.max error.max)
