-- Words of the functions that go through the scopes of a circuit with a list of what is still to be visited, the next one last.
use Rattle.std.specs.Prelude.{◌≡◌, ℕ, suc, ◌-◌, ◌<◌, All, List, [], ◌∷◌, ◌++◌, Option, Some, None, length, map, reverse, slice_index_or}
use Rattle.sg_circuit.specs.declared.building.Pin.{Pin}
use Rattle.sg_circuit.specs.Circuit.{Circuit, Scope}
use Rattle.sg_circuit.specs.FanOut.{readers_at}
use Rattle.sg_circuit.specs.Pins.{elements_on}
use Rattle.wave_out.specs.declared.scopes.Visit.{Visit}
use Rattle.wave_out.specs.declared.scopes.Visit.TheVariants.{Enters, Leaves}
use Rattle.wave_out.specs.Scopes.{children_of, visits_in, visits}

-- a scope's number stands under that of its parent, if it has one
abbrev pub pin_of : ℕ → Option ℕ → List Pin
pin_of scope None = []
pin_of scope (Some parent) = record { net = parent; element = scope } ∷ []

-- the same of scopes that are numbered from k
abbrev pub parent_pins : ℕ → List Scope → List Pin
parent_pins k [] = []
parent_pins k (s ∷ ss) = pin_of k s.parent ++ parent_pins (suc k) ss

-- the table has the child scopes of each scope
pub record AreChildren (circuit : Circuit) (table : List (List ℕ)) : Type 0 where
  pub as_many : length table ≡ length circuit.scopes
  pub each : (scope : ℕ) → scope < length circuit.scopes → readers_at table scope ≡ children_of circuit scope

-- one of so many scopes is entered, or one is left
abbrev pub IsVisit : ℕ → Visit → Type 0
IsVisit scopes (Enters scope) = scope < scopes
IsVisit scopes Leaves = Unit {0}

-- what follows a scope's entry, the next one last
abbrev pub inner_of : List (List ℕ) → Visit → List Visit
inner_of table (Enters scope) = Leaves ∷ map Enters (reverse (readers_at table scope))
inner_of table Leaves = []

-- a scope's visit with all in it, of scopes that are numbered after their parents
abbrev pub whole_visit : Circuit → Visit → List Visit
whole_visit circuit (Enters scope) = visits_in (length circuit.scopes - scope) circuit scope
whole_visit circuit Leaves = Leaves ∷ []

-- all that is still to be visited
abbrev pub left_visits : Circuit → List Visit → List Visit
left_visits circuit [] = []
left_visits circuit (v ∷ vs) = left_visits circuit vs ++ whole_visit circuit v

-- what was visited and what is left
pub record GoesOn (circuit : Circuit) (made pending : List Visit) : Type 0 where
  pub known : All (λ v. IsVisit (length circuit.scopes) v) pending
  pub is : made ++ left_visits circuit pending ≡ visits circuit

-- the nets of a variable's bits stand under its number
abbrev pub bit_pins : ℕ → List ℕ → List Pin
bit_pins k bits = map (λ n. record { net = k; element = n }) bits

-- so they do of so many variables, each one's in their order
pub record HasBits (bits : List (List ℕ)) (count : ℕ) (pins : List Pin) : Type 0 where
  pub many : length bits ≡ count
  pub within : All (λ p. p.net < count) pins
  pub each : (k : ℕ) → elements_on k pins ≡ slice_index_or bits k []
