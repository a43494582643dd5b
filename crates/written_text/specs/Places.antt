-- Words of contracts: where nets stand among the variables of a scope.
use Rattle.std.specs.Prelude.{◌≡◌, ℕ, ◌+◌, ◌<◌, ◌==◌, Bool, if◌then◌else◌, List, [], ◌∷◌, length, Option, Some, None, slice_index_or}
use Rattle.std.specs.Option.{option_or}
use Rattle.sg_circuit.specs.Circuit.{Variable}
use Rattle.written_text.specs.declared.places.BitPlace.{BitPlace}

-- a net's place: the number of a variable, and the position of the net among its bits
abbrev pub Place : Type 0
Place = ℕ × ℕ

-- where it stands in a table, if its mark is this one
abbrev pub marked : ℕ → BitPlace → Option Place
marked mark p = if p.mark == mark then Some (p.variable, p.bit) else None

abbrev pub place_at : List BitPlace → ℕ → ℕ → Option Place
place_at table mark net = marked mark (slice_index_or table net (record { mark = 0; variable = 0; bit = 0 }))

-- where it stands first among bits, and among variables
abbrev pub place_if : Bool → ℕ → ℕ → Option Place
place_if b variable bit = if b then Some (variable, bit) else None

abbrev pub place_if_at : (variable bit : ℕ) → (of : ℕ) → ℕ → Option Place
place_if_at variable bit of net = place_if (of == net) variable bit

abbrev pub bits_place : (variable bit : ℕ) → List ℕ → ℕ → Option Place
bits_place variable bit [] net = None
bits_place variable bit (n ∷ ns) net = option_or (place_if_at variable bit n net) (bits_place variable (bit + 1) ns net)

abbrev pub variables_place : ℕ → List Variable → ℕ → Option Place
variables_place k [] net = None
variables_place k (v ∷ vs) net = option_or (bits_place k 0 v.bits net) (variables_place (k + 1) vs net)

-- a table with more places, for nets without one
pub record HasMore (mark : ℕ) (old new : List BitPlace) (more : ℕ → Option Place) : Type 0 where
  pub each : (net : ℕ) → net < length old → place_at new mark net ≡ option_or (place_at old mark net) (more net)

-- a table has the places of the nets among these variables
pub record HasPlaces (mark : ℕ) (table : List BitPlace) (vs : List Variable) : Type 0 where
  pub each : (net : ℕ) → net < length table → place_at table mark net ≡ variables_place 0 vs net
