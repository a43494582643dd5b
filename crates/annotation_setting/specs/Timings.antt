-- A circuit's legs and paths with new timings, where a table has some.
use Rattle.std.specs.Prelude.{ℕ, suc, ◌+◌, Bool, true, false, List, [], ◌∷◌, length, Option, Some, None, slice_index_or}
use Rattle.std.specs.Global.{Box}
use Rattle.sg_circuit.specs.Paths as specify
use Rattle.sg_circuit.specs.Timings.{Timing}
use Rattle.sg_circuit.specs.TimingsSeen.{leg_timing_seen}
use Rattle.sg_circuit.specs.Circuit.{Circuit, Element, Kind, Leg, Path}
use Rattle.sg_circuit.specs.declared.elements.LegTiming.{LegTiming}
use Rattle.sg_circuit.specs.declared.elements.ElementKind.{ElementKind}
use Rattle.sg_circuit.specs.declared.elements.ElementKind.TheVariants as kind
use Rattle.circuit_open.specs.Open.{with_kind, with_path}
use Rattle.annotation_model.specs.Spots.{spots_of}
use Rattle.annotation_spots.specs.declared.spots.Spot as code_spot

abbrev pub is_leg : ElementKind → Bool
is_leg (kind.Leg timing) = true
is_leg _ = false

-- the timings of a leg, or of a path by its place
abbrev pub with_spot : ℕ → List Timing → Kind → Kind
with_spot path timings (Leg before) = Leg timings
with_spot path timings (Path paths style) = with_path path timings (Path paths style)
with_spot path timings kind = kind

-- where there are new ones
abbrev pub with_new : code_spot.Spot → Option (Box LegTiming) → Circuit → Circuit
with_new spot None c = c
with_new spot (Some new) c = with_kind (with_spot spot.path (leg_timing_seen new.value)) spot.element c

abbrev pub count_of : Option (Box LegTiming) → ℕ
count_of None = 0
count_of (Some new) = 1

-- the timings that a table has at a number, or those before
abbrev pub new_or : List Timing → Option (Box LegTiming) → List Timing
new_or before None = before
new_or before (Some new) = leg_timing_seen new.value

-- the paths that are numbered from k
abbrev pub new_paths : (ℕ → Option (Box LegTiming)) → ℕ → List specify.Path → List specify.Path
new_paths table k [] = []
new_paths table k (p ∷ ps) = record p { timings = new_or p.timings (table k) } ∷ new_paths table (suc k) ps

abbrev pub new_kind : (ℕ → Option (Box LegTiming)) → ℕ → Kind → Kind
new_kind table k (Leg before) = Leg (new_or before (table k))
new_kind table k (Path paths style) = Path (new_paths table k paths) style
new_kind table k kind = kind

abbrev pub new_elements : (ℕ → Option (Box LegTiming)) → ℕ → List Element → List Element
new_elements table k [] = []
new_elements table k (e ∷ es) = record e { kind = new_kind table k e.kind } ∷ new_elements table (k + length (spots_of e)) es

abbrev pub at : List (Option (Box LegTiming)) → ℕ → Option (Box LegTiming)
at timings k = slice_index_or timings k None

abbrev pub with_timings : List (Option (Box LegTiming)) → Circuit → Circuit
with_timings timings c = record c { elements = new_elements (at timings) 0 c.elements }
