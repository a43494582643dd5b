-- That annotation with the tree of a circuit gives the circuit back.
use Rattle.std.specs.Prelude.{◌≡◌, ℤ, pos, ◌≤ℤ◌, All, List, [], length, map, Some, None, false}
use Rattle.sg_delay.specs.declared.corners.Corner.{Corner}
use Rattle.sg_circuit.specs.declared.checks.CheckTiming.{CheckTiming}
use Rattle.sg_circuit.specs.Closed.{IsClosed}
use Rattle.sg_circuit.specs.Signals.{takes_lates}
use Rattle.sg_circuit.specs.Timings.{Timing, limits_of}
use Rattle.sg_circuit.specs.Paths as specify
use Rattle.sg_circuit.specs.Circuit.{Circuit, Element, Kind, Leg, Path, Late}
use Rattle.sdf_tree.specs.Meant.{Sdf, sdf_of}
use Rattle.sdf_tree.specs.Written.{FilePart}
use Rattle.annotation_model.specs.Annotated.{annotated, too_large, unmatched}
use Rattle.late_limits.specs.Adjusted.{IsAdjustedFrom}
use Rattle.written_model.specs.Tree.{tree}
use Rattle.written_reading.specs.Placeless.{placeless}

-- ---- circuits that differ in delays and limits of paths and legs, check limits, delays of Lates and zeroed limits alone

abbrev pub stripped_path : specify.Path → specify.Path
stripped_path p = record p { timings = [] }

abbrev pub stripped_kind : Kind → Kind
stripped_kind (Leg timings) = Leg []
stripped_kind (Path paths style) = Path (map stripped_path paths) style
stripped_kind (Late delay) = Late 0
stripped_kind other = other

abbrev pub stripped_element : Element → Element
stripped_element e = record e { kind = stripped_kind e.kind }

-- as many limits stay
abbrev pub stripped_check : CheckTiming → CheckTiming
stripped_check t = record t { limits = map (λ (l : ℤ). pos 0) t.limits }

abbrev pub stripped : Circuit → Circuit
stripped c = record c { elements = map stripped_element c.elements; check_timings = map stripped_check c.check_timings; zeroed = [] }

abbrev pub IsLike : Circuit → Circuit → Type 0
IsLike c other = stripped other ≡ stripped c

-- ---- limits of pulses as numbers

abbrev pub as_number : Timing → Timing
as_number t = record { delay = t.delay; limits = Some (limits_of t) }

abbrev pub path_in_numbers : specify.Path → specify.Path
path_in_numbers p = record p { timings = map as_number p.timings }

abbrev pub kind_in_numbers : Kind → Kind
kind_in_numbers (Leg timings) = Leg (map as_number timings)
kind_in_numbers (Path paths style) = Path (map path_in_numbers paths) style
kind_in_numbers other = other

abbrev pub element_in_numbers : Element → Element
element_in_numbers e = record e { kind = kind_in_numbers e.kind }

abbrev pub in_numbers : Circuit → Circuit
in_numbers c = record c { elements = map element_in_numbers c.elements }

-- ---- annotation

-- its Lates and zeroed limits follow from its limits, each check has two limits, and none but those of setuphold and recrem lie below 0
pub record IsSettled (c : Circuit) : Type 0 where
  pub adjusted : IsAdjustedFrom c c
  pub pairs : All (λ t. length t.limits ≡ 2) c.check_timings
  pub limits : All (λ t. takes_lates t.kind ≡ false → All (λ l. pos 0 ≤ℤ l) t.limits) c.check_timings

-- Annotation of a circuit with a file has nothing too large and nothing unmatched, and gives a circuit, whatever the corner.
pub record Gives (sdf : Sdf) (corner : Corner) (from to : Circuit) : Type 0 where
  pub small : too_large from sdf corner ≡ None
  pub matched : unmatched from sdf ≡ []
  pub gives : (made : Circuit) → IsAdjustedFrom (annotated from sdf corner) made → in_numbers made ≡ in_numbers to

-- the tree, with whatever places, gives the circuit back, from each that is like it
abbrev pub IsGivenBack : Circuit → Type 0
IsGivenBack c = (ps : List FilePart) → placeless ps ≡ tree c → (from : Circuit) → IsClosed from → IsLike c from → (corner : Corner) → Gives (sdf_of ps) corner from c
