-- The places of a circuit that entries may be for, in order, and their values after entries: legs and paths, with a timing for each of the twelve transitions, and
-- timing checks, with the limits of their parts.
use Rattle.std.specs.Prelude.{ℕ, ℤ, ◌+◌, ◌||◌, Bool, true, false, List, [], ◌∷◌, length, map, Option, is_some}
use Rattle.std.specs.List.{flat_map, filter}
use Rattle.sg_delay.specs.declared.corners.Corner.{Corner}
use Rattle.sg_circuit.specs.declared.checks.Check.{Check}
use Rattle.sg_circuit.specs.declared.checks.CheckTiming.{CheckTiming}
use Rattle.sg_circuit.specs.Checks.{CheckConditions}
use Rattle.sg_circuit.specs.Signals.{takes_lates, signals}
use Rattle.sg_circuit.specs.Timings.{Timing}
use Rattle.sg_circuit.specs.Paths as specify
use Rattle.sg_circuit.specs.Circuit.{Circuit, Element, Kind, Leg, Path, scope_at}
use Rattle.sdf_tree.specs.declared.words.Divider.{Divider}
use Rattle.sdf_tree.specs.Meant.{Triple, Sdf}
use Rattle.annotation_model.specs.Given.{Given}
use Rattle.annotation_model.specs.Matching.{is_for_path, is_for_leg, given_to_check}
use Rattle.annotation_model.specs.Applied.{Grid, Bounds, applied, is_too_large, with_limits, are_limits_large}

-- entries that are for a place, one after another (IEEE 1364-2005, 16.3)
abbrev pub after : {V : Type 0} → (Given → V → V) → List Given → V → V
after f [] v = v
after f (g ∷ gs) v = after f gs (f g v)

-- how values become ticks in a scope: they are rounded to its module's precision
abbrev pub grid : Circuit → Sdf → Corner → ℕ → Grid
grid c sdf corner s = record { corner = corner; unit = sdf.unit; precision = (scope_at c s).precision; tick = c.tick }

-- ---- legs and paths

pub data Spot : Type 0 where
  leg_spot : (scope : ℕ) (inputs : List ℕ) (output : ℕ) (timings : List Timing) → Spot
  path_spot : (scope : ℕ) (output : ℕ) (path : specify.Path) → Spot

abbrev pub spots_in : ℕ → (inputs : List ℕ) → (output : ℕ) → Kind → List Spot
spots_in s inputs output (Leg timings) = leg_spot s inputs output timings ∷ []
spots_in s inputs output (Path paths style) = map (path_spot s output) paths
spots_in s inputs output _ = []

abbrev pub spots_of : Element → List Spot
spots_of e = spots_in e.scope e.inputs e.output e.kind

-- those of all elements, in order
abbrev pub spots : Circuit → List Spot
spots c = flat_map spots_of c.elements

abbrev pub scope_of : Spot → ℕ
scope_of (leg_spot s inputs output timings) = s
scope_of (path_spot s output path) = s

abbrev pub timings_of : Spot → List Timing
timings_of (leg_spot s inputs output timings) = timings
timings_of (path_spot s output path) = path.timings

abbrev pub is_for_spot : Circuit → Divider → Given → Spot → Bool
is_for_spot c divider g (leg_spot s inputs output timings) = is_for_leg c divider g s inputs output
is_for_spot c divider g (path_spot s output path) = is_for_path c divider g s output path

-- what an entry makes of the timings of a spot, and whether that is too large
abbrev pub applied_at : Circuit → Sdf → Corner → Given → Spot → List Timing → List Timing
applied_at c sdf corner g spot ts = applied (grid c sdf corner (scope_of spot)) g.entry ts

abbrev pub is_large_at : Circuit → Sdf → Corner → Given → Spot → List Timing → Bool
is_large_at c sdf corner g spot ts = is_too_large (grid c sdf corner (scope_of spot)) g.entry ts

-- Of the entries of a list those that are for a spot are taken, in order; the netlist's timings are what they start from.
abbrev pub spot_after : Circuit → Sdf → Corner → List Given → Spot → List Timing
spot_after c sdf corner gs spot = after (λ g. applied_at c sdf corner g spot) (filter (λ g. is_for_spot c sdf.divider g spot) gs) (timings_of spot)

-- ---- timing checks

-- a check, what it looks for, and how its conditions are spelled
pub record Checked : Type 0 where
  pub check : Check
  pub timing : CheckTiming
  pub written : CheckConditions

abbrev pub checked : List Check → List CheckTiming → List CheckConditions → List Checked
checked (k ∷ ks) (t ∷ ts) (w ∷ ws) = record { check = k; timing = t; written = w } ∷ checked ks ts ws
checked _ _ _ = []

abbrev pub all_checked : Circuit → List Checked
all_checked c = checked c.checks c.check_timings c.check_conditions

-- what an entry gives to the two parts of a check
abbrev pub given_to : Circuit → Divider → Given → Checked → Option Triple × Option Triple
given_to c divider g k = given_to_check c divider g k.check.scope k.timing k.written

abbrev pub is_given : Option Triple × Option Triple → Bool
is_given l = is_some l.0 || is_some l.1

abbrev pub is_for_check : Circuit → Divider → Given → Checked → Bool
is_for_check c divider g k = is_given (given_to c divider g k)

abbrev pub weight_of : Circuit → (signed : Bool) → (scope : ℕ) → ℕ
weight_of c true s = length (signals c.checks c.check_timings s) + 1
weight_of c false s = 1

abbrev pub bounds : Circuit → Checked → Bounds
bounds c k = record { signed = takes_lates k.timing.kind; weight = weight_of c (takes_lates k.timing.kind) k.check.scope }

abbrev pub limits_with : Circuit → Sdf → Corner → Given → Checked → List ℤ → List ℤ
limits_with c sdf corner g k limits = with_limits (bounds c k) (grid c sdf corner k.check.scope) (given_to c sdf.divider g k) limits

abbrev pub is_limit_large_at : Circuit → Sdf → Corner → Given → Checked → Bool
is_limit_large_at c sdf corner g k = are_limits_large (bounds c k) (grid c sdf corner k.check.scope) (given_to c sdf.divider g k)

abbrev pub limits_after : Circuit → Sdf → Corner → List Given → Checked → List ℤ
limits_after c sdf corner gs k = after (λ g. limits_with c sdf corner g k) (filter (λ g. is_for_check c sdf.divider g k) gs) k.timing.limits
