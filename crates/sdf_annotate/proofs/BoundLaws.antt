-- The timings that annotation makes are within bounds.
use Rattle.std.specs.Prelude.{◌≡◌, ℕ, All, List, [], ◌∷◌, ◌++◌, length, map, None, Some, Option, IfSome}
use Rattle.std.specs.List.{flat_map, AllByRecursion}
use Rattle.std.specs.Global.{Box}
use Rattle.std.proofs.Common.{ap, sym, subst, arith}
use Rattle.std.proofs.lemmas.List.Elements.{All-from_recursion, recursion_from_All}
use Rattle.sg_delay.specs.declared.corners.Corner.{Corner}
use Rattle.sg_circuit.specs.Circuit.{Circuit, Element, Kind, Gate, Udp, Pass, Leg, Path, Late}
use Rattle.sg_circuit.specs.Closed.{AreTimings, HasDelays, IsClosed}
use Rattle.sg_circuit.specs.Paths as specify
use Rattle.sg_circuit.specs.Timings.{Timing}
use Rattle.sg_circuit.specs.TimingsSeen.{leg_timing_seen}
use Rattle.sg_circuit.specs.declared.elements.LegTiming.{LegTiming}
use Rattle.sdf_tree.specs.Meant.{Sdf}
use Rattle.annotation_model.specs.Annotated.{too_large}
use Rattle.annotation_model.specs.Given.{given}
use Rattle.annotation_model.specs.Laws.{StayWithinBounds}
use Rattle.annotation_model.specs.Spots.{Spot, path_spot, spot_after, spots, spots_in, spots_of, timings_of}
use Rattle.annotation_model.proofs.KeptPlaces.{stay}
use Rattle.annotation_setting.specs.Table.{timings_or, timings_seen}

abbrev IsBounded : Spot → Type 0
IsBounded s = AreTimings (timings_of s)

-- ---- a circuit's own values

both : (xs ys : List Spot) → AllByRecursion IsBounded xs → AllByRecursion IsBounded ys → AllByRecursion IsBounded (xs ++ ys)
both [] ys h k = k
both (x ∷ xs) ys h k = (h.0, both xs ys h.1 k)

paths-bounded : (s output : ℕ) (ps : List specify.Path) → AllByRecursion (λ (p : specify.Path). AreTimings p.timings) ps → AllByRecursion IsBounded (map (path_spot s output) ps)
paths-bounded s output [] h = tt
paths-bounded s output (p ∷ ps) h = (h.0, paths-bounded s output ps h.1)

kind-bounded : (s : ℕ) (inputs : List ℕ) (output : ℕ) (kind : Kind) → HasDelays kind → AllByRecursion IsBounded (spots_in s inputs output kind)
kind-bounded s inputs output (Gate g ds) h = tt
kind-bounded s inputs output (Udp u f ds) h = tt
kind-bounded s inputs output (Pass v) h = tt
kind-bounded s inputs output (Leg ts) h = (h, tt)
kind-bounded s inputs output (Path ps style) h = paths-bounded s output ps (recursion_from_All (λ (p : specify.Path). AreTimings p.timings) ps h)
kind-bounded s inputs output (Late t) h = tt

spots-bounded : (es : List Element) → AllByRecursion (λ (e : Element). HasDelays e.kind) es → AllByRecursion IsBounded (flat_map spots_of es)
spots-bounded [] h = tt
spots-bounded (e ∷ es) h = both (spots_of e) (flat_map spots_of es) (kind-bounded e.scope e.inputs e.output e.kind h.0) (spots-bounded es h.1)

-- ---- the tables

abbrev pub Fits : Option (Box LegTiming) → Type 0
Fits t = IfSome t (λ b. AreTimings (leg_timing_seen b.value))

one-fits : (s : Spot) (t : Option (Box LegTiming)) → AreTimings (timings_or s t) → Fits t
one-fits s None h = tt
one-fits s (Some b) h = h

table-fits : (ss : List Spot) (ts : List (Option (Box LegTiming))) (f : Spot → List Timing) → length ts ≡ length ss → timings_seen ss ts ≡ map f ss
    → AllByRecursion (λ s. AreTimings (f s)) ss → AllByRecursion Fits ts
table-fits [] [] f l e h = tt
table-fits [] (t ∷ ts) f l e h = absurd (omega (arith, l))
table-fits (s ∷ ss) [] f l e h = tt
table-fits (s ∷ ss) (t ∷ ts) f l e h = (one-fits s t (subst AreTimings (sym (ap first e)) h.0), table-fits ss ts f (omega (arith, l)) (ap rest e) h.1)
  where
    first : List (List Timing) → List Timing
    first [] = []
    first (x ∷ xs) = x

    rest : List (List Timing) → List (List Timing)
    rest [] = []
    rest (x ∷ xs) = xs

module _ (c : Circuit) (sdf : Sdf) (corner : Corner) (closed : IsClosed c) (fine : too_large c sdf corner ≡ None) where
  bounds : StayWithinBounds c sdf corner
  bounds = stay c sdf corner fine

  pub timings-fit : (ts : List (Option (Box LegTiming))) → length ts ≡ length (spots c) → timings_seen (spots c) ts ≡ map (spot_after c sdf corner (given sdf)) (spots c) → All Fits ts
  timings-fit ts l e =
      All-from_recursion Fits ts (table-fits (spots c) ts (spot_after c sdf corner (given sdf)) l e
      (recursion_from_All (λ s. AreTimings (spot_after c sdf corner (given sdf) s)) (spots c)
      (bounds.spot (All-from_recursion IsBounded (spots c) (spots-bounded c.elements (recursion_from_All (λ (e : Element). HasDelays e.kind) c.elements closed.has_delays))))))
