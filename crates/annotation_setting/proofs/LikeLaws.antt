-- A circuit with new timings and limits is as before but for them.
use Rattle.std.specs.Prelude.{◌≡◌, ℕ, ◌+◌, List, [], ◌∷◌, length, Option, refl, ℤ}
use Rattle.std.specs.Global.{Box}
use Rattle.sg_circuit.specs.Circuit.{Circuit, Element, Kind, Gate, Udp, Pass, Leg, Path, Late}
use Rattle.sg_circuit.specs.declared.elements.LegTiming.{LegTiming}
use Rattle.late_limits.specs.Adjustments.{is_late, none, more, with_limits, AreSameElements, IsLike}
use Rattle.annotation_model.specs.Spots.{spots_of}
use Rattle.annotation_setting.specs.Limits.{limited, with_all_limits}
use Rattle.annotation_setting.specs.Timings.{at, new_elements, new_kind, with_timings}

late-as_before : (f : ℕ → Option (Box LegTiming)) (k : ℕ) (kind : Kind) → is_late (new_kind f k kind) ≡ is_late kind
late-as_before f k (Gate gate delays) = refl
late-as_before f k (Udp primitive first delays) = refl
late-as_before f k (Pass constant) = refl
late-as_before f k (Leg timings) = refl
late-as_before f k (Path paths style) = refl
late-as_before f k (Late delay) = refl

elements-as_before : (f : ℕ → Option (Box LegTiming)) (k : ℕ) (es : List Element) → AreSameElements es (new_elements f k es)
elements-as_before f k [] = none
elements-as_before f k (e ∷ es) = more (record { scope = refl; inputs = refl; kind = late-as_before f k e.kind }) (elements-as_before f (k + length (spots_of e)) es)

pub like-before : (c : Circuit) (timings : List (Option (Box LegTiming))) (limits : List (List ℤ)) → limited limits c.check_timings ≡ with_limits c.check_timings limits
    → IsLike c limits (with_all_limits limits (with_timings timings c))
like-before c timings limits set = record { checks = refl; timings = set; scopes = refl; elements = elements-as_before (at timings) 0 c.elements }
