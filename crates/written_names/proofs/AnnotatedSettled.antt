-- Annotation leaves a circuit settled.
use Rattle.std.specs.Prelude.{◌≡◌, ℤ, pos, ◌≤ℤ◌, All, Bool, true, false, List, [], ◌∷◌, length, map, Option, Some, None}
use Rattle.std.specs.List.{AllByRecursion, filter}
use Rattle.std.proofs.Common.{refl, sym, ap, subst, arith}
use Rattle.std.proofs.lemmas.List.Elements.{All-from_recursion, recursion_from_All}
use Rattle.sg_time.specs.Ticks.{above as not_below}
use Rattle.sg_circuit.specs.Checks.{CheckConditions}
use Rattle.sg_circuit.specs.Circuit.{Circuit}
use Rattle.sg_circuit.specs.Signals.{takes_lates}
use Rattle.sg_circuit.specs.declared.checks.Check.{Check}
use Rattle.sg_circuit.specs.declared.checks.CheckTiming.{CheckTiming}
use Rattle.sg_delay.specs.declared.corners.Corner.{Corner}
use Rattle.sdf_tree.specs.Meant.{Sdf, Triple}
use Rattle.annotation_model.specs.Annotated.{annotated_by, annotated_check}
use Rattle.annotation_model.specs.Applied.{Bounds, Grid, chosen_if, limit_or, with_limits}
use Rattle.annotation_model.specs.Given.{Given}
use Rattle.annotation_model.specs.Spots.{Checked, after, all_checked, bounds, checked, given_to, grid, is_for_check, limits_with}
use Rattle.late_limits.specs.Adjusted.{IsAdjustedFrom}
use Rattle.elab_laws.proofs.Lists.{all-map, all-weaker}
use Rattle.written_giving.specs.AnnotatedBack.{IsSettled}
use Rattle.written_names.proofs.AdjustedAgain.{own_adjusted}
use Rattle.written_names.proofs.CheckUseLaws.{IsAboveZero, above}

-- ---- limits

-- two limits, none below 0 where that may not be
abbrev pub AreFit : (signed : Bool) → List ℤ → Type 0
AreFit signed [] = ⊥
AreFit signed (l ∷ []) = ⊥
AreFit signed (l ∷ m ∷ []) = signed ≡ false → AllByRecursion IsAboveZero (l ∷ m ∷ [])
AreFit signed (l ∷ m ∷ n ∷ more) = ⊥

fit_of : (signed : Bool) (ls : List ℤ) → length ls ≡ 2 → (signed ≡ false → AllByRecursion IsAboveZero ls) → AreFit signed ls
fit_of signed [] two h = absurd (omega (arith, two))
fit_of signed (l ∷ []) two h = absurd (omega (arith, two))
fit_of signed (l ∷ m ∷ []) two h = h
fit_of signed (l ∷ m ∷ n ∷ more) two h = absurd (omega (arith, two))

pub two_of : (signed : Bool) (ls : List ℤ) → AreFit signed ls → length ls ≡ 2
two_of signed [] h = absurd h
two_of signed (l ∷ []) h = absurd h
two_of signed (l ∷ m ∷ []) h = refl
two_of signed (l ∷ m ∷ n ∷ more) h = absurd h

above_of : (signed : Bool) (ls : List ℤ) → AreFit signed ls → signed ≡ false → AllByRecursion IsAboveZero ls
above_of signed [] h e = absurd h
above_of signed (l ∷ []) h e = absurd h
above_of signed (l ∷ m ∷ []) h e = h e
above_of signed (l ∷ m ∷ n ∷ more) h e = absurd h

limit_above : (signed : Bool) (o : Option ℤ) (old : ℤ) → signed ≡ false → IsAboveZero old → IsAboveZero (limit_or signed o old)
limit_above signed None old e h = h
limit_above true (Some l) old e h = absurd cc
limit_above false (Some l) old e h = above (not_below l)

with_fit : (b : Bounds) (g : Grid) (given : Option Triple × Option Triple) (ls : List ℤ) → AreFit b.signed ls → AreFit b.signed (with_limits b g given ls)
with_fit b g given [] h = absurd h
with_fit b g given (l ∷ []) h = absurd h
with_fit b g given (l ∷ m ∷ []) h = λ e. (limit_above b.signed (chosen_if g given.0) l e (h e).0, (limit_above b.signed (chosen_if g given.1) m e (h e).1.0, tt))
with_fit b g given (l ∷ m ∷ n ∷ more) h = absurd h

after_keeps : {V : Type 0} (P : V → Type 0) (f : Given → V → V) → ((g : Given) (v : V) → P v → P (f g v)) → (gs : List Given) (v : V) → P v → P (after f gs v)
after_keeps P f keeps [] v h = h
after_keeps P f keeps (g ∷ gs) v h = after_keeps P f keeps gs (f g v) (keeps g v h)

abbrev pub IsFit : CheckTiming → Type 0
IsFit t = AreFit (takes_lates t.kind) t.limits

pub check_fit : (c : Circuit) (sdf : Sdf) (corner : Corner) (gs : List Given) (k : Checked) → IsFit k.timing → IsFit (annotated_check c sdf corner gs k)
check_fit c sdf corner gs k h =
    after_keeps (AreFit (takes_lates k.timing.kind)) (λ g. limits_with c sdf corner g k)
    (λ g ls q. with_fit (bounds c k) (grid c sdf corner k.check.scope) (given_to c sdf.divider g k) ls q) (filter (λ g. is_for_check c sdf.divider g k) gs) k.timing.limits h

checked_fit : (ks : List Check) (ts : List CheckTiming) (ws : List CheckConditions) → AllByRecursion IsFit ts → AllByRecursion (λ k. IsFit k.timing) (checked ks ts ws)
checked_fit [] ts ws h = tt
checked_fit (k ∷ ks) [] ws h = tt
checked_fit (k ∷ ks) (t ∷ ts) [] h = tt
checked_fit (k ∷ ks) (t ∷ ts) (w ∷ ws) h = (h.0, checked_fit ks ts ws h.1)

pub settled_fit : (ts : List CheckTiming) → AllByRecursion (λ t. length t.limits ≡ 2) ts → AllByRecursion (λ t. takes_lates t.kind ≡ false → All (λ l. pos 0 ≤ℤ l) t.limits) ts → AllByRecursion IsFit ts
settled_fit [] two h = tt
settled_fit (t ∷ ts) two h = (fit_of (takes_lates t.kind) t.limits two.0 (λ e. recursion_from_All IsAboveZero t.limits (h.0 e)), settled_fit ts two.1 h.1)

pub own_fit : (c : Circuit) → IsSettled c → AllByRecursion IsFit c.check_timings
own_fit c settled =
    let ts = c.check_timings in
    settled_fit ts (recursion_from_All (λ (t : CheckTiming). length t.limits ≡ 2) ts settled.pairs) (recursion_from_All (λ (t : CheckTiming). takes_lates t.kind ≡ false → All (λ l. pos 0 ≤ℤ l) t.limits) ts settled.limits)

timings_fit : (c : Circuit) (sdf : Sdf) (corner : Corner) (gs : List Given) → IsSettled c → AllByRecursion IsFit (map (annotated_check c sdf corner gs) (all_checked c))
timings_fit c sdf corner gs settled =
    all-map IsFit (annotated_check c sdf corner gs) (all_checked c)
    (all-weaker (λ (k : Checked). IsFit k.timing) (λ k. IsFit (annotated_check c sdf corner gs k)) (all_checked c) (check_fit c sdf corner gs) (checked_fit c.checks c.check_timings c.check_conditions (own_fit c settled)))

pub annotated_settled : (from : Circuit) (sdf : Sdf) (corner : Corner) (gs : List Given) (made : Circuit) → IsSettled from → IsAdjustedFrom (annotated_by from sdf corner gs) made → IsSettled made
annotated_settled from sdf corner gs made settled a =
    let us = map (annotated_check from sdf corner gs) (all_checked from) in
    let same : made.check_timings ≡ us = ap (λ (m : Circuit). m.check_timings) a.made_is in
    let fit = timings_fit from sdf corner gs settled in
    record {
      adjusted = own_adjusted (annotated_by from sdf corner gs) made a;
      pairs = subst (All (λ (t : CheckTiming). length t.limits ≡ 2)) (sym same)
          (All-from_recursion (λ (t : CheckTiming). length t.limits ≡ 2) us (all-weaker IsFit (λ (t : CheckTiming). length t.limits ≡ 2) us (λ t h. two_of (takes_lates t.kind) t.limits h) fit));
      limits = subst (All (λ (t : CheckTiming). takes_lates t.kind ≡ false → All (λ l. pos 0 ≤ℤ l) t.limits)) (sym same)
          (All-from_recursion (λ (t : CheckTiming). takes_lates t.kind ≡ false → All (λ l. pos 0 ≤ℤ l) t.limits) us
          (all-weaker IsFit (λ (t : CheckTiming). takes_lates t.kind ≡ false → All (λ l. pos 0 ≤ℤ l) t.limits) us
          (λ t h e. All-from_recursion IsAboveZero t.limits (above_of (takes_lates t.kind) t.limits h e)) fit));
    }
