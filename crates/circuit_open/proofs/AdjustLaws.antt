-- A circuit in which the delays of an adjustment are set, one after another.
use Rattle.std.specs.Prelude.{◌≡◌, ◌≢◌, ◌⊎◌, ℕ, ◌+◌, ◌<◌, ◌≤◌, Bool, true, false, All, List, [], ◌∷◌, None, drop, length, map, slice_index_or, refl}
use Rattle.std.proofs.Common.{sym, ◌∙◌, ap, subst, inl, inr}
use Rattle.std.proofs.lemmas.Bool.{cases_eq}
use Rattle.std.proofs.lemmas.List.{drop_all, drop_more, get_or-map, get_or_default, length-map, same_lists}
use Rattle.std.proofs.lemmas.List.Elements.{All-weaker}
use Rattle.sg_circuit.specs.Circuit.{Circuit, Element, Kind, Gate, Udp, Pass, Leg, Path, Late, element_at}
use Rattle.sg_circuit.specs.Closed.{IsClosed, IsLate, IsZeroOf}
use Rattle.late_limits.specs.declared.adjusting.Adjustment.{Adjustment}
use Rattle.late_limits.specs.declared.adjusting.LateDelay.{LateDelay}
use Rattle.late_limits.specs.Adjusted.{late_delay, late_element, late_kind, IsAdjustedFrom}
use Rattle.late_limits.specs.Adjustments.{is_late, IsAdjustmentOf}
use Rattle.late_limits.proofs.AdjustmentLaws.{adjustment-delays, adjustment-every, adjustment-zeroes, all-in, IsDelayOf, IsIn}
use Rattle.circuit_open.specs.Open.{changed_at, with_kind, with_zeroed}
use Rattle.circuit_open.proofs.ChangeLaws.{here-at, length-changed, other-at, stays-at}

abbrev pub set_delay : LateDelay → List Element → List Element
set_delay d es = changed_at (λ (x : Element). record x { kind = late_kind d.delay x.kind }) d.element es

abbrev pub set_delays : List LateDelay → List Element → List Element
set_delays [] es = es
set_delays (d ∷ ds) es = set_delays ds (set_delay d es)

abbrev pub with_delays : List LateDelay → Circuit → Circuit
with_delays ds c = record c { elements = set_delays ds c.elements }

-- ---- what comes of an element

data DelaySet (ds : List LateDelay) (es : List Element) (i : ℕ) (e : Element) : Type 0 where
  none : ((d : LateDelay) → IsIn d ds → d.element ≢ i) → slice_index_or (set_delays ds es) i e ≡ slice_index_or es i e → DelaySet ds es i e
  some : (d : LateDelay) → IsIn d ds → d.element ≡ i → slice_index_or (set_delays ds es) i e ≡ record (slice_index_or es i e) { kind = late_kind d.delay (slice_index_or es i e).kind } → DelaySet ds es i e

length-set_delays : (ds : List LateDelay) (es : List Element) → length (set_delays ds es) ≡ length es
length-set_delays [] es = refl
length-set_delays (d ∷ ds) es = length-set_delays ds (set_delay d es) ∙ length-changed (λ (x : Element). record x { kind = late_kind d.delay x.kind }) d.element es

late-again : (a b : ℕ) (k : Kind) → late_kind a (late_kind b k) ≡ late_kind a k
late-again a b (Gate kind delays) = refl
late-again a b (Udp primitive first delays) = refl
late-again a b (Pass constant) = refl
late-again a b (Leg timings) = refl
late-again a b (Path paths style) = refl
late-again a b (Late delay) = refl

delay-set : (ds : List LateDelay) (es : List Element) (i : ℕ) (e : Element) → i < length es → DelaySet ds es i e
delay-set [] es i e l = none (λ d h. absurd h) refl
delay-set (d ∷ ds) es i e l = by (cases_eq d.element i) (delay-set ds (set_delay d es) i e (subst (λ n. i < n) (sym (length-changed change d.element es)) l))
  where
    change : Element → Element
    change x = record x { kind = late_kind d.delay x.kind }

    here : d.element ≡ i → slice_index_or (set_delay d es) i e ≡ change (slice_index_or es i e)
    here s = ap (λ k. slice_index_or (changed_at change k es) i e) s ∙ here-at change i es e l

    there : d.element ≢ i → slice_index_or (set_delay d es) i e ≡ slice_index_or es i e
    there n = other-at change d.element es i e (λ q. n (sym q))

    by : (d.element ≡ i) ⊎ (d.element ≢ i) → DelaySet ds (set_delay d es) i e → DelaySet (d ∷ ds) es i e
    by (inl s) (none away same) = some d (inl refl) s (same ∙ here s)
    by (inr n) (none away same) = none (λ x h. elim h [ inl q ↦ subst (λ (y : LateDelay). y.element ≢ i) q n | inr r ↦ away x r ]) (same ∙ there n)
    by (inl s) (some x h at same) =
        some x (inr h) at (same ∙ (ap {B = Element} (λ (y : Element). record y { kind = late_kind x.delay y.kind }) (here s)
        ∙ ap {B = Element} (λ k. record (slice_index_or es i e) { kind = k }) (late-again x.delay d.delay (slice_index_or es i e).kind)))
    by (inr n) (some x h at same) = some x (inr h) at (same ∙ ap {B = Element} (λ (y : Element). record y { kind = late_kind x.delay y.kind }) (there n))

-- so all delays are set
never-late : (delay : ℕ) (k : Kind) → is_late k ≡ false → k ≡ late_kind delay k
never-late delay (Gate kind delays) h = refl
never-late delay (Udp primitive first delays) h = refl
never-late delay (Pass constant) h = refl
never-late delay (Leg timings) h = refl
never-late delay (Path paths style) h = refl
never-late delay (Late before) h = absurd (cc)

all-set : (c : Circuit) (a : Adjustment) (h : IsAdjustmentOf c a) → IsClosed c → set_delays a.delays.items c.elements ≡ map (late_element c h.delays) c.elements
all-set c a h closed =
    same_lists (set_delays a.delays.items c.elements) (map (late_element c h.delays) c.elements)
    (length-set_delays a.delays.items c.elements ∙ sym (length-map c.elements (late_element c h.delays)))
    (λ i d l. (let m : i < length c.elements = subst (λ n. i < n) (length-set_delays a.delays.items c.elements) l in by i d m (delay-set a.delays.items c.elements i d m)))
  where
    mapped : (i : ℕ) (d : Element) → i < length c.elements → slice_index_or (map (late_element c h.delays) c.elements) i d ≡ late_element c h.delays (slice_index_or c.elements i d)
    mapped i d m = get_or-map (late_element c h.delays) c.elements i d d m

    by : (i : ℕ) (d : Element) → i < length c.elements → DelaySet a.delays.items c.elements i d → slice_index_or (set_delays a.delays.items c.elements) i d ≡ slice_index_or (map (late_element c h.delays) c.elements) i d
    by i d m (none away same) =
        let e : Element = slice_index_or c.elements i d in
        let at : element_at c i ≡ e = get_or_default c.elements i _ d m in
        let never : is_late e.kind ≡ false = not-late (is_late e.kind)
        (λ late. away _ (adjustment-every c a h closed i m (ap (λ (x : Element). is_late x.kind) at ∙ late)) refl) in
        same ∙ (ap {B = Element} (λ k. record e { kind = k }) (never-late (late_delay c h.delays e) e.kind never) ∙ sym (mapped i d m))
      where
        not-late : (b : Bool) → (b ≡ true → ⊥) → b ≡ false
        not-late true f = absurd (f refl)
        not-late false f = refl
    by i d m (some x own at same) =
        let e : Element = slice_index_or c.elements i d in
        let fits : IsDelayOf c h.delays x = all-in (IsDelayOf c h.delays) x a.delays.items (adjustment-delays c a h) own in
        let value : x.delay ≡ late_delay c h.delays e = fits.delay ∙ ap (late_delay c h.delays) (ap (element_at c) at ∙ get_or_default c.elements i _ d m) in
        same ∙ (ap {B = Element} (λ n. record e { kind = late_kind n e.kind }) value ∙ sym (mapped i d m))

-- ---- as they are set

pub record IsLateAt (c : Circuit) (e : ℕ) : Type 0 where
  pub there : e < length c.elements
  pub late : IsLate (element_at c e).kind

is-late : (k : Kind) → is_late k ≡ true → IsLate k
is-late (Gate kind delays) h = absurd (cc)
is-late (Udp primitive first delays) h = absurd (cc)
is-late (Pass constant) h = absurd (cc)
is-late (Leg timings) h = absurd (cc)
is-late (Path paths style) h = absurd (cc)
is-late (Late delay) h = tt

pub lates-first : (c : Circuit) (a : Adjustment) → IsAdjustmentOf c a → All (λ (d : LateDelay). IsLateAt c d.element) a.delays.items
lates-first c a h =
    All-weaker (IsDelayOf c h.delays) (λ (d : LateDelay). IsLateAt c d.element) (λ d f. record { there = f.there; late = is-late (element_at c d.element).kind f.late }) a.delays.items (adjustment-delays c a h)

late-stays : (delay : ℕ) (k : Kind) → IsLate k → IsLate (late_kind delay k)
late-stays delay (Gate kind delays) h = absurd h
late-stays delay (Udp primitive first delays) h = absurd h
late-stays delay (Pass constant) h = absurd h
late-stays delay (Leg timings) h = absurd h
late-stays delay (Path paths style) h = absurd h
late-stays delay (Late before) h = tt

pub lates-more : (c : Circuit) (ds : List LateDelay) (e delay : ℕ) → All (λ (d : LateDelay). IsLateAt c d.element) ds → All (λ (d : LateDelay). IsLateAt (with_kind (late_kind delay) e c) d.element) ds
lates-more c ds e delay =
    All-weaker (λ (d : LateDelay). IsLateAt c d.element) (λ (d : LateDelay). IsLateAt (with_kind (late_kind delay) e c) d.element)
    (λ d h. record {
      there = subst (λ n. d.element < n) (sym (length-changed change e c.elements)) h.there;
      late = stays-at (λ (x : Element). IsLate x.kind) change (λ x. late-stays delay x.kind) e c.elements d.element (record { scope = 0; inputs = []; output = 0; kind = Pass None }) h.late;
    }) ds
  where
    change : Element → Element
    change x = record x { kind = late_kind delay x.kind }

pub delays-more : (now next start : Circuit) (ds : List LateDelay) (i : ℕ) (d : LateDelay) → i < length ds → next ≡ with_kind (late_kind (slice_index_or ds i d).delay) (slice_index_or ds i d).element now
    → with_delays (drop i ds) now ≡ with_delays ds start → with_delays (drop (i + 1) ds) next ≡ with_delays ds start
delays-more now next start ds i d l e h = ap (with_delays (drop (i + 1) ds)) e ∙ (ap (λ xs. with_delays xs now) (sym (drop_more ds i d l)) ∙ h)

pub delays-end : (now start : Circuit) (ds : List LateDelay) (i : ℕ) → length ds ≤ i → with_delays (drop i ds) now ≡ with_delays ds start → now ≡ with_delays ds start
delays-end now start ds i l h = ap (λ xs. with_delays xs now) (sym (drop_all i ds l)) ∙ h

pub zeroes-then : (now start : Circuit) (a : Adjustment) → IsAdjustmentOf start a → IsClosed start → now ≡ with_delays a.delays.items start → All (IsZeroOf now) a.zeroed.items
zeroes-then now start a h closed e =
    subst (λ c. All (IsZeroOf c) a.zeroed.items) (sym e)
    (All-weaker (IsZeroOf start) (IsZeroOf (with_delays a.delays.items start)) (λ z d. record { check = d.check; late = d.late; part = d.part }) a.zeroed.items (adjustment-zeroes start a h closed))

pub adjusted-then : (now start : Circuit) (a : Adjustment) → IsAdjustmentOf start a → IsClosed start → now ≡ with_delays a.delays.items start → IsAdjustedFrom start (with_zeroed a.zeroed.items now)
adjusted-then now start a h closed e = record {
  zeroed = h.zeroed;
  delays = h.delays;
  are = h.are;
  made_is = ap (with_zeroed a.zeroed.items) e
      ∙ (ap {B = Circuit} (λ es. record start { elements = es; zeroed = a.zeroed.items }) (all-set start a h closed) ∙ ap {B = Circuit} (λ zs. record start { elements = map (late_element start h.delays) start.elements; zeroed = zs }) h.zeroed_are);
}
