-- Steps are begun, put to, and closed at a later time.
use Rattle.std.specs.Prelude.{ℕ, ◌+◌, ◌/◌, ◌≡◌, ◌<◌, ◌≤◌, List, [], ◌∷◌, ◌++◌, map, refl}
use Rattle.std.proofs.Common.{inl, inr, sym, ◌∙◌, ap, subst, arith}
use Rattle.std.proofs.lemmas.Bool.{cases_lt}
use Rattle.std.proofs.Math.Nat.{zero-div}
use Rattle.std.proofs.lemmas.List.{append_assoc, append-nil, map-append}
use Rattle.sg_stimulus.specs.Seen.{step_seen}
use Rattle.vcd_model.specs.Stimulus.{steps_of}
use Rattle.vcd_model.specs.Values.{denominator, numerator, ticks, Given, Scale}
use Rattle.vcd_stim.specs.Meant.{IsMoment}
use Rattle.vcd_stim.specs.Steps.{pairs, put_all, step_of, Each, HasSteps}
use Rattle.vcd_stim.specs.declared.steps.Steps.{Steps}
use Rattle.vcd_stim.specs.declared.clock.Moment.{Moment}
use Rattle.vcd_stim.proofs.Lists.{each-append, each-weaker}
use Rattle.vcd_stim.proofs.PutLaws.{put_append}
use Rattle.vcd_stim.proofs.StepLaws.{close-step}

no-ticks : (scale : Scale) → 0 ≡ ticks scale 0
no-ticks scale = sym (ap (λ n. n / denominator scale) (zero-times (numerator scale 1)) ∙ zero-div (denominator scale))
  where
    zero-times : (n : ℕ) → numerator scale 0 ≡ 0
    zero-times n = omega arith

pub at-start : (scale : Scale) (n : ℕ) (s : Steps) → s.moment ≡ record { number = 0; ticks = 0 } → s.open_sets.entries ≡ [] → s.closed.items ≡ [] → HasSteps scale n [] 0 s
at-start scale n s m o c = record {
  closed = [];
  opened = [];
  split = refl;
  past = tt;
  present = tt;
  moment = subst (λ x. IsMoment scale 0 x) (sym m) (record { number_is = refl; ticks_are = no-ticks scale });
  open_is = o;
  closed_is = ap (map (λ x. step_seen x)) c;
}

pairs-append : (gs hs : List Given) → pairs (gs ++ hs) ≡ pairs gs ++ pairs hs
pairs-append gs hs = map-append (λ g. (g.net, g.value)) gs hs

-- values of the time that it is
pub with-values : (scale : Scale) (n now : ℕ) (gs vs : List Given) (old new : Steps) → HasSteps scale n gs now old → Each (λ g. g.time ≡ now) vs
    → new.moment ≡ old.moment → new.closed ≡ old.closed → new.open_sets.entries ≡ put_all old.open_sets.entries (pairs vs) → HasSteps scale n (gs ++ vs) now new
with-values scale n now gs vs old new h times m c o = record {
  closed = h.closed;
  opened = h.opened ++ vs;
  split = ap (λ l. l ++ vs) h.split ∙ append_assoc h.closed h.opened vs;
  past = h.past;
  present = each-append (λ g. g.time ≡ now) h.opened vs h.present times;
  moment = subst (λ x. IsMoment scale now x) (sym m) h.moment;
  open_is = o ∙ ap (λ es. put_all es (pairs vs)) h.open_is ∙ sym (put_append [] (pairs h.opened) (pairs vs)) ∙ ap (put_all []) (sym (pairs-append h.opened vs));
  closed_is = ap (λ v. map (λ x. step_seen x) v.items) c ∙ h.closed_is;
}

-- all steps, once the last is closed
pub all-closed : (scale : Scale) (n now : ℕ) (gs : List Given) (s : Steps) → HasSteps scale n gs now s → Each (λ g. g.net < n) gs
    → map (λ x. step_seen x) s.closed.items ++ step_of s.moment.ticks s.open_sets.entries ≡ steps_of scale n gs
all-closed scale n now gs s h few =
    ap (λ l. l ++ step_of s.moment.ticks s.open_sets.entries) h.closed_is
    ∙ ap (λ t. steps_of scale n h.closed ++ step_of t s.open_sets.entries) h.moment.ticks_are
    ∙ ap (λ es. steps_of scale n h.closed ++ step_of (ticks scale now) es) h.open_is
    ∙ sym (close-step scale n now h.closed h.opened h.past h.present (back h.closed h.opened (subst (λ l. Each (λ g. g.net < n) l) h.split few)))
    ∙ ap (steps_of scale n) (sym h.split)
  where
    back : (xs ys : List Given) → Each (λ g. g.net < n) (xs ++ ys) → Each (λ g. g.net < n) ys
    back [] ys k = k
    back (x ∷ xs) ys k = back xs ys k.1

-- a later time
pub at-later : (scale : Scale) (n now later : ℕ) (gs : List Given) (old new : Steps) → HasSteps scale n gs now old → Each (λ g. g.net < n) gs → now < later
    → IsMoment scale later new.moment → new.open_sets.entries ≡ [] → map (λ x. step_seen x) new.closed.items ≡ map (λ x. step_seen x) old.closed.items ++ step_of old.moment.ticks old.open_sets.entries
    → HasSteps scale n gs later new
at-later scale n now later gs old new h few lt m o c = record {
  closed = gs;
  opened = [];
  split = sym (append-nil gs);
  past = subst (λ l. Each (λ g. g.time < later) l) (sym h.split) (each-append (λ g. g.time < later) h.closed h.opened (each-weaker (λ g. g.time < now) (λ g. g.time < later) (λ g k. omega (arith, k, lt)) h.closed h.past)
      (each-weaker (λ g. g.time ≡ now) (λ g. g.time < later) (λ g k. omega (arith, k, lt)) h.opened h.present));
  present = tt;
  moment = m;
  open_is = o;
  closed_is = c ∙ all-closed scale n now gs old h few;
}

-- a time comes that is the same, or a later one
pub same-time : (scale : Scale) (n now later : ℕ) (gs : List Given) (s : Steps) (m : Moment) → HasSteps scale n gs now s → IsMoment scale later m → m.number ≡ s.moment.number → HasSteps scale n gs later s
same-time scale n now later gs s m h k e = subst (λ t. HasSteps scale n gs t s) (sym h.moment.number_is ∙ sym e ∙ k.number_is) h

pub new-time : (scale : Scale) (n now later : ℕ) (gs : List Given) (old new : Steps) → HasSteps scale n gs now old → Each (λ g. g.net < n) gs → IsMoment scale later new.moment → now ≤ later → (new.moment.number ≡ old.moment.number → ⊥)
    → new.open_sets.entries ≡ [] → map (λ x. step_seen x) new.closed.items ≡ map (λ x. step_seen x) old.closed.items ++ step_of old.moment.ticks old.open_sets.entries → HasSteps scale n gs later new
new-time scale n now later gs old new h few k le other o c = elim (cases_lt now later) [
  | inl lt ↦ at-later scale n now later gs old new h few lt k o c
  | inr ge ↦ absurd (other (k.number_is ∙ same ge ∙ sym h.moment.number_is))
]
  where
    same : later ≤ now → later ≡ now
    same ge = omega (arith, ge, le)
