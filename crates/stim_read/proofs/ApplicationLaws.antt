-- What a text says of a circuit can be applied to it.
use Rattle.std.proofs.Common.{ℕ, ◌≡◌, ◌++◌, ◌<◌, ◌≤◌, ◌^◌, List, [], ◌∷◌, true, false, refl, sym, ap, ◌∙◌, subst, arith, Some, None}
use Rattle.std.specs.Prelude.{Option, All, filter_map, flat_map, slice_index_or}
use Rattle.std.specs.List.{list_any}
use Rattle.std.proofs.lemmas.Bool.{ltb-true, ltb-false}
use Rattle.std.proofs.lemmas.List.Elements.{All-nil, All-cons, All-head, All-append}
use Rattle.sg_circuit.specs.Circuit.{Circuit}
use Rattle.sg_time.specs.Spelling.{Number}
use Rattle.sg_stimulus.specs.Stimulus.{Step}
use Rattle.sg_stimulus.specs.Applied.{IsApplied, IsBefore, IsInput, StepsRise, SetsOnce}
use Rattle.stim_read.specs.Forms.{Form, unit_is, sets_at, ends_at, faulty_end, other, Stated}
use Rattle.stim_read.specs.Times.{Scale, is_whole, is_before, ticks}
use Rattle.stim_read.specs.Inputs.{bits_set}
use Rattle.stim_read.specs.Faults.{is_end, is_after, is_early, last_time, faults_of, faults_behind, scale_of}
use Rattle.stim_read.specs.Reading.{form_steps, form_end, steps_at, end_at, stimulus_stated}
use Rattle.stim_read.proofs.TimeLaws.{before-ticks, ticks-below}
use Rattle.stim_read.proofs.FaultlessLaws.{no-left, no-right, IsFineAt, IsFineEnd, is-fine-at, is-fine-end, no-other, no-faulty-end, nothing-behind-end}
use Rattle.stim_read.proofs.InputLaws.{last-once, all-input}

abbrev pub ends : Scale → List Stated → List ℕ
ends scale ss = filter_map (λ s. form_end scale s.form) ss

-- ---- times rise

after-last : (scale : Scale) (o : Option Number) (t u : Number) → is_after scale o t ≡ true → o ≡ Some u → is_before scale u t ≡ true
after-last scale None t u h e = absurd (cc)
after-last scale (Some v) t u h e = let same : v ≡ u = cc in ap (λ x. is_before scale x t) (sym same) ∙ h

ticks-after : (scale : Scale) (before : List Form) (t u : Number) → IsFineAt scale before t → last_time before ≡ Some u → is_whole scale u ≡ true → ticks scale u < ticks scale t
ticks-after scale before t u fine e w =
    ltb-true (ticks scale u) (ticks scale t) (sym (before-ticks scale u t w fine.timed.whole) ∙ after-last scale (last_time before) t u fine.after e)

early-last : (scale : Scale) (o : Option Number) (t u : Number) → is_early scale o t ≡ false → o ≡ Some u → is_before scale t u ≡ false
early-last scale None t u h e = absurd (cc)
early-last scale (Some v) t u h e = let same : v ≡ u = cc in ap (is_before scale t) (sym same) ∙ h

ticks-not-after : (scale : Scale) (before : List Form) (t u : Number) → IsFineEnd scale before t → last_time before ≡ Some u → is_whole scale u ≡ true → ticks scale u ≤ ticks scale t
ticks-not-after scale before t u fine e w =
    ltb-false (ticks scale t) (ticks scale u) (sym (before-ticks scale t u fine.timed.whole w) ∙ early-last scale (last_time before) t u fine.late e)

abbrev pub RisesBehind : Scale → List Form → List Step → Type 0
RisesBehind scale before steps = StepsRise steps × ((u : Number) → last_time before ≡ Some u → is_whole scale u ≡ true → IsBefore (ticks scale u) steps)

rises-form : (circuit : Circuit) (scale : Scale) (before : List Form) (byte : ℕ) (form : Form) (more : List Step) → faults_of circuit scale before (record { byte = byte; form = form }) ≡ [] → RisesBehind scale (form ∷ before) more → RisesBehind scale before (form_steps circuit scale form ++ more)
rises-form circuit scale before byte (unit_is p) more h r = r
rises-form circuit scale before byte (sets_at t sets) more h r =
    let fine = is-fine-at circuit scale before byte t sets h in
    ((r.1 t refl fine.timed.whole, r.0), λ u e w. ticks-after scale before t u fine e w)
rises-form circuit scale before byte (ends_at t) more h r = r
rises-form circuit scale before byte faulty_end more h r = absurd (no-faulty-end circuit scale before byte h)
rises-form circuit scale before byte other more h r = absurd (no-other circuit scale before byte h)

rises : (circuit : Circuit) (scale : Scale) (before : List Form) (ss : List Stated) → faults_behind circuit scale before ss ≡ [] → RisesBehind scale before (steps_at circuit scale ss)
rises circuit scale before [] h = (tt, λ u e w. tt)
rises circuit scale before (s ∷ ss) h = rises-form circuit scale before s.byte s.form (steps_at circuit scale ss) (no-left _ _ h) (rises circuit scale (s.form ∷ before) ss (no-right _ _ h))

-- ---- no time is above the end's

abbrev pub KeepsTo : Scale → List Form → List Step → ℕ → Type 0
KeepsTo scale before steps n = All (λ s. s.time ≤ n) steps × ((u : Number) → last_time before ≡ Some u → is_whole scale u ≡ true → ticks scale u ≤ n)

keeps-at-end : (circuit : Circuit) (scale : Scale) (before : List Form) (t : Number) (ss : List Stated) (n : ℕ) (more : List ℕ) → IsFineEnd scale before t → ss ≡ [] → ticks scale t ∷ ends scale ss ≡ n ∷ more → KeepsTo scale before (steps_at circuit scale ss) n
keeps-at-end circuit scale before t ss n more fine none e =
    let same : ticks scale t ≡ n = cc in (
      subst (λ l. All (λ s. s.time ≤ n) (steps_at circuit scale l)) (sym none) (All-nil (λ s. s.time ≤ n)),
      λ u k w. subst (λ m. ticks scale u ≤ m) same (ticks-not-after scale before t u fine k w),
    )

keeps-form : (circuit : Circuit) (scale : Scale) (before : List Form) (byte : ℕ) (form : Form) (ss : List Stated) (n : ℕ) (more : List ℕ)
    → faults_of circuit scale before (record { byte = byte; form = form }) ≡ [] → (list_any is_end (form ∷ before) ≡ true → ss ≡ [])
    → ((more : List ℕ) → ends scale ss ≡ n ∷ more → KeepsTo scale (form ∷ before) (steps_at circuit scale ss) n)
    → ends scale (record { byte = byte; form = form } ∷ ss) ≡ n ∷ more → KeepsTo scale before (form_steps circuit scale form ++ steps_at circuit scale ss) n
keeps-form circuit scale before byte (unit_is p) ss n more h none rest e = rest more e
keeps-form circuit scale before byte (sets_at t sets) ss n more h none rest e =
    let fine = is-fine-at circuit scale before byte t sets h in
    let kept = rest more e in (
      All-cons (λ s. s.time ≤ n) _ (steps_at circuit scale ss) (kept.1 t refl fine.timed.whole) kept.0,
      λ u k w. let below = ticks-after scale before t u fine k w in let last = kept.1 t refl fine.timed.whole in omega (arith, below, last),
    )
keeps-form circuit scale before byte (ends_at t) ss n more h none rest e = keeps-at-end circuit scale before t ss n more (is-fine-end circuit scale before byte t h) (none refl) e
keeps-form circuit scale before byte faulty_end ss n more h none rest e = absurd (no-faulty-end circuit scale before byte h)
keeps-form circuit scale before byte other ss n more h none rest e = absurd (no-other circuit scale before byte h)

keeps : (circuit : Circuit) (scale : Scale) (before : List Form) (ss : List Stated) (n : ℕ) (more : List ℕ) → faults_behind circuit scale before ss ≡ [] → ends scale ss ≡ n ∷ more → KeepsTo scale before (steps_at circuit scale ss) n
keeps circuit scale before [] n more h e = absurd (cc)
keeps circuit scale before (s ∷ ss) n more h e =
    keeps-form circuit scale before s.byte s.form ss n more (no-left _ _ h) (λ end. nothing-behind-end circuit scale (s.form ∷ before) ss end (no-right _ _ h))
    (λ others k. keeps circuit scale (s.form ∷ before) ss n others (no-right _ _ h) k) e

-- ---- the end is below 2 ^ 60

below-form : (circuit : Circuit) (scale : Scale) (before : List Form) (byte : ℕ) (form : Form) (ss : List Stated) → faults_of circuit scale before (record { byte = byte; form = form }) ≡ [] → All (λ n. n < 2 ^ 60) (ends scale ss)
    → All (λ n. n < 2 ^ 60) (ends scale (record { byte = byte; form = form } ∷ ss))
below-form circuit scale before byte (unit_is p) ss h rest = rest
below-form circuit scale before byte (sets_at t sets) ss h rest = rest
below-form circuit scale before byte (ends_at t) ss h rest =
    All-cons (λ n. n < 2 ^ 60) (ticks scale t) (ends scale ss) (ticks-below scale t (is-fine-end circuit scale before byte t h).timed.small) rest
below-form circuit scale before byte faulty_end ss h rest = rest
below-form circuit scale before byte other ss h rest = rest

ends-below : (circuit : Circuit) (scale : Scale) (before : List Form) (ss : List Stated) → faults_behind circuit scale before ss ≡ [] → All (λ n. n < 2 ^ 60) (ends scale ss)
ends-below circuit scale before [] h = All-nil (λ n. n < 2 ^ 60)
ends-below circuit scale before (s ∷ ss) h = below-form circuit scale before s.byte s.form ss (no-left _ _ h) (ends-below circuit scale (s.form ∷ before) ss (no-right _ _ h))

-- ---- the sets of each step

once-form : (circuit : Circuit) (scale : Scale) (form : Form) → All (λ s. SetsOnce s.sets) (form_steps circuit scale form)
once-form circuit scale (unit_is p) = All-nil (λ s. SetsOnce s.sets)
once-form circuit scale (sets_at t sets) = All-cons (λ s. SetsOnce s.sets) _ [] (last-once (flat_map (bits_set circuit) sets)) (All-nil (λ s. SetsOnce s.sets))
once-form circuit scale (ends_at t) = All-nil (λ s. SetsOnce s.sets)
once-form circuit scale faulty_end = All-nil (λ s. SetsOnce s.sets)
once-form circuit scale other = All-nil (λ s. SetsOnce s.sets)

once : (circuit : Circuit) (scale : Scale) (ss : List Stated) → All (λ s. SetsOnce s.sets) (steps_at circuit scale ss)
once circuit scale [] = All-nil (λ s. SetsOnce s.sets)
once circuit scale (s ∷ ss) = All-append (λ s. SetsOnce s.sets) (form_steps circuit scale s.form) (steps_at circuit scale ss) (once-form circuit scale s.form) (once circuit scale ss)

abbrev pub SetsInputs : Circuit → Step → Type 0
SetsInputs circuit s = All (λ c. IsInput circuit c.0) s.sets

inputs-form : (circuit : Circuit) (scale : Scale) (form : Form) → All (SetsInputs circuit) (form_steps circuit scale form)
inputs-form circuit scale (unit_is p) = All-nil (SetsInputs circuit)
inputs-form circuit scale (sets_at t sets) = All-cons (SetsInputs circuit) _ [] (all-input circuit sets) (All-nil (SetsInputs circuit))
inputs-form circuit scale (ends_at t) = All-nil (SetsInputs circuit)
inputs-form circuit scale faulty_end = All-nil (SetsInputs circuit)
inputs-form circuit scale other = All-nil (SetsInputs circuit)

inputs : (circuit : Circuit) (scale : Scale) (ss : List Stated) → All (SetsInputs circuit) (steps_at circuit scale ss)
inputs circuit scale [] = All-nil (SetsInputs circuit)
inputs circuit scale (s ∷ ss) = All-append (SetsInputs circuit) (form_steps circuit scale s.form) (steps_at circuit scale ss) (inputs-form circuit scale s.form) (inputs circuit scale ss)

-- ---- all of these

applied-at : (circuit : Circuit) (scale : Scale) (ss : List Stated) (n : ℕ) (more : List ℕ) → faults_behind circuit scale [] ss ≡ [] → ends scale ss ≡ n ∷ more
    → IsApplied circuit (record { steps = steps_at circuit scale ss; end = n })
applied-at circuit scale ss n more h e = record {
  rising = (rises circuit scale [] ss h).0;
  within = (keeps circuit scale [] ss n more h e).0;
  fits = All-head (λ k. k < 2 ^ 60) n more (subst (λ l. All (λ k. k < 2 ^ 60) l) e (ends-below circuit scale [] ss h));
  once = once circuit scale ss;
  inputs = inputs circuit scale ss;
}

pub stated-applies : (circuit : Circuit) (ss : List Stated) (n : ℕ) (more : List ℕ) → faults_behind circuit (scale_of circuit ss) [] ss ≡ [] → ends (scale_of circuit ss) ss ≡ n ∷ more → IsApplied circuit (stimulus_stated circuit ss)
stated-applies circuit ss n more h e =
    let same : n ≡ end_at (scale_of circuit ss) ss = sym (ap (λ l. slice_index_or l 0 0) e) in
    subst (λ k. IsApplied circuit (record { steps = steps_at circuit (scale_of circuit ss) ss; end = k })) same (applied-at circuit (scale_of circuit ss) ss n more h e)
