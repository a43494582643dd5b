-- What a statement means, or which of its faults is told.
use Rattle.std.proofs.Common.{ℕ, ◌≡◌, ◌++◌, ◌==◌, List, [], ◌∷◌, length, Bool, true, false, not, nat_lt, refl, sym, ap, ◌∙◌, subst, arith, Some, None, Result, Ok, Err}
use Rattle.std.specs.Prelude.{Option, is_some, flat_map, if◌then◌else◌}
use Rattle.std.proofs.lemmas.Bool.{lt-ltb, eqb-true}
use Rattle.sg_circuit.specs.Circuit.{Circuit}
use Rattle.sg_text.specs.declared.refusals.Refused.{Refused}
use Rattle.sg_time.specs.Spelling.{Number}
use Rattle.sg_stimulus.specs.Seen.{step_seen}
use Rattle.stim_read.specs.declared.kinds.StimKind.{StimKind}
use Rattle.stim_read.specs.declared.kinds.StimKind.TheVariants.{Syntax, TimeNotRising, NotWholeTick, TooLarge}
use Rattle.stim_read.specs.declared.steps.State as code_state
use Rattle.stim_read.specs.declared.steps.Meant as code_meant
use Rattle.stim_read.specs.declared.steps.Meant.TheVariants as meant
use Rattle.stim_read.specs.Sets.{Set}
use Rattle.stim_read.specs.Forms.{Form, unit_is, sets_at, ends_at, faulty_end, other}
use Rattle.stim_read.specs.Times.{Scale, is_whole, is_too_large, ticks}
use Rattle.stim_read.specs.Inputs.{all_set}
use Rattle.stim_read.specs.Faults.{fault_if, is_after, is_early, last_time, set_faults, time_faults, at_faults, end_faults, faults_of}
use Rattle.stim_read.specs.Meant.{IsLast, IsState, IsMeant, RefusesOneOf, time_ticks, is_after_ticks, is_early_ticks}
use Rattle.stim_read.proofs.TimeLaws.{before-ticks}
use Rattle.stim_read.proofs.FaultlessLaws.{is-timed}
use Rattle.stim_read.proofs.Refusals.{told, head-refused, test-refused, refused-left, refused-right, misplaced-refused, meaning-refused}

-- ---- a time alone

fine-by : (whole large : Bool) (k n byte : ℕ) → ◌≡◌ {A = Result ℕ StimKind} (if not whole then Err NotWholeTick else if large then Err TooLarge else Ok k) (Ok n)
    → (n ≡ k) × (fault_if (not whole) NotWholeTick byte ++ fault_if large TooLarge byte ≡ [])
fine-by false large k n byte e = absurd (cc)
fine-by true true k n byte e = absurd (cc)
fine-by true false k n byte e = let same : n ≡ k = cc in (same, refl)

refused-by : (whole large : Bool) (k byte : ℕ) (kind : StimKind) → ◌≡◌ {A = Result ℕ StimKind} (if not whole then Err NotWholeTick else if large then Err TooLarge else Ok k) (Err kind)
    → RefusesOneOf (fault_if (not whole) NotWholeTick byte ++ fault_if large TooLarge byte) (told kind byte)
refused-by false large k byte kind e =
    let same : NotWholeTick ≡ kind = cc in
    subst (λ x. RefusesOneOf (fault_if (not false) NotWholeTick byte ++ fault_if large TooLarge byte) (told x byte)) same (head-refused NotWholeTick byte (fault_if large TooLarge byte))
refused-by true true k byte kind e =
    let same : TooLarge ≡ kind = cc in
    subst (λ x. RefusesOneOf (fault_if (not true) NotWholeTick byte ++ fault_if true TooLarge byte) (told x byte)) same (head-refused TooLarge byte [])
refused-by true false k byte kind e = absurd (cc)

pub time-fine : (scale : Scale) (byte : ℕ) (t : Number) (n : ℕ) → time_ticks scale t ≡ Ok n → (n ≡ ticks scale t) × (time_faults scale byte t ≡ [])
time-fine scale byte t n e = fine-by (is_whole scale t) (is_too_large scale t) (ticks scale t) n byte e

pub time-refused : (scale : Scale) (byte : ℕ) (t : Number) (kind : StimKind) → time_ticks scale t ≡ Err kind → RefusesOneOf (time_faults scale byte t) (told kind byte)
time-refused scale byte t kind e = refused-by (is_whole scale t) (is_too_large scale t) (ticks scale t) byte kind e

-- ---- a time behind others

after-same : (scale : Scale) (last : Option ℕ) (o : Option Number) (t : Number) → IsLast scale last o → is_whole scale t ≡ true → is_after scale o t ≡ is_after_ticks last (ticks scale t)
after-same scale None None t h w = refl
after-same scale None (Some u) t h w = absurd h
after-same scale (Some n) None t h w = absurd h
after-same scale (Some n) (Some u) t h w = before-ticks scale u t h.1 w ∙ ap (λ k. nat_lt k (ticks scale t)) (sym h.0)

early-same : (scale : Scale) (last : Option ℕ) (o : Option Number) (t : Number) → IsLast scale last o → is_whole scale t ≡ true → is_early scale o t ≡ is_early_ticks last (ticks scale t)
early-same scale None None t h w = refl
early-same scale None (Some u) t h w = absurd h
early-same scale (Some n) None t h w = absurd h
early-same scale (Some n) (Some u) t h w = before-ticks scale t u w h.1 ∙ ap (λ k. nat_lt (ticks scale t) k) (sym h.0)

after-is : (scale : Scale) (byte : ℕ) (last : Option ℕ) (before : List Form) (t : Number) (n : ℕ) (b : Bool) → IsLast scale last (last_time before) → n ≡ ticks scale t → time_faults scale byte t ≡ [] → b ≡ is_after_ticks last n → is_after scale (last_time before) t ≡ b
after-is scale byte last before t n b h e none is = after-same scale last (last_time before) t h (is-timed scale byte t none).whole ∙ ap (is_after_ticks last) (sym e) ∙ sym is

early-is : (scale : Scale) (byte : ℕ) (last : Option ℕ) (before : List Form) (t : Number) (n : ℕ) (b : Bool) → IsLast scale last (last_time before) → n ≡ ticks scale t → time_faults scale byte t ≡ [] → b ≡ is_early_ticks last n → is_early scale (last_time before) t ≡ b
early-is scale byte last before t n b h e none is = early-same scale last (last_time before) t h (is-timed scale byte t none).whole ∙ ap (is_early_ticks last) (sym e) ∙ sym is

-- the two facts that come with ticks
abbrev pub IsTicks : Scale → ℕ → Number → ℕ → Type 0
IsTicks scale byte t n = (n ≡ ticks scale t) × (time_faults scale byte t ≡ [])

pub at-err : (scale : Scale) (byte : ℕ) (t : Number) (before : List Form) (r : Refused StimKind) → RefusesOneOf (time_faults scale byte t) r → RefusesOneOf (at_faults scale byte before t) r
at-err scale byte t before r h = refused-left (time_faults scale byte t) _ r h

pub at-late : (scale : Scale) (byte : ℕ) (last : Option ℕ) (before : List Form) (t : Number) (n : ℕ) → IsLast scale last (last_time before) → IsTicks scale byte t n → false ≡ is_after_ticks last n
    → RefusesOneOf (at_faults scale byte before t) (told TimeNotRising byte)
at-late scale byte last before t n h e is =
    refused-right (time_faults scale byte t) _ (told TimeNotRising byte)
    (test-refused (not (is_after scale (last_time before) t)) TimeNotRising byte (ap not (after-is scale byte last before t n false h e.0 e.1 is)))

pub at-fine : (scale : Scale) (byte : ℕ) (last : Option ℕ) (before : List Form) (t : Number) (n : ℕ) → IsLast scale last (last_time before) → IsTicks scale byte t n → true ≡ is_after_ticks last n
    → (n ≡ ticks scale t) × (at_faults scale byte before t ≡ [])
at-fine scale byte last before t n h e is = (e.0, rw (e.1, after-is scale byte last before t n true h e.0 e.1 is) refl)

pub end-err : (scale : Scale) (byte : ℕ) (t : Number) (before : List Form) (r : Refused StimKind) → RefusesOneOf (time_faults scale byte t) r → RefusesOneOf (end_faults scale byte before t) r
end-err scale byte t before r h = refused-left (time_faults scale byte t) _ r h

pub end-early : (scale : Scale) (byte : ℕ) (last : Option ℕ) (before : List Form) (t : Number) (n : ℕ) → IsLast scale last (last_time before) → IsTicks scale byte t n → true ≡ is_early_ticks last n
    → RefusesOneOf (end_faults scale byte before t) (told TimeNotRising byte)
end-early scale byte last before t n h e is =
    refused-right (time_faults scale byte t) _ (told TimeNotRising byte)
    (test-refused (is_early scale (last_time before) t) TimeNotRising byte (early-is scale byte last before t n true h e.0 e.1 is))

pub end-fine : (scale : Scale) (byte : ℕ) (last : Option ℕ) (before : List Form) (t : Number) (n : ℕ) → IsLast scale last (last_time before) → IsTicks scale byte t n → false ≡ is_early_ticks last n
    → (n ≡ ticks scale t) × (end_faults scale byte before t ≡ [])
end-fine scale byte last before t n h e is = (e.0, rw (e.1, early-is scale byte last before t n false h e.0 e.1 is) refl)

-- ---- a statement

not-first : (before : List Form) → (length before == 0) ≡ false → nat_lt 0 (length before) ≡ true
not-first [] e = absurd (cc)
not-first (f ∷ fs) e = lt-ltb 0 (length (f ∷ fs)) (omega arith)

first-is : (before : List Form) → (length before == 0) ≡ true → nat_lt 0 (length before) ≡ false
first-is [] e = refl
first-is (f ∷ fs) e = let none = eqb-true (length (f ∷ fs)) 0 e in absurd (omega (arith, none))

pub unit-late : (circuit : Circuit) (scale : Scale) (state : code_state.State) (before : List Form) (byte : ℕ) (power : _) → IsState scale state before → state.none ≡ false
    → RefusesOneOf (faults_of circuit scale before (record { byte = byte; form = unit_is power })) (told Syntax byte)
unit-late circuit scale state before byte power st e = misplaced-refused circuit scale before byte (unit_is power) (not-first before (sym st.first ∙ e))

pub unit-fine : (circuit : Circuit) (scale : Scale) (state : code_state.State) (before : List Form) (byte : ℕ) (power : _) → IsState scale state before → state.none ≡ true
    → IsMeant circuit scale (unit_is power) meant.Nothing × (faults_of circuit scale before (record { byte = byte; form = unit_is power }) ≡ [])
unit-fine circuit scale state before byte power st e = ((refl, refl), rw (first-is before (sym st.first ∙ e)) refl)

pub at-behind-end : (circuit : Circuit) (scale : Scale) (state : code_state.State) (before : List Form) (byte : ℕ) (t : Number) (sets : List Set) → IsState scale state before → is_some state.end ≡ true
    → RefusesOneOf (faults_of circuit scale before (record { byte = byte; form = sets_at t sets })) (told Syntax byte)
at-behind-end circuit scale state before byte t sets st e = misplaced-refused circuit scale before byte (sets_at t sets) (sym st.ended ∙ e)

pub at-time-refused : (circuit : Circuit) (scale : Scale) (before : List Form) (byte : ℕ) (t : Number) (sets : List Set) (r : Refused StimKind) → RefusesOneOf (at_faults scale byte before t) r
    → RefusesOneOf (faults_of circuit scale before (record { byte = byte; form = sets_at t sets })) r
at-time-refused circuit scale before byte t sets r h = meaning-refused circuit scale before byte (sets_at t sets) r (refused-left (at_faults scale byte before t) (flat_map (set_faults circuit byte) sets) r h)

pub at-sets-refused : (circuit : Circuit) (scale : Scale) (before : List Form) (byte : ℕ) (t : Number) (sets : List Set) (r : Refused StimKind) → RefusesOneOf (flat_map (set_faults circuit byte) sets) r
    → RefusesOneOf (faults_of circuit scale before (record { byte = byte; form = sets_at t sets })) r
at-sets-refused circuit scale before byte t sets r h = meaning-refused circuit scale before byte (sets_at t sets) r (refused-right (at_faults scale byte before t) (flat_map (set_faults circuit byte) sets) r h)

pub at-meant : (circuit : Circuit) (scale : Scale) (state : code_state.State) (before : List Form) (byte : ℕ) (t : Number) (sets : List Set) (n : ℕ) (step : _) → IsState scale state before → is_some state.end ≡ false
    → (n ≡ ticks scale t) × (at_faults scale byte before t ≡ []) → (step_seen step ≡ record { time = n; sets = all_set circuit sets }) × (flat_map (set_faults circuit byte) sets ≡ [])
    → IsMeant circuit scale (sets_at t sets) (meant.Step step) × (faults_of circuit scale before (record { byte = byte; form = sets_at t sets }) ≡ [])
at-meant circuit scale state before byte t sets n step st e times is = (
  (ap (λ s. s ∷ []) (is.0 ∙ ap (λ k. record { time = k; sets = all_set circuit sets }) times.0), refl),
  rw (sym st.ended ∙ e, times.1, is.1) refl,
)

pub end-behind-end : (circuit : Circuit) (scale : Scale) (state : code_state.State) (before : List Form) (byte : ℕ) (t : Number) → IsState scale state before → is_some state.end ≡ true
    → RefusesOneOf (faults_of circuit scale before (record { byte = byte; form = ends_at t })) (told Syntax byte)
end-behind-end circuit scale state before byte t st e = misplaced-refused circuit scale before byte (ends_at t) (sym st.ended ∙ e)

pub end-time-refused : (circuit : Circuit) (scale : Scale) (before : List Form) (byte : ℕ) (t : Number) (r : Refused StimKind) → RefusesOneOf (end_faults scale byte before t) r
    → RefusesOneOf (faults_of circuit scale before (record { byte = byte; form = ends_at t })) r
end-time-refused circuit scale before byte t r h = meaning-refused circuit scale before byte (ends_at t) r h

pub end-meant : (circuit : Circuit) (scale : Scale) (state : code_state.State) (before : List Form) (byte : ℕ) (t : Number) (n : ℕ) → IsState scale state before → is_some state.end ≡ false
    → (n ≡ ticks scale t) × (end_faults scale byte before t ≡ []) → IsMeant circuit scale (ends_at t) (meant.End n) × (faults_of circuit scale before (record { byte = byte; form = ends_at t }) ≡ [])
end-meant circuit scale state before byte t n st e times = ((refl, ap Some times.0), rw (sym st.ended ∙ e, times.1) refl)

pub other-refused : (circuit : Circuit) (scale : Scale) (before : List Form) (byte : ℕ) → RefusesOneOf (faults_of circuit scale before (record { byte = byte; form = other })) (told Syntax byte)
other-refused circuit scale before byte = misplaced-refused circuit scale before byte other refl

pub faulty-end-refused : (circuit : Circuit) (scale : Scale) (before : List Form) (byte : ℕ) → RefusesOneOf (faults_of circuit scale before (record { byte = byte; form = faulty_end })) (told Syntax byte)
faulty-end-refused circuit scale before byte = misplaced-refused circuit scale before byte faulty_end refl

-- ---- by the code's form

pub told-as : (circuit : Circuit) (scale : Scale) (before : List Form) (byte : ℕ) (one other_form : Form) (r : Refused StimKind) → one ≡ other_form → RefusesOneOf (faults_of circuit scale before (record { byte = byte; form = other_form })) r
    → RefusesOneOf (faults_of circuit scale before (record { byte = byte; form = one })) r
told-as circuit scale before byte one other_form r e h = subst (λ f. RefusesOneOf (faults_of circuit scale before (record { byte = byte; form = f })) r) (sym e) h

pub meant-as : (circuit : Circuit) (scale : Scale) (before : List Form) (byte : ℕ) (one other_form : Form) (m : code_meant.Meant) → one ≡ other_form
    → IsMeant circuit scale other_form m × (faults_of circuit scale before (record { byte = byte; form = other_form }) ≡ []) → IsMeant circuit scale one m × (faults_of circuit scale before (record { byte = byte; form = one }) ≡ [])
meant-as circuit scale before byte one other_form m e h =
    subst (λ f. IsMeant circuit scale f m × (faults_of circuit scale before (record { byte = byte; form = f }) ≡ [])) (sym e) h
