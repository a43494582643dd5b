-- What is known of the statements so far, and one more.
use Rattle.std.proofs.Common.{ℕ, ◌≡◌, ◌++◌, ◌==◌, List, [], ◌∷◌, length, true, false, refl, sym, ap, ◌∙◌, subst, arith, Some, None}
use Rattle.std.specs.Prelude.{Option, is_some, filter_map, option_to_list}
use Rattle.std.proofs.lemmas.Bool.{ne_eqb}
use Rattle.std.proofs.lemmas.List.{append_assoc, append-nil}
use Rattle.sg_circuit.specs.Circuit.{Circuit}
use Rattle.sg_text.specs.declared.refusals.Refused.{Refused}
use Rattle.sg_time.specs.Spelling.{Number}
use Rattle.sg_stimulus.specs.Stimulus.{Step}
use Rattle.sg_stimulus.specs.Seen.{step_seen}
use Rattle.stim_read.specs.declared.kinds.StimKind.{StimKind}
use Rattle.stim_read.specs.declared.steps.State as code_state
use Rattle.stim_read.specs.declared.steps.Meant as code_meant
use Rattle.stim_read.specs.declared.steps.Meant.TheVariants as meant
use Rattle.stim_read.specs.Sets.{Set}
use Rattle.stim_read.specs.Forms.{Form, unit_is, sets_at, ends_at, faulty_end, other, Stated}
use Rattle.stim_read.specs.Times.{Scale, ticks}
use Rattle.stim_read.specs.Inputs.{all_set}
use Rattle.stim_read.specs.Faults.{faults_of, faults_behind}
use Rattle.stim_read.specs.Reading.{form_steps, form_end, steps_at}
use Rattle.stim_read.specs.Meant.{IsState, IsMeant, IsAllRead, Reached, RefusesOneOf, meant_steps, meant_end, state_after}
use Rattle.stim_read.proofs.FaultlessLaws.{is-fine-at, is-fine-end, no-other, no-faulty-end}
use Rattle.stim_read.proofs.Refusals.{refused-left}

not-none : (f : Form) (fs : List Form) → false ≡ (length (f ∷ fs) == 0)
not-none f fs = sym (ne_eqb (length (f ∷ fs)) 0 (λ e. omega (arith, e)))

state-at : (circuit : Circuit) (scale : Scale) (state : code_state.State) (before : List Form) (byte : ℕ) (t : Number) (sets : List Set) (m : code_meant.Meant) → IsState scale state before → IsMeant circuit scale (sets_at t sets) m
    → faults_of circuit scale before (record { byte = byte; form = sets_at t sets }) ≡ [] → IsState scale (state_after m state) (sets_at t sets ∷ before)
state-at circuit scale state before byte t sets meant.Nothing st is h = let e = is.0 in absurd (cc)
state-at circuit scale state before byte t sets (meant.Step step) st is h =
    let e = is.0 in
    let same : step_seen step ≡ record { time = ticks scale t; sets = all_set circuit sets } = cc in
    record { first = not-none (sets_at t sets) before; ended = st.ended; times = (ap (λ (s : Step). s.time) same, (is-fine-at circuit scale before byte t sets h).timed.whole) }
state-at circuit scale state before byte t sets (meant.End n) st is h = let e = is.0 in absurd (cc)

state-unit : (circuit : Circuit) (scale : Scale) (state : code_state.State) (before : List Form) (power : _) (m : code_meant.Meant) → IsState scale state before → IsMeant circuit scale (unit_is power) m → IsState scale (state_after m state) (unit_is power ∷ before)
state-unit circuit scale state before power meant.Nothing st is = record { first = not-none (unit_is power) before; ended = st.ended; times = st.times }
state-unit circuit scale state before power (meant.Step step) st is = let e = is.0 in absurd (cc)
state-unit circuit scale state before power (meant.End n) st is = let e = is.1 in absurd (cc)

state-end : (circuit : Circuit) (scale : Scale) (state : code_state.State) (before : List Form) (t : Number) (m : code_meant.Meant) → IsState scale state before → IsMeant circuit scale (ends_at t) m → IsState scale (state_after m state) (ends_at t ∷ before)
state-end circuit scale state before t meant.Nothing st is = let e = is.1 in absurd (cc)
state-end circuit scale state before t (meant.Step step) st is = let e = is.0 in absurd (cc)
state-end circuit scale state before t (meant.End n) st is = record { first = not-none (ends_at t) before; ended = refl; times = st.times }

state-next : (circuit : Circuit) (scale : Scale) (state : code_state.State) (before : List Form) (byte : ℕ) (form : Form) (m : code_meant.Meant) → IsState scale state before → IsMeant circuit scale form m
    → faults_of circuit scale before (record { byte = byte; form = form }) ≡ [] → IsState scale (state_after m state) (form ∷ before)
state-next circuit scale state before byte (unit_is power) m st is h = state-unit circuit scale state before power m st is
state-next circuit scale state before byte (sets_at t sets) m st is h = state-at circuit scale state before byte t sets m st is h
state-next circuit scale state before byte (ends_at t) m st is h = state-end circuit scale state before t m st is
state-next circuit scale state before byte faulty_end m st is h = absurd (no-faulty-end circuit scale before byte h)
state-next circuit scale state before byte other m st is h = absurd (no-other circuit scale before byte h)

abbrev pub ends : Scale → List Stated → List ℕ
ends scale ss = filter_map (λ s. form_end scale s.form) ss

none-yet : (end : Option ℕ) → is_some end ≡ false → end ≡ None
none-yet None e = refl
none-yet (Some n) e = absurd (cc)

ends-end : (end : Option ℕ) (m : code_meant.Meant) (state : code_state.State) (n : ℕ) (more : List ℕ) → state.end ≡ end → is_some end ≡ false → meant_end m ≡ Some n → option_to_list state.end ++ n ∷ more ≡ option_to_list (state_after m state).end ++ more
ends-end end meant.Nothing state n more e no_end is = absurd (cc)
ends-end end (meant.Step step) state n more e no_end is = absurd (cc)
ends-end end (meant.End k) state n more e no_end is =
    let same : k ≡ n = cc in
    ap (λ o. option_to_list o ++ n ∷ more) (e ∙ none-yet end no_end) ∙ ap (λ x. x ∷ more) (sym same)

ends-same : (m : code_meant.Meant) (state : code_state.State) (more : List ℕ) → meant_end m ≡ None → option_to_list state.end ++ more ≡ option_to_list (state_after m state).end ++ more
ends-same meant.Nothing state more e = refl
ends-same (meant.Step step) state more e = refl
ends-same (meant.End n) state more e = absurd (cc)

ends-next : (circuit : Circuit) (scale : Scale) (state : code_state.State) (before : List Form) (byte : ℕ) (form : Form) (more : List Stated) (m : code_meant.Meant) → IsState scale state before → IsMeant circuit scale form m
    → faults_of circuit scale before (record { byte = byte; form = form }) ≡ []
    → option_to_list state.end ++ ends scale (record { byte = byte; form = form } ∷ more) ≡ option_to_list (state_after m state).end ++ ends scale more
ends-next circuit scale state before byte (unit_is power) more m st is h = ends-same m state (ends scale more) is.1
ends-next circuit scale state before byte (sets_at t sets) more m st is h = ends-same m state (ends scale more) is.1
ends-next circuit scale state before byte (ends_at t) more m st is h =
    ends-end state.end m state (ticks scale t) (ends scale more) refl (st.ended ∙ (is-fine-end circuit scale before byte t h).open_yet) is.1
ends-next circuit scale state before byte faulty_end more m st is h = absurd (no-faulty-end circuit scale before byte h)
ends-next circuit scale state before byte other more m st is h = absurd (no-other circuit scale before byte h)

pub reached-start : (circuit : Circuit) (scale : Scale) (all : List Stated) → Reached circuit scale all all [] (record { none = true; last = None; end = None })
reached-start circuit scale all = record { before = []; is_state = record { first = refl; ended = refl; times = tt }; faults_are = refl; steps_are = refl; ends_are = refl }

pub reached-next : (circuit : Circuit) (scale : Scale) (all rest : List Stated) (s : Stated) (more : List Stated) (steps : List Step) (state : code_state.State) (m : code_meant.Meant) (r : Reached circuit scale all rest steps state) → rest ≡ s ∷ more
    → IsMeant circuit scale s.form m × (faults_of circuit scale r.before s ≡ []) → Reached circuit scale all more (steps ++ meant_steps m) (state_after m state)
reached-next circuit scale all rest s more steps state m r e is =
    let same_steps : steps ++ (form_steps circuit scale s.form ++ steps_at circuit scale more) ≡ (steps ++ meant_steps m) ++ steps_at circuit scale more =
    ap (λ x. steps ++ (x ++ steps_at circuit scale more)) (sym is.0.0) ∙ sym (append_assoc steps (meant_steps m) (steps_at circuit scale more)) in
    record {
      before = s.form ∷ r.before;
      is_state = state-next circuit scale state r.before s.byte s.form m r.is_state is.0 is.1;
      faults_are = r.faults_are ∙ ap (faults_behind circuit scale r.before) e ∙ ap (λ x. x ++ faults_behind circuit scale (s.form ∷ r.before) more) is.1;
      steps_are = r.steps_are ∙ ap (λ x. steps ++ steps_at circuit scale x) e ∙ same_steps;
      ends_are = r.ends_are ∙ ap (λ x. option_to_list state.end ++ ends scale x) e ∙ ends-next circuit scale state r.before s.byte s.form more m r.is_state is.0 is.1;
    }

pub reached-end : (circuit : Circuit) (scale : Scale) (all rest : List Stated) (steps : List Step) (state : code_state.State) → Reached circuit scale all rest steps state → rest ≡ [] → IsAllRead circuit scale all steps state.end
reached-end circuit scale all rest steps state r e = record {
  no_fault = r.faults_are ∙ ap (faults_behind circuit scale r.before) e;
  steps_are = sym (r.steps_are ∙ ap (λ x. steps ++ steps_at circuit scale x) e ∙ append-nil steps);
  ends_are = r.ends_are ∙ ap (λ x. option_to_list state.end ++ ends scale x) e ∙ append-nil (option_to_list state.end);
}

pub reached-refused : (circuit : Circuit) (scale : Scale) (all rest : List Stated) (s : Stated) (more : List Stated) (steps : List Step) (state : code_state.State) (refusal : Refused StimKind) (r : Reached circuit scale all rest steps state) → rest ≡ s ∷ more
    → RefusesOneOf (faults_of circuit scale r.before s) refusal → RefusesOneOf (faults_behind circuit scale [] all) refusal
reached-refused circuit scale all rest s more steps state refusal r e h =
    subst (λ fs. RefusesOneOf fs refusal) (sym (r.faults_are ∙ ap (faults_behind circuit scale r.before) e))
    (refused-left (faults_of circuit scale r.before s) (faults_behind circuit scale (s.form ∷ r.before) more) refusal h)
