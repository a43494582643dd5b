-- What each form means, or which of its faults is told.
use Rattle.std.proofs.Common.{◌≡◌, [], ap, map, sym, subst, ◌∙◌}
use Rattle.std.specs.Prelude.{flat_map}
use Rattle.std.proofs.lemmas.Result.{err_from_is_err_and}
use Rattle.sg_time.specs.Seen.{number}
use Rattle.stim_read.specs.declared.kinds.StimKind.TheVariants.{Syntax}
use Rattle.stim_read.specs.declared.steps.Meant.TheVariants as meant
use Rattle.stim_read.specs.Forms.{unit_is, sets_at, ends_at, faulty_end, other}
use Rattle.stim_read.specs.Faults.{faults_of, set_faults}
use Rattle.sg_stimulus.specs.Seen.{step_seen}
use Rattle.stim_read.specs.Inputs.{all_set}
use Rattle.stim_read.specs.Meant.{RefusesOneOf, scale_seen}
use Rattle.stim_read.specs.Seen.{form_seen, set_seen, stated_seen}
use Rattle.stim_read.proofs.Refusals.{exit-match, told}
use Rattle.stim_read.proofs.StepLaws.{told-as, meant-as, unit-late, unit-fine, at-behind-end, at-time-refused, at-sets-refused, at-meant, end-behind-end, end-time-refused, end-meant, other-refused, faulty-end-refused}
use Rattle.stim_read.proofs.steps.meaning_of.Goals as goal

pub returns-then-not-state : goal.returns-then-not-state
returns-then-not-state c =
    λ before st. rw c.fault.ensures (told-as c.args.inputs.now.circuit.now (scale_seen c.args.scale) before c.args.stated.now.byte (form_seen c.args.stated.now.form) (unit_is c.in-Unit.field-0.power) (told Syntax c.args.stated.now.byte) (ap (λ f. form_seen f) c.in-Unit.is) (unit-late c.args.inputs.now.circuit.now (scale_seen c.args.scale) c.args.state before c.args.stated.now.byte c.in-Unit.field-0.power st c.if-not-state.true))

pub returns-else-not-state : goal.returns-else-not-state
returns-else-not-state c = λ before st. meant-as c.args.inputs.now.circuit.now (scale_seen c.args.scale) before c.args.stated.now.byte (form_seen c.args.stated.now.form) (unit_is c.in-Unit.field-0.power) meant.Nothing (ap (λ f. form_seen f) c.in-Unit.is) (unit-fine c.args.inputs.now.circuit.now (scale_seen c.args.scale) c.args.state before c.args.stated.now.byte c.in-Unit.field-0.power st c.if-not-state.false)

pub returns-then-is_some : goal.returns-then-is_some
returns-then-is_some c =
    λ before st. rw c.fault-then-is_some.ensures (told-as c.args.inputs.now.circuit.now (scale_seen c.args.scale) before c.args.stated.now.byte (form_seen c.args.stated.now.form) (sets_at (number c.in-At.time) (map (λ s. set_seen s) c.in-At.sets.items)) (told Syntax c.args.stated.now.byte) (ap (λ f. form_seen f) c.in-At.is) (at-behind-end c.args.inputs.now.circuit.now (scale_seen c.args.scale) c.args.state before c.args.stated.now.byte (number c.in-At.time) (map (λ s. set_seen s) c.in-At.sets.items) st (sym c.is_some.ensures ∙ c.if-is_some.true)))

pub returns-in_err-ticks-in-At : goal.returns-in_err-ticks-in-At
returns-in_err-ticks-in-At c =
    λ before st. exit-match _ (faults_of c.args.inputs.now.circuit.now (scale_seen c.args.scale) before (stated_seen c.args.stated.now)) c.from_residual.result c.in_err-ticks-in-At.field-0.0 (err_from_is_err_and c.from_residual.result c.from_residual.ensures.1)
    (told-as c.args.inputs.now.circuit.now (scale_seen c.args.scale) before c.args.stated.now.byte (form_seen c.args.stated.now.form) (sets_at (number c.in-At.time) (map (λ s. set_seen s) c.in-At.sets.items)) c.in_err-ticks-in-At.field-0.0 (ap (λ f. form_seen f) c.in-At.is) (at-time-refused c.args.inputs.now.circuit.now (scale_seen c.args.scale) before c.args.stated.now.byte (number c.in-At.time) (map (λ s. set_seen s) c.in-At.sets.items) c.in_err-ticks-in-At.field-0.0 (c.in_err-ticks-in-At.ensures before st.times)))

pub returns-in_err-step-in-At : goal.returns-in_err-step-in-At
returns-in_err-step-in-At c =
    λ before st. exit-match _ (faults_of c.args.inputs.now.circuit.now (scale_seen c.args.scale) before (stated_seen c.args.stated.now)) c.from_residual-in_err-step-in-At.result c.in_err-step-in-At.field-0.0 (err_from_is_err_and c.from_residual-in_err-step-in-At.result c.from_residual-in_err-step-in-At.ensures.1)
    (told-as c.args.inputs.now.circuit.now (scale_seen c.args.scale) before c.args.stated.now.byte (form_seen c.args.stated.now.form) (sets_at (number c.in-At.time) (map (λ s. set_seen s) c.in-At.sets.items)) c.in_err-step-in-At.field-0.0 (ap (λ f. form_seen f) c.in-At.is) (at-sets-refused c.args.inputs.now.circuit.now (scale_seen c.args.scale) before c.args.stated.now.byte (number c.in-At.time) (map (λ s. set_seen s) c.in-At.sets.items) c.in_err-step-in-At.field-0.0 (subst (λ l. RefusesOneOf (flat_map (set_faults c.args.inputs.now.circuit.now c.args.stated.now.byte) (map (λ s. set_seen s) l)) c.in_err-step-in-At.field-0.0) c.deref.ensures.value c.in_err-step-in-At.ensures)))

pub returns-in_ok-step-in-At : goal.returns-in_ok-step-in-At
returns-in_ok-step-in-At c =
    λ before st. meant-as c.args.inputs.now.circuit.now (scale_seen c.args.scale) before c.args.stated.now.byte (form_seen c.args.stated.now.form) (sets_at (number c.in-At.time) (map (λ s. set_seen s) c.in-At.sets.items)) (meant.Step c.in_ok-step-in-At.step) (ap (λ f. form_seen f) c.in-At.is) (at-meant c.args.inputs.now.circuit.now (scale_seen c.args.scale) c.args.state before c.args.stated.now.byte (number c.in-At.time) (map (λ s. set_seen s) c.in-At.sets.items) c.in_ok-ticks-in-At.ticks c.in_ok-step-in-At.step st (sym c.is_some.ensures ∙ c.if-is_some.false) (c.in_ok-ticks-in-At.ensures before st.times) (subst (λ l. (step_seen c.in_ok-step-in-At.step ≡ record { time = c.in_ok-ticks-in-At.ticks; sets = all_set c.args.inputs.now.circuit.now (map (λ s. set_seen s) l) }) × (flat_map (set_faults c.args.inputs.now.circuit.now c.args.stated.now.byte) (map (λ s. set_seen s) l) ≡ [])) c.deref.ensures.value c.in_ok-step-in-At.ensures))

pub returns-then-is_some-2 : goal.returns-then-is_some-2
returns-then-is_some-2 c =
    λ before st. rw c.fault-then-is_some-2.ensures (told-as c.args.inputs.now.circuit.now (scale_seen c.args.scale) before c.args.stated.now.byte (form_seen c.args.stated.now.form) (ends_at (number c.in-End.time)) (told Syntax c.args.stated.now.byte) (ap (λ f. form_seen f) c.in-End.is) (end-behind-end c.args.inputs.now.circuit.now (scale_seen c.args.scale) c.args.state before c.args.stated.now.byte (number c.in-End.time) st (sym c.is_some-in-End.ensures ∙ c.if-is_some-2.true)))

pub returns-in_err-ticks-in-End : goal.returns-in_err-ticks-in-End
returns-in_err-ticks-in-End c =
    λ before st. exit-match _ (faults_of c.args.inputs.now.circuit.now (scale_seen c.args.scale) before (stated_seen c.args.stated.now)) c.from_residual-in_err-ticks-in-End.result c.in_err-ticks-in-End.field-0.0 (err_from_is_err_and c.from_residual-in_err-ticks-in-End.result c.from_residual-in_err-ticks-in-End.ensures.1)
    (told-as c.args.inputs.now.circuit.now (scale_seen c.args.scale) before c.args.stated.now.byte (form_seen c.args.stated.now.form) (ends_at (number c.in-End.time)) c.in_err-ticks-in-End.field-0.0 (ap (λ f. form_seen f) c.in-End.is) (end-time-refused c.args.inputs.now.circuit.now (scale_seen c.args.scale) before c.args.stated.now.byte (number c.in-End.time) c.in_err-ticks-in-End.field-0.0 (c.in_err-ticks-in-End.ensures before st.times)))

pub returns-in_ok-ticks-in-End : goal.returns-in_ok-ticks-in-End
returns-in_ok-ticks-in-End c =
    λ before st. meant-as c.args.inputs.now.circuit.now (scale_seen c.args.scale) before c.args.stated.now.byte (form_seen c.args.stated.now.form) (ends_at (number c.in-End.time)) (meant.End c.in_ok-ticks-in-End.ticks) (ap (λ f. form_seen f) c.in-End.is) (end-meant c.args.inputs.now.circuit.now (scale_seen c.args.scale) c.args.state before c.args.stated.now.byte (number c.in-End.time) c.in_ok-ticks-in-End.ticks st (sym c.is_some-in-End.ensures ∙ c.if-is_some-2.false) (c.in_ok-ticks-in-End.ensures before st.times))

pub returns-in-FaultyEnd : goal.returns-in-FaultyEnd
returns-in-FaultyEnd c = λ before st. rw c.fault-in-FaultyEnd.ensures (told-as c.args.inputs.now.circuit.now (scale_seen c.args.scale) before c.args.stated.now.byte (form_seen c.args.stated.now.form) faulty_end (told Syntax c.args.stated.now.byte) (ap (λ f. form_seen f) c.in-FaultyEnd.is) (faulty-end-refused c.args.inputs.now.circuit.now (scale_seen c.args.scale) before c.args.stated.now.byte))

pub returns-in-Other : goal.returns-in-Other
returns-in-Other c = λ before st. rw c.fault-in-Other.ensures (told-as c.args.inputs.now.circuit.now (scale_seen c.args.scale) before c.args.stated.now.byte (form_seen c.args.stated.now.form) other (told Syntax c.args.stated.now.byte) (ap (λ f. form_seen f) c.in-Other.is) (other-refused c.args.inputs.now.circuit.now (scale_seen c.args.scale) before c.args.stated.now.byte))
