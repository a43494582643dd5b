use Rattle.std.specs.Prelude.{All, ◌≤◌, List, map}
use Rattle.std.proofs.Common.{◌≡◌, false, true, ◌∙◌, subst, sym}
use Rattle.sg_stimulus.specs.declared.steps.StimStep.{StimStep}
use Rattle.sg_stimulus.specs.Seen.{set_seen, step_seen}
use Rattle.sg_stimulus.specs.Applied.{IsInput, SetsOnce, StepsRise}
use Rattle.sg_stimulus.proofs.FittingLaws.{can_apply, inputs_unseen, keeps_to_end, sets_each_once}
use Rattle.sg_stimulus.proofs.steps.Stimulus.fits.Goals as goal

pub returns-then-not-steps_within : goal.returns-then-not-steps_within
returns-then-not-steps_within c =
    (λ t. absurd (let k : false ≡ true = t in cc), λ h. sym c.if-not-steps_within.true ∙ (c.steps_within.ensures.1 (subst (λ ss. All (λ s. s.time ≤ c.args.self.now.end) ss) (sym c.deref-2.ensures.value) (keeps_to_end c.args.circuit.now c.args.self.now h))))

pub returns-then-not-steps_once : goal.returns-then-not-steps_once
returns-then-not-steps_once c =
    (λ t. absurd (let k : false ≡ true = t in cc), λ h. sym c.if-not-steps_once.true ∙ (c.steps_once.ensures.1 (subst (λ ss. All (λ s. SetsOnce (map (λ x. set_seen x) s.sets.items)) ss) (sym c.deref-3.ensures.value) (sets_each_once c.args.circuit.now c.args.self.now h))))

pub returns : goal.returns
returns c =
    let circuit = c.args.circuit.now in
    let s = c.args.self.now in
    let Fits : List StimStep → Type 0 = λ ss. All (λ x. All (λ y. IsInput circuit y.net) x.sets.items) ss in
    let rise : StepsRise (map (λ x. step_seen x) s.steps.items) = subst (λ ss. StepsRise (map (λ x. step_seen x) ss)) c.deref.ensures.value (c.steps_rise.ensures.0 c.if-not-steps_rise.false) in
    let within : All (λ x. x.time ≤ s.end) s.steps.items = subst (λ ss. All (λ x. x.time ≤ s.end) ss) c.deref-2.ensures.value (c.steps_within.ensures.0 c.if-not-steps_within.false) in
    let once : All (λ x. SetsOnce (map (λ y. set_seen y) x.sets.items)) s.steps.items =
    subst (λ ss. All (λ x. SetsOnce (map (λ y. set_seen y) x.sets.items)) ss) c.deref-3.ensures.value (c.steps_once.ensures.0 c.if-not-steps_once.false) in (
      λ t. can_apply circuit s rise within c.if-self.false once (subst Fits c.deref-4.ensures.value (c.steps_fit.ensures.0 t)),
      λ h. c.steps_fit.ensures.1 (subst Fits (sym c.deref-4.ensures.value) (inputs_unseen circuit s.steps.items h.inputs)),
    )
