use Rattle.std.specs.Prelude.{length}
use Rattle.std.proofs.Common.{◌≡◌, ◌∙◌, ap, refl}
use Rattle.std.proofs.lemmas.Result.{IfOk-weaker}
use Rattle.sim_machine.specs.Elements.{ElementsSeen}
use Rattle.sim_rounds.specs.Moments.{Moment, state_of}
use Rattle.sim_rounds.specs.MomentsSeen.{moment_seen}
use Rattle.sim_machine.proofs.ElementLaws.{with_earlier, with_states}
use Rattle.sim_rounds.proofs.RestoredLaws.{drivers_among, length-restored, outputs_among, restored_states}
use Rattle.sim_rounds.proofs.restoring.elements_of.Goals as goal

pub last_values-requires-clause-outputs : goal.last_values-requires-clause-outputs
last_values-requires-clause-outputs c =
    outputs_among c.args.circuit.now c.parts-parts.result.now c.deref.result.now (length c.deref-2.result.now) c.parts-parts.ensures.closed c.parts-parts.ensures.seen c.deref.ensures.value (ap length c.deref-2.ensures.value ∙ c.requires.nets)

pub last_values-requires-clause-drivers : goal.last_values-requires-clause-drivers
last_values-requires-clause-drivers c =
    drivers_among c.args.circuit.now c.parts-parts.result.now c.deref.result.now c.args.moment.now c.deref-3.result.now c.requires c.parts-parts.ensures.seen c.deref.ensures.value c.deref-3.ensures.value

pub of_states-requires : goal.of_states-requires
of_states-requires c =
    let m : Moment = moment_seen c.args.moment.now in
    length-restored c.args.circuit.now m c.in_ok-states.states.items
    (restored_states c.args.circuit.now m c.parts-parts.result.now c.deref.result.now c.deref-2.result.now c.in_ok-states.states.items c.args.moment.now.pending.items c.deref-3.result.now c.parts-parts.ensures.seen c.deref.ensures.value c.deref-2.ensures.value c.deref-3.ensures.value refl c.in_ok-states.ensures)

pub returns : goal.returns
returns c =
    let circuit = c.args.circuit.now in
    let m : Moment = moment_seen c.args.moment.now in
    let states = c.in_ok-states.states.items in
    let is : states ≡ (state_of circuit m).states =
    restored_states circuit m c.parts-parts.result.now c.deref.result.now c.deref-2.result.now states c.args.moment.now.pending.items c.deref-3.result.now c.parts-parts.ensures.seen c.deref.ensures.value c.deref-2.ensures.value c.deref-3.ensures.value refl c.in_ok-states.ensures in
    let known = c.deref-4.result.now in
    IfOk-weaker c.of_states.result (λ g. ◌≡◌ {A = ElementsSeen} g (record { circuit = circuit; earlier = known; states = states })) (λ g. ◌≡◌ {A = ElementsSeen} g (record { circuit = circuit; earlier = m.latest; states = (state_of circuit m).states }))
    (λ g h. h ∙ (with_earlier circuit known m.latest states c.deref-4.ensures.value ∙ with_states circuit m.latest states (state_of circuit m).states is)) c.of_states.ensures
