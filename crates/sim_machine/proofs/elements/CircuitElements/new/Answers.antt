use Rattle.std.proofs.Common.{◌≡◌, [], ◌∙◌}
use Rattle.std.proofs.lemmas.Result.{IfOk-weaker}
use Rattle.sim_machine.specs.Elements.{ElementsSeen}
use Rattle.sim_machine.specs.Simulated.{first_state}
use Rattle.sim_machine.proofs.ElementLaws.{first_states, length-first_states, with_states}
use Rattle.sim_machine.proofs.elements.CircuitElements.new.Goals as goal

pub of_states-requires : goal.of_states-requires
of_states-requires c =
    length-first_states c.args.circuit.now c.in_ok-states.states.items (first_states c.args.circuit.now c.parts-parts.result.now c.deref.result.now c.in_ok-states.states.items c.parts-parts.ensures.seen c.deref.ensures.value c.in_ok-states.ensures)

pub returns : goal.returns
returns c =
    let circuit = c.args.circuit.now in
    let states = c.in_ok-states.states.items in
    IfOk-weaker c.of_states.result (λ g. ◌≡◌ {A = ElementsSeen} g (record { circuit = circuit; earlier = []; states = states })) (λ g. ◌≡◌ {A = ElementsSeen} g (record { circuit = circuit; earlier = []; states = (first_state circuit).states }))
    (λ g h. h ∙ with_states circuit [] states (first_state circuit).states (first_states circuit c.parts-parts.result.now c.deref.result.now states c.parts-parts.ensures.seen c.deref.ensures.value c.in_ok-states.ensures)) c.of_states.ensures
