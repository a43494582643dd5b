use Rattle.std.proofs.Common.{◌≡◌, ◌∙◌, ap, length, map, subst}
use Rattle.sg_model.specs.Machine.{State}
use Rattle.sg_model.specs.Round.{round}
use Rattle.sg_stimulus.specs.Seen.{set_seen}
use Rattle.fan_round.specs.States.{state_seen, IsIdle}
use Rattle.fan_round.proofs.RoundLaws.{round_is_made}
use Rattle.fan_round.proofs.PendingLaws.{pending_rises, pending_below, ready_again}
use Rattle.fan_round.proofs.rounds.first_round.Goals as goal

pub change_nets-requires-clause-rise : goal.change_nets-requires-clause-rise
change_nets-requires-clause-rise g c = pending_rises c.args.outputs.now c.args.nets.now.values.items (g.A.Agenda.lists c.args.agenda.now) c.args.now c.requires.pending

pub change_nets-requires-clause-below : goal.change_nets-requires-clause-below
change_nets-requires-clause-below g c = pending_below c.args.outputs.now c.args.nets.now.values.items (g.A.Agenda.lists c.args.agenda.now) c.args.now c.requires.pending

pub returns-clause-state : goal.returns-clause-state
returns-clause-state g c =
    let m = g.E.Elements.machine c.args.elements.now in
    let handed = map (λ x. set_seen x) c.args.handed.now in
    let s : State = state_seen c.args.nets.now (g.A.Agenda.lists c.args.agenda.now) (g.E.Elements.states c.args.elements.now) in
    let new : State = state_seen c.change_nets.new.nets (g.A.Agenda.lists c.evaluate_every.new.agenda) (g.E.Elements.states c.evaluate_every.new.elements) in
    let known = c.change_nets.ensures in
    let made : new ≡ round m c.args.now handed s = round_is_made m c.args.now handed s new c.args.outputs.now c.change_nets.new.nets.before.items (g.A.Agenda.lists c.change_nets.new.agenda) c.requires.circuit.outputs known.before known.values known.stamps known.lists
    c.in_ok-evaluate_every.ensures.lists c.in_ok-evaluate_every.ensures.states in
    made

pub returns-clause-ready : goal.returns-clause-ready
returns-clause-ready g c =
    let m = g.E.Elements.machine c.args.elements.now in
    let handed = map (λ x. set_seen x) c.args.handed.now in
    let s : State = state_seen c.args.nets.now (g.A.Agenda.lists c.args.agenda.now) (g.E.Elements.states c.args.elements.now) in
    let new : State = state_seen c.change_nets.new.nets (g.A.Agenda.lists c.evaluate_every.new.agenda) (g.E.Elements.states c.evaluate_every.new.elements) in
    let known = c.change_nets.ensures in
    let made : new ≡ round m c.args.now handed s = round_is_made m c.args.now handed s new c.args.outputs.now c.change_nets.new.nets.before.items (g.A.Agenda.lists c.change_nets.new.agenda) c.requires.circuit.outputs known.before known.values known.stamps known.lists
    c.in_ok-evaluate_every.ensures.lists c.in_ok-evaluate_every.ensures.states in
    ready_again m c.args.now handed (g.A.Agenda.lists c.args.agenda.now) (g.A.Agenda.lists c.evaluate_every.new.agenda) (g.E.Elements.states c.args.elements.now) (g.E.Elements.states c.evaluate_every.new.elements) c.args.nets.now c.change_nets.new.nets c.evaluate_every.new.work c.args.fan.now c.args.outputs.now
    c.requires.circuit c.requires.states c.requires.handed c.requires.pending known.nets known.before (subst (λ n. IsIdle c.evaluate_every.new.work n) (ap length c.requires.circuit.outputs ∙ c.requires.circuit.output_of_each) c.in_ok-evaluate_every.ensures.idle) made
