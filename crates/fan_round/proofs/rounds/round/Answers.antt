use Rattle.std.proofs.Common.{◌≡◌, map}
use Rattle.sg_model.specs.Machine.{State}
use Rattle.sg_model.specs.Round.{round}
use Rattle.sg_stimulus.specs.Seen.{set_seen}
use Rattle.fan_round.specs.States.{state_seen}
use Rattle.fan_round.proofs.RoundLaws.{on_ok_then, stays_now, round_is_made}
use Rattle.fan_round.proofs.PendingLaws.{pending_rises, pending_below, idle_as_many, ready_again}
use Rattle.fan_round.proofs.rounds.round.Goals as goal

pub evaluate_work-requires-clause-stays : goal.evaluate_work-requires-clause-stays
evaluate_work-requires-clause-stays g c =
    let handed = map (λ x. set_seen x) c.args.handed.now in
    let s : State = state_seen c.args.nets.now (g.A.Agenda.lists c.args.agenda.now) (g.E.Elements.states c.args.elements.now) in
    let known = c.change_nets.ensures in
    stays_now (g.E.Elements.machine c.args.elements.now) c.args.now handed s c.args.fan.now c.args.outputs.now _ _ _ _ c.requires.ready.circuit c.requires.handed c.requires.ready.state_of_each c.requires.ready.settled known.before known.values known.stamps known.lists

pub returns-clause-state : goal.returns-clause-state
returns-clause-state g c =
    let m = g.E.Elements.machine c.args.elements.now in
    let handed = map (λ x. set_seen x) c.args.handed.now in
    let s : State = state_seen c.args.nets.now (g.A.Agenda.lists c.args.agenda.now) (g.E.Elements.states c.args.elements.now) in
    let new : State = state_seen c.change_nets.new.nets (g.A.Agenda.lists c.evaluate_work.new.agenda) (g.E.Elements.states c.evaluate_work.new.elements) in
    let known = c.change_nets.ensures in
    on_ok_then c.evaluate_work.result _ _ (new ≡ round m c.args.now handed s)
    (round_is_made m c.args.now handed s new c.args.outputs.now c.change_nets.new.nets.before.items (g.A.Agenda.lists c.change_nets.new.agenda) c.requires.ready.circuit.outputs known.before known.values known.stamps known.lists)
    c.evaluate_work.ensures.lists c.evaluate_work.ensures.states

pub change_nets-requires-clause-rise : goal.change_nets-requires-clause-rise
change_nets-requires-clause-rise g c = pending_rises c.args.outputs.now c.args.nets.now.values.items (g.A.Agenda.lists c.args.agenda.now) c.args.now c.requires.ready.in_order

pub change_nets-requires-clause-below : goal.change_nets-requires-clause-below
change_nets-requires-clause-below g c = pending_below c.args.outputs.now c.args.nets.now.values.items (g.A.Agenda.lists c.args.agenda.now) c.args.now c.requires.ready.in_order

pub returns-clause-ready : goal.returns-clause-ready
returns-clause-ready g c =
    let m = g.E.Elements.machine c.args.elements.now in
    let handed = map (λ x. set_seen x) c.args.handed.now in
    let s : State = state_seen c.args.nets.now (g.A.Agenda.lists c.args.agenda.now) (g.E.Elements.states c.args.elements.now) in
    let new : State = state_seen c.change_nets.new.nets (g.A.Agenda.lists c.evaluate_work.new.agenda) (g.E.Elements.states c.evaluate_work.new.elements) in
    let known = c.change_nets.ensures in
    on_ok_then c.evaluate_work.result _ _ _
    (λ idle made. ready_again m c.args.now handed (g.A.Agenda.lists c.args.agenda.now) (g.A.Agenda.lists c.evaluate_work.new.agenda) (g.E.Elements.states c.args.elements.now) (g.E.Elements.states c.evaluate_work.new.elements) c.args.nets.now c.change_nets.new.nets c.evaluate_work.new.work c.args.fan.now c.args.outputs.now
    c.requires.ready.circuit c.requires.ready.state_of_each c.requires.handed c.requires.ready.in_order known.nets known.before (idle_as_many c.evaluate_work.new.work c.args.now (g.A.Agenda.lists c.args.agenda.now) (g.A.Agenda.lists c.change_nets.new.agenda) known.lists idle) made)
    c.evaluate_work.ensures.idle
    (on_ok_then c.evaluate_work.result _ _ (new ≡ round m c.args.now handed s)
    (round_is_made m c.args.now handed s new c.args.outputs.now c.change_nets.new.nets.before.items (g.A.Agenda.lists c.change_nets.new.agenda) c.requires.ready.circuit.outputs known.before known.values known.stamps known.lists)
    c.evaluate_work.ensures.lists c.evaluate_work.ensures.states)
