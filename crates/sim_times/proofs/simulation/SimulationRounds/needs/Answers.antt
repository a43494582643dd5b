use Rattle.std.proofs.Common.{sym, ◌∙◌, subst}
use Rattle.std.specs.Prelude.{map}
use Rattle.sg_stimulus.specs.Seen.{set_seen}
use Rattle.sim_times.specs.Naming.{Moves}
use Rattle.fan_round.specs.States.{state_seen}
use Rattle.fan_round.proofs.PendingLaws.{pending_rises, pending_below}
use Rattle.sim_times.proofs.SimulationLaws.{also_false, due_state_moves, next_ready}
use Rattle.sim_times.proofs.simulation.SimulationRounds.needs.Goals as goal

pub is_any_due-requires-clause-rise : goal.is_any_due-requires-clause-rise
is_any_due-requires-clause-rise g c = pending_rises c.args.self.now.outputs.items c.args.self.now.nets.values.items (g.A.Agenda.lists c.args.self.now.agenda) c.args.now c.requires.0.round.in_order

pub is_any_due-requires-clause-below : goal.is_any_due-requires-clause-below
is_any_due-requires-clause-below g c = pending_below c.args.self.now.outputs.items c.args.self.now.nets.values.items (g.A.Agenda.lists c.args.self.now.agenda) c.args.now c.requires.0.round.in_order

pub returns-clause-moves : goal.returns-clause-moves
returns-clause-moves g c = λ due must none.
    (let s = c.args.self.now in
    let lists = g.A.Agenda.lists s.agenda in
    let states = g.E.Elements.states s.elements in
    subst (λ ls. Moves (g.E.Elements.machine s.elements) c.args.now (map (λ x. set_seen x) s.handed.items) (state_seen s.nets ls states)) (sym c.is_any_due.ensures.lists)
    (due_state_moves (g.E.Elements.machine s.elements) s.fan s.outputs.items (map (λ x. set_seen x) s.handed.items) (state_seen s.nets lists states) c.args.now c.requires.0.round.circuit c.requires.0.free c.requires.0.round.in_order (sym c.is_any_due.ensures.due ∙ due)))

pub returns-clause-over : goal.returns-clause-over
returns-clause-over g c =
    let s = c.args.self.now in
    also_false c.is_any_due.result _ _
    (next_ready c.args.now (g.E.Elements.machine s.elements) (g.E.Elements.net_count s.elements) s.fan s.outputs.items s.nets s.told s.work (g.A.Agenda.lists s.agenda) (g.A.Agenda.lists c.is_any_due.new.agenda) (g.E.Elements.states s.elements) (g.C.Checks.violated s.checks) (g.C.Checks.notifiers s.checks)
    s.handed.items s.ended s.violations.items c.args.must c.is_any_due.result c.requires.0 c.if-must.false c.is_any_due.ensures.lists c.is_any_due.ensures.due)
    c.requires.1
