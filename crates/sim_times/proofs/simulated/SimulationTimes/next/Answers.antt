use Rattle.std.specs.Prelude.{◌≡◌, ◌+◌, false}
use Rattle.std.proofs.Common.{◌∙◌, ap, arith}
use Rattle.sg_model.specs.Round.{any_due}
use Rattle.sg_stimulus.specs.Seen.{stimulus_seen}
use Rattle.sg_stimulus.specs.Stimulus.{sets_at}
use Rattle.sim_times.proofs.DueLaws.{none_due}
use Rattle.fan_round.proofs.PendingLaws.{pending_rises, pending_below}
use Rattle.sim_times.proofs.SimulatedLaws.{busy_next, skip_ready}
use Rattle.sim_times.proofs.simulated.SimulationTimes.next.Goals as goal

pub next_due-requires-clause-rise : goal.next_due-requires-clause-rise
next_due-requires-clause-rise g c = pending_rises c.args.self.now.outputs.items c.args.self.now.nets.values.items (g.A.Agenda.lists c.args.self.now.agenda) (c.args.now + 1) c.requires.ready.0.round.in_order

pub next_due-requires-clause-below : goal.next_due-requires-clause-below
next_due-requires-clause-below g c = pending_below c.args.self.now.outputs.items c.args.self.now.nets.values.items (g.A.Agenda.lists c.args.self.now.agenda) (c.args.now + 1) c.requires.ready.0.round.in_order

pub returns-clause-quiet : goal.returns-clause-quiet
returns-clause-quiet g c = λ r t h lo hi.
    (let pending = g.A.Agenda.lists c.args.self.now.agenda in
    let none : any_due t r.state.lists ≡ false = ap (λ s. any_due t s.lists) h.run.state ∙ none_due t c.next_due.result pending hi c.next_due.ensures.below in
    record {
      later = omega arith;
      no_set = c.next_step-next.ensures.quiet t lo (omega (arith, c.next_due.ensures.within));
      not_due = none;
    })

pub returns-clause-busy : goal.returns-clause-busy
returns-clause-busy g c =
    let s = c.args.self.now in
    λ r h l quiet. busy_next c.next_due.result c.next_step-next.result c.args.end (g.A.Agenda.lists s.agenda) r.state.lists (sets_at (stimulus_seen s.stimulus.now).steps) c.next_due.ensures.within c.next_due.ensures.due c.next_step-next.ensures.set l (ap (λ x. x.lists) h.run.state) quiet.no_set quiet.not_due

pub returns-clause-ready : goal.returns-clause-ready
returns-clause-ready g c =
    let s = c.args.self.now in (
      skip_ready c.args.now c.next_due.result (g.E.Elements.machine s.elements) (g.E.Elements.net_count s.elements) s.fan s.outputs.items s.nets s.told s.work (g.A.Agenda.lists s.agenda) (g.A.Agenda.lists c.next_due.new.agenda) (g.E.Elements.states s.elements) (g.C.Checks.violated s.checks) (g.C.Checks.notifiers s.checks)
          s.handed.items s.ended s.violations.items c.requires.ready.0 c.next_due.ensures.later c.next_due.ensures.below c.next_due.ensures.lists,
      c.requires.ready.1,
    )
