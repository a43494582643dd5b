use Rattle.std.specs.Prelude.{length, map}
use Rattle.std.proofs.Common.{◌≡◌, subst}
use Rattle.sg_model.specs.Time.{is_empty}
use Rattle.sg_stimulus.specs.Seen.{set_seen, stimulus_seen}
use Rattle.fan_round.specs.States.{state_seen}
use Rattle.sim_times.specs.Checks.{HasSeen}
use Rattle.sim_times.proofs.SimulationLaws.{none_handed, kept_still, snapshot_stands, toggles_state_move, toggles_ready}
use Rattle.sim_times.proofs.simulation.SimulationRounds.snapshot.Goals as goal

pub returns-in_err-see-clause-kept : goal.returns-in_err-see-clause-kept
returns-in_err-see-clause-kept g c =
    let s = c.args.self.now in
    kept_still s.told (g.C.Checks.latest s.checks) (g.C.Checks.latest c.see.new.self) s.ended s.violations.items c.see.new.violations.items s.last (stimulus_seen s.stimulus.now) c.see.ensures.latest c.see.ensures.kept c.requires.0.begun

pub returns-clause-moves : goal.returns-clause-moves
returns-clause-moves g c =
    let s = c.args.self.now in
    let none : is_empty (map (λ x. set_seen x) c.see.new.toggles.items) ≡ c.is_empty.result = none_handed c.see.new.toggles.items c.see.new.toggles.len c.is_empty.result c.is_empty.ensures c.see.new.toggles.ok.0 in
    toggles_state_move (g.E.Elements.machine s.elements) s.fan s.outputs.items (state_seen s.nets (g.A.Agenda.lists s.agenda) (g.E.Elements.states s.elements)) (g.C.Checks.violated s.checks) (g.C.Checks.notifiers s.checks) (g.C.Checks.stands s.checks c.deref.result.now) (g.C.Checks.stands c.see.new.self c.deref.result.now) c.args.now c.deref.result.now s.violations.items c.see.new.violations.items
    c.see.new.toggles.items c.is_empty.result c.requires.0.round.circuit c.requires.0.checks c.deref.ensures.value c.in_ok-see.ensures.seen none

pub returns-clause-ready : goal.returns-clause-ready
returns-clause-ready g c = λ t h.
    (let s = c.args.self.now in (
      toggles_ready t (g.E.Elements.machine s.elements) (g.E.Elements.net_count s.elements) s.fan s.outputs.items s.nets s.told s.work (g.A.Agenda.lists s.agenda) (g.E.Elements.states s.elements) (g.C.Checks.violated s.checks) (g.C.Checks.violated c.see.new.self) (g.C.Checks.notifiers s.checks) (g.C.Checks.notifiers c.see.new.self)
          s.handed.items c.see.new.toggles.items s.ended s.violations.items c.see.new.violations.items (g.C.Checks.stands s.checks c.deref.result.now) (g.C.Checks.stands c.see.new.self c.deref.result.now) c.args.now c.deref.result.now h.0 c.deref.ensures.value c.in_ok-see.ensures.violated c.in_ok-see.ensures.notifiers c.in_ok-see.ensures.seen c.see.ensures.kept,
      subst (λ vs. g.C.Checks.over c.see.new.self (length vs)) c.deref.ensures.value c.in_ok-see.ensures.over,
    ))

pub returns-clause-stands : goal.returns-clause-stands
returns-clause-stands g c =
    let s = c.args.self.now in
    let k = g.C.Checks in
    snapshot_stands (g.E.Elements.machine s.elements) s.outputs.items (length s.nets.values.items) c.args.now s.nets (g.A.Agenda.lists s.agenda) (g.E.Elements.states s.elements) (k.violated s.checks) (k.notifiers s.checks) (k.stands s.checks s.nets.values.items) (k.stands c.see.new.self s.nets.values.items)
    s.violations.items c.see.new.violations.items c.see.new.toggles.items s.evaluations c.requires.0.checks
    (subst (λ vs. HasSeen (k.violated s.checks) (k.notifiers s.checks) (k.stands s.checks vs) (k.stands c.see.new.self vs) c.args.now vs s.violations.items c.see.new.violations.items c.see.new.toggles.items) c.deref.ensures.value c.in_ok-see.ensures.seen)
