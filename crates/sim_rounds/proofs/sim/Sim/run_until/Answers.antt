use Rattle.std.specs.Prelude.{◌-◌, ◌+◌, ◌≤◌, [], length}
use Rattle.std.proofs.Common.{◌≡◌, ℕ, true, ◌∙◌, sym, ap, subst, refl, arith}
use Rattle.sg_stimulus.specs.Applied.{IsApplied}
use Rattle.sg_stimulus.specs.Seen.{stimulus_seen}
use Rattle.sg_stimulus.specs.Stimulus.{Stimulus, sets_at}
use Rattle.sg_circuit.specs.Circuit.{Circuit}
use Rattle.time_checks.specs.Violations.{latest_events}
use Rattle.sim_times.specs.Runs.{origin_of}
use Rattle.sim_times.specs.Simulations.{kept_of, StandsBetween}
use Rattle.sim_times.specs.Times.{Kept, count_shown}
use Rattle.sim_rounds.specs.CircuitChecks.{HaveSeen}
use Rattle.sim_rounds.specs.Engines.{AreChecksAt, IsEngineAt}
use Rattle.sim_rounds.specs.Setting.{setting_of}
use Rattle.sim_machine.specs.Simulated.{first_state, machine_since}
use Rattle.sim_rounds.proofs.EngineLaws.{engine_ready, engine_stands}
use Rattle.sim_rounds.proofs.MachineLaws.{lawful_since}
use Rattle.sim_rounds.proofs.SimLaws.{begins_first, can_begin}
use Rattle.sim_rounds.proofs.StoppingLaws.{has_each, left_off, same_events, same_machine, then_so}
use Rattle.sim_rounds.proofs.sim.Sim.run_until.Goals as goal

pub make_times_until-made-requires-clause-ready : goal.make_times_until-made-requires-clause-ready
make_times_until-made-requires-clause-ready g c =
    let s = c.simulate-simulation.result in
    let engine = c.simulate-simulation.ensures in
    let circuit : Circuit = c.args.self.circuit.now in
    let h : IsEngineAt circuit [] (first_state circuit) s.nets s.told s.work s.elements s.agenda.0 s.fan s.outputs.items = engine.engine circuit [] (first_state circuit) c.args.self.fresh in
    let k : AreChecksAt circuit [] [] s.checks.checks.now s.checks.checker s.checks.touched s.checks.named = engine.checks circuit [] [] c.args.self.unseen in
    let applied : IsApplied circuit (stimulus_seen s.stimulus.now) = subst (λ x. IsApplied circuit (stimulus_seen x)) (sym engine.stimulus) c.requires.stimulus in
    engine_ready true 0 circuit [] (first_state circuit) [] s.nets s.told s.work s.elements s.agenda.0 s.fan s.outputs.items s.handed.items s.ended s.violations.items (stimulus_seen s.stimulus.now) s.checks.checks.now s.checks.checker s.checks.touched s.checks.named
    c.recall_closed.ensures applied (can_begin circuit) k h engine.handed engine.ended

pub make_times_until-made-requires-clause-law : goal.make_times_until-made-requires-clause-law
make_times_until-made-requires-clause-law g c = lawful_since c.simulate-simulation.result.elements.circuit c.simulate-simulation.result.elements.earlier

pub make_times_until-made-requires-clause-told : goal.make_times_until-made-requires-clause-told
make_times_until-made-requires-clause-told g c =
    let circuit : Circuit = c.args.self.circuit.now in
    (c.simulate-simulation.ensures.engine circuit [] (first_state circuit) c.args.self.fresh).values_told

pub make_times_until-made-requires-clause-nets : goal.make_times_until-made-requires-clause-nets
make_times_until-made-requires-clause-nets g c =
    let s = c.simulate-simulation.result in
    let engine = c.simulate-simulation.ensures in
    let circuit : Circuit = c.args.self.circuit.now in
    let many : length circuit.nets ≡ length s.nets.values.items = sym (ap length (engine.engine circuit [] (first_state circuit) c.args.self.fresh).values ∙ (can_begin circuit).value_of_each) in
    subst (λ x. length (g.W.Watch.circuit c.args.watcher.now).nets ≤ x) many c.requires.nets

pub stop-requires : goal.stop-requires
stop-requires g c =
    let s = c.simulate-simulation.result in
    let engine = c.simulate-simulation.ensures in
    let circuit : Circuit = c.args.self.circuit.now in
    let h : IsEngineAt circuit [] (first_state circuit) s.nets s.told s.work s.elements s.agenda.0 s.fan s.outputs.items = engine.engine circuit [] (first_state circuit) c.args.self.fresh in
    let k : AreChecksAt circuit [] [] s.checks.checks.now s.checks.checker s.checks.touched s.checks.named = engine.checks circuit [] [] c.args.self.unseen in
    let made = c.make_times_until-made in
    let n = made.new.times in
    then_so made.result made.ensures.ready (λ r. has_each circuit c.recall_closed.ensures [] (machine_since n.elements.circuit n.elements.earlier) n.agenda.0 n.elements.states n.checks.checker
    (same_machine circuit s.elements.circuit [] s.elements.earlier (machine_since n.elements.circuit n.elements.earlier) made.ensures.machine h.circuit_of h.earlier_of) r.0.round.circuit.inputs_of_each r.0.round.state_of_each
    (same_events circuit [] s.checks.checker.earlier n.checks.checker.earlier s.checks.checker.checks n.checks.checker.checks made.ensures.latest k.timings_are k.earlier))

pub returns-clause-stopped : goal.returns-clause-stopped
returns-clause-stopped g c =
    let s = c.simulate-simulation.result in
    let engine = c.simulate-simulation.ensures in
    let circuit : Circuit = c.args.self.circuit.now in
    let h : IsEngineAt circuit [] (first_state circuit) s.nets s.told s.work s.elements s.agenda.0 s.fan s.outputs.items = engine.engine circuit [] (first_state circuit) c.args.self.fresh in
    let k : AreChecksAt circuit [] [] s.checks.checks.now s.checks.checker s.checks.touched s.checks.named = engine.checks circuit [] [] c.args.self.unseen in
    let stimulus : Stimulus = stimulus_seen c.args.stimulus.now in
    let kept : Kept = kept_of s.told (λ ss. latest_events s.checks.checker.earlier s.checks.checker.checks ss) s.ended s.violations.items s.last (stimulus_seen s.stimulus.now) in
    let made = c.make_times_until-made in
    let n = made.new.times in
    let taken : ℕ = made.new.steps - c.args.steps.now in
    let told : kept.told ≡ (first_state circuit).values = h.values_told ∙ h.values in
    let last : kept.last ≡ 0 = engine.last in
    let stood = engine_stands 0 circuit [] (first_state circuit) [] s.nets s.told s.work s.elements s.agenda.0 s.fan s.outputs.items s.violations.items s.evaluations s.ended s.checks.checks.now s.checks.checker s.checks.touched s.checks.named refl tt tt k h engine.violations engine.evaluations engine.ended in
    let begins = begins_first circuit (record stimulus { end = c.args.until }) c.args.rounds kept told last in
    let within : c.args.until ≤ c.args.until = omega arith in
    let law = c.moments_of_runs_fit.ensures.of_runs circuit stimulus c.args.rounds c.args.until (count_shown (0 + taken)) c.recall_closed.ensures c.requires.stimulus c.requires.until in
    let w = g.W.Watch in
    left_off w.stands w.broken c.args.watcher.now made.new.watcher c.args.shelf.now made.new.shelf circuit [] (machine_since s.elements.circuit s.elements.earlier) (sets_at stimulus.steps) (sets_at (stimulus_seen s.stimulus.now).steps) c.args.rounds 0 c.args.until c.args.until 0 taken (first_state circuit) (origin_of (setting_of circuit (record stimulus { end = c.args.until }) c.args.rounds))
    (λ r. StandsBetween s.nets s.agenda.0 s.elements.states (HaveSeen s.checks.checker s.checks.touched s.nets.values.items) s.violations.items s.evaluations s.ended 0 r) kept _
    n.nets n.agenda.0 n.elements.states n.checks.checker n.checks.touched n.violations.items n.evaluations n.ended n.last made.result c.stop.result
    (same_machine circuit s.elements.circuit [] s.elements.earlier (machine_since s.elements.circuit s.elements.earlier) refl h.circuit_of h.earlier_of) (ap (λ x. sets_at (stimulus_seen x).steps) engine.stimulus) within begins stood made.ensures.made refl refl
    (same_events circuit [] s.checks.checker.earlier n.checks.checker.earlier s.checks.checker.checks n.checks.checker.checks made.ensures.latest k.timings_are k.earlier) (λ unspent. (law unspent).fits) c.stop.ensures
