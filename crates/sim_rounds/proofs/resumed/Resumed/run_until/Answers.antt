use Rattle.std.specs.Prelude.{◌-◌, ◌+◌, ◌≤◌, ◌==◌, suc, [], ◌∷◌, length, None}
use Rattle.std.proofs.Common.{◌≡◌, ℕ, ◌∙◌, sym, ap, subst, refl, arith}
use Rattle.sg_model.specs.Run.{last_change, lasts}
use Rattle.sg_stimulus.specs.Applied.{IsApplied}
use Rattle.sg_stimulus.specs.Seen.{stimulus_seen}
use Rattle.sg_stimulus.specs.Stimulus.{Stimulus, sets_at}
use Rattle.sg_circuit.specs.Circuit.{Circuit}
use Rattle.time_checks.specs.Violations.{latest_events}
use Rattle.sim_times.specs.Runs.{Setting, changed_since, run_from}
use Rattle.sim_times.specs.Simulations.{kept_of, StandsBetween}
use Rattle.sim_times.specs.Times.{Kept, count_shown}
use Rattle.sim_rounds.specs.CircuitChecks.{HaveSeen}
use Rattle.sim_rounds.specs.Engines.{AreChecksAt, IsEngineAt}
use Rattle.sim_rounds.specs.Moments.{Fits, Moment, moment_of, snapshot_of, state_of}
use Rattle.sim_rounds.specs.MomentsSeen.{moment_seen}
use Rattle.sim_machine.specs.Simulated.{machine_since}
use Rattle.sim_rounds.specs.Stopping.{origin_at, setting_since}
use Rattle.sim_rounds.proofs.EngineLaws.{engine_ready, engine_stands}
use Rattle.sim_rounds.proofs.MachineLaws.{lawful_since}
use Rattle.sim_rounds.proofs.ResumedLaws.{begins_after, can_resume, told_moment}
use Rattle.sim_rounds.proofs.SeenLaws.{all_covered}
use Rattle.sim_rounds.proofs.StoppingLaws.{has_each, left_off, same_events, same_machine, then_so}
use Rattle.sim_rounds.proofs.resumed.Resumed.run_until.Goals as goal

pub make_times_until-made-requires-clause-ready : goal.make_times_until-made-requires-clause-ready
make_times_until-made-requires-clause-ready g c =
    let s = c.simulate-simulation.result in
    let engine = c.simulate-simulation.ensures in
    let circuit : Circuit = c.args.self.circuit.now in
    let m : Moment = moment_seen c.args.self.moment.now in
    let h : IsEngineAt circuit m.latest (state_of circuit m) s.nets s.told s.work s.elements s.agenda.0 s.fan s.outputs.items = engine.engine circuit m.latest (state_of circuit m) c.args.self.at in
    let k : AreChecksAt circuit m.latest (snapshot_of m ∷ []) s.checks.checks.now s.checks.checker s.checks.touched s.checks.named = engine.checks circuit m.latest (snapshot_of m ∷ []) c.args.self.seen in
    let applied : IsApplied circuit (stimulus_seen s.stimulus.now) = subst (λ x. IsApplied circuit (stimulus_seen x)) (sym engine.stimulus) c.requires.stimulus in
    engine_ready (m.time + 1 == 0) (m.time + 1) circuit m.latest (state_of circuit m) (snapshot_of m ∷ []) s.nets s.told s.work s.elements s.agenda.0 s.fan s.outputs.items s.handed.items s.ended s.violations.items (stimulus_seen s.stimulus.now) s.checks.checks.now s.checks.checker s.checks.touched s.checks.named
    c.recall_closed.ensures applied (can_resume circuit m (m.time + 1 == 0) c.args.self.fits) k h engine.handed engine.ended

pub make_times_until-made-requires-clause-law : goal.make_times_until-made-requires-clause-law
make_times_until-made-requires-clause-law g c = lawful_since c.simulate-simulation.result.elements.circuit c.simulate-simulation.result.elements.earlier

pub make_times_until-made-requires-clause-told : goal.make_times_until-made-requires-clause-told
make_times_until-made-requires-clause-told g c =
    let circuit : Circuit = c.args.self.circuit.now in
    let m : Moment = moment_seen c.args.self.moment.now in
    (c.simulate-simulation.ensures.engine circuit m.latest (state_of circuit m) c.args.self.at).values_told

pub make_times_until-made-requires-clause-nets : goal.make_times_until-made-requires-clause-nets
make_times_until-made-requires-clause-nets g c =
    let s = c.simulate-simulation.result in
    let engine = c.simulate-simulation.ensures in
    let circuit : Circuit = c.args.self.circuit.now in
    let m : Moment = moment_seen c.args.self.moment.now in
    let many : length circuit.nets ≡ length s.nets.values.items = sym (ap length (engine.engine circuit m.latest (state_of circuit m) c.args.self.at).values ∙ (can_resume circuit m (m.time + 1 == 0) c.args.self.fits).value_of_each) in
    subst (λ x. length (g.W.Watch.circuit c.args.watcher.now).nets ≤ x) many c.requires.nets

pub make_times_until-made-requires-clause-before : goal.make_times_until-made-requires-clause-before
make_times_until-made-requires-clause-before g c =
    let circuit : Circuit = c.args.self.circuit.now in
    let m : Moment = moment_seen c.args.self.moment.now in
    told_moment (g.W.Watch.stands c.args.watcher.now c.args.shelf.now) m c.simulate-simulation.result.nets.values.items (c.simulate-simulation.ensures.engine circuit m.latest (state_of circuit m) c.args.self.at).values c.requires.told

pub stop-requires : goal.stop-requires
stop-requires g c =
    let s = c.simulate-simulation.result in
    let engine = c.simulate-simulation.ensures in
    let circuit : Circuit = c.args.self.circuit.now in
    let m : Moment = moment_seen c.args.self.moment.now in
    let h : IsEngineAt circuit m.latest (state_of circuit m) s.nets s.told s.work s.elements s.agenda.0 s.fan s.outputs.items = engine.engine circuit m.latest (state_of circuit m) c.args.self.at in
    let k : AreChecksAt circuit m.latest (snapshot_of m ∷ []) s.checks.checks.now s.checks.checker s.checks.touched s.checks.named = engine.checks circuit m.latest (snapshot_of m ∷ []) c.args.self.seen in
    let made = c.make_times_until-made in
    let n = made.new.times in
    then_so made.result made.ensures.ready (λ r. has_each circuit c.recall_closed.ensures m.latest (machine_since n.elements.circuit n.elements.earlier) n.agenda.0 n.elements.states n.checks.checker
    (same_machine circuit s.elements.circuit m.latest s.elements.earlier (machine_since n.elements.circuit n.elements.earlier) made.ensures.machine h.circuit_of h.earlier_of) r.0.round.circuit.inputs_of_each r.0.round.state_of_each
    (same_events circuit m.latest s.checks.checker.earlier n.checks.checker.earlier s.checks.checker.checks n.checks.checker.checks made.ensures.latest k.timings_are k.earlier))

pub returns-clause-stopped : goal.returns-clause-stopped
returns-clause-stopped g c =
    let s = c.simulate-simulation.result in
    let engine = c.simulate-simulation.ensures in
    let circuit : Circuit = c.args.self.circuit.now in
    let m : Moment = moment_seen c.args.self.moment.now in
    let h : IsEngineAt circuit m.latest (state_of circuit m) s.nets s.told s.work s.elements s.agenda.0 s.fan s.outputs.items = engine.engine circuit m.latest (state_of circuit m) c.args.self.at in
    let k : AreChecksAt circuit m.latest (snapshot_of m ∷ []) s.checks.checks.now s.checks.checker s.checks.touched s.checks.named = engine.checks circuit m.latest (snapshot_of m ∷ []) c.args.self.seen in
    let stimulus : Stimulus = stimulus_seen c.args.stimulus.now in
    let kept : Kept = kept_of s.told (λ ss. latest_events s.checks.checker.earlier s.checks.checker.checks ss) s.ended s.violations.items s.last (stimulus_seen s.stimulus.now) in
    let made = c.make_times_until-made in
    let n = made.new.times in
    let taken : ℕ = made.new.steps - c.args.steps.now in
    let told : kept.told ≡ (state_of circuit m).values = h.values_told ∙ h.values in
    let last : kept.last ≡ m.last = engine.last in
    let falls : m.time ≤ m.time + 1 = omega arith in
    let stood = engine_stands (m.time + 1) circuit m.latest (state_of circuit m) (snapshot_of m ∷ []) s.nets s.told s.work s.elements s.agenda.0 s.fan s.outputs.items s.violations.items s.evaluations s.ended s.checks.checks.now s.checks.checker s.checks.touched s.checks.named c.args.self.fits.latest (falls, tt) (all_covered m.nets s.checks.touched.list.items) k h engine.violations engine.evaluations engine.ended in
    let begins = begins_after circuit c.args.until m kept c.requires.from told last in
    let within : c.args.until ≤ c.args.until = omega arith in
    let setting : Setting = setting_since circuit stimulus c.args.rounds m in
    let many : c.args.until - m.time ≡ suc c.args.until - suc m.time = omega arith in
    let law = c.moments_of_runs_fit.ensures.of_rests circuit stimulus c.args.rounds m c.args.until (count_shown (m.evaluations + taken)) c.recall_closed.ensures c.requires.stimulus c.args.self.fits c.requires.from c.requires.until in
    let F : ℕ → Type 0 = λ x. Fits circuit (moment_of circuit m.latest c.args.until (run_from setting (origin_at circuit c.args.until m) x).run (changed_since m.last (last_change m.nets (lasts (run_from setting (origin_at circuit c.args.until m) x).run.snapshots))) (count_shown (m.evaluations + taken))) in
    let w = g.W.Watch in
    left_off w.stands w.broken c.args.watcher.now made.new.watcher c.args.shelf.now made.new.shelf circuit m.latest (machine_since s.elements.circuit s.elements.earlier) (sets_at stimulus.steps) (sets_at (stimulus_seen s.stimulus.now).steps) c.args.rounds (m.time + 1) c.args.until c.args.until m.evaluations taken (state_of circuit m) (origin_at circuit c.args.until m)
    (λ r. StandsBetween s.nets s.agenda.0 s.elements.states (HaveSeen s.checks.checker s.checks.touched s.nets.values.items) s.violations.items s.evaluations s.ended (m.time + 1) r) kept _
    n.nets n.agenda.0 n.elements.states n.checks.checker n.checks.touched n.violations.items n.evaluations n.ended n.last made.result c.stop.result
    (same_machine circuit s.elements.circuit m.latest s.elements.earlier (machine_since s.elements.circuit s.elements.earlier) refl h.circuit_of h.earlier_of) (ap (λ x. sets_at (stimulus_seen x).steps) engine.stimulus) within begins stood made.ensures.made refl refl
    (same_events circuit m.latest s.checks.checker.earlier n.checks.checker.earlier s.checks.checker.checks n.checks.checker.checks made.ensures.latest k.timings_are k.earlier) (λ unspent. subst F many (law (subst (λ x. (run_from setting (origin_at circuit c.args.until m) x).spent ≡ None) (sym many) unspent)).fits) c.stop.ensures
