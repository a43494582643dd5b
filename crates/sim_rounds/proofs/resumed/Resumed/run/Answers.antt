use Rattle.std.specs.Prelude.{◌-◌, ◌+◌, ◌≤◌, ◌==◌, List, [], ◌∷◌, length, map, take}
use Rattle.std.proofs.Common.{◌≡◌, ℕ, ◌∙◌, sym, ap, subst, arith}
use Rattle.sg_logic.specs.declared.values.Value.{Value}
use Rattle.sg_model.specs.Machine.{Machine, Violation}
use Rattle.sg_stimulus.specs.Applied.{IsApplied}
use Rattle.sg_stimulus.specs.Seen.{stimulus_seen}
use Rattle.sg_stimulus.specs.Stimulus.{Stimulus, sets_at}
use Rattle.sg_circuit.specs.Circuit.{Circuit}
use Rattle.time_checks.specs.declared.latest.Latest.{Latest}
use Rattle.time_checks.specs.Seen.{violation_seen}
use Rattle.time_checks.specs.Violations.{latest_events}
use Rattle.sim_times.specs.Runs.{HasEndedFrom}
use Rattle.sim_times.specs.Simulations.{kept_of}
use Rattle.sim_times.specs.Times.{Kept}
use Rattle.sim_rounds.specs.Engines.{AreChecksAt, IsEngineAt}
use Rattle.sim_machine.specs.Simulated.{machine_since}
use Rattle.sim_rounds.proofs.EngineLaws.{engine_ready, engine_stands}
use Rattle.sim_rounds.proofs.MachineLaws.{lawful_since}
use Rattle.sim_rounds.specs.Moments.{Moment, snapshot_of, state_of}
use Rattle.sim_rounds.specs.MomentsSeen.{moment_seen}
use Rattle.sim_rounds.specs.Stopping.{origin_at}
use Rattle.sim_rounds.proofs.ResumedLaws.{begins_after, can_resume, told_moment}
use Rattle.sim_rounds.proofs.SeenLaws.{all_covered}
use Rattle.sim_rounds.proofs.resumed.Resumed.run.Goals as goal

pub make_times-end-requires-clause-ready : goal.make_times-end-requires-clause-ready
make_times-end-requires-clause-ready g c =
    let s = c.simulate-simulation.result in
    let engine = c.simulate-simulation.ensures in
    let circuit : Circuit = c.args.self.circuit.now in
    let m : Moment = moment_seen c.args.self.moment.now in
    let h : IsEngineAt circuit m.latest (state_of circuit m) s.nets s.told s.work s.elements s.agenda.0 s.fan s.outputs.items = engine.engine circuit m.latest (state_of circuit m) c.args.self.at in
    let k : AreChecksAt circuit m.latest (snapshot_of m ∷ []) s.checks.checks.now s.checks.checker s.checks.touched s.checks.named = engine.checks circuit m.latest (snapshot_of m ∷ []) c.args.self.seen in
    let applied : IsApplied circuit (stimulus_seen s.stimulus.now) = subst (λ x. IsApplied circuit (stimulus_seen x)) (sym engine.stimulus) c.requires.stimulus in
    engine_ready (m.time + 1 == 0) (m.time + 1) circuit m.latest (state_of circuit m) (snapshot_of m ∷ []) s.nets s.told s.work s.elements s.agenda.0 s.fan s.outputs.items s.handed.items s.ended s.violations.items (stimulus_seen s.stimulus.now) s.checks.checks.now s.checks.checker s.checks.touched s.checks.named
    c.recall_closed.ensures applied (can_resume circuit m (m.time + 1 == 0) c.args.self.fits) k h engine.handed engine.ended

pub make_times-end-requires-clause-law : goal.make_times-end-requires-clause-law
make_times-end-requires-clause-law g c = lawful_since c.simulate-simulation.result.elements.circuit c.simulate-simulation.result.elements.earlier

pub make_times-end-requires-clause-told : goal.make_times-end-requires-clause-told
make_times-end-requires-clause-told g c =
    let m : Moment = moment_seen c.args.self.moment.now in
    (c.simulate-simulation.ensures.engine c.args.self.circuit.now m.latest (state_of c.args.self.circuit.now m) c.args.self.at).values_told

pub make_times-end-requires-clause-nets : goal.make_times-end-requires-clause-nets
make_times-end-requires-clause-nets g c =
    let s = c.simulate-simulation.result in
    let circuit : Circuit = c.args.self.circuit.now in
    let m : Moment = moment_seen c.args.self.moment.now in
    let many : length circuit.nets ≡ length s.nets.values.items = sym (ap length (c.simulate-simulation.ensures.engine circuit m.latest (state_of circuit m) c.args.self.at).values ∙ c.args.self.fits.nets) in
    subst (λ n. length (g.W.Watch.circuit c.args.watcher.now).nets ≤ n) many c.requires.nets

pub make_times-end-requires-clause-before : goal.make_times-end-requires-clause-before
make_times-end-requires-clause-before g c =
    let m : Moment = moment_seen c.args.self.moment.now in
    told_moment (g.W.Watch.stands c.args.watcher.now c.args.shelf.now) m c.simulate-simulation.result.nets.values.items (c.simulate-simulation.ensures.engine c.args.self.circuit.now m.latest (state_of c.args.self.circuit.now m) c.args.self.at).values c.requires.told

pub returns-clause-ended : goal.returns-clause-ended
returns-clause-ended g c =
    let s = c.simulate-simulation.result in
    let engine = c.simulate-simulation.ensures in
    let circuit : Circuit = c.args.self.circuit.now in
    let m : Moment = moment_seen c.args.self.moment.now in
    let h : IsEngineAt circuit m.latest (state_of circuit m) s.nets s.told s.work s.elements s.agenda.0 s.fan s.outputs.items = engine.engine circuit m.latest (state_of circuit m) c.args.self.at in
    let k : AreChecksAt circuit m.latest (snapshot_of m ∷ []) s.checks.checks.now s.checks.checker s.checks.touched s.checks.named = engine.checks circuit m.latest (snapshot_of m ∷ []) c.args.self.seen in
    let stimulus : Stimulus = stimulus_seen c.args.stimulus.now in
    let kept : Kept = kept_of s.told (λ ss. latest_events s.checks.checker.earlier s.checks.checker.checks ss) s.ended s.violations.items s.last (stimulus_seen s.stimulus.now) in
    let told : kept.told ≡ (state_of circuit m).values = h.values_told ∙ h.values in
    let last : kept.last ≡ m.last = engine.last in
    let falls : m.time ≤ m.time + 1 = omega arith in
    let stood = engine_stands (m.time + 1) circuit m.latest (state_of circuit m) (snapshot_of m ∷ []) s.nets s.told s.work s.elements s.agenda.0 s.fan s.outputs.items s.violations.items s.evaluations s.ended s.checks.checks.now s.checks.checker s.checks.touched s.checks.named c.args.self.fits.latest (falls, tt) (all_covered m.nets s.checks.touched.list.items) k h engine.violations engine.evaluations engine.ended in
    let begins = begins_after circuit stimulus.end m kept (omega (arith, c.requires.end)) told last in
    let w = g.W.Watch in
    let made = c.make_times-end.new in
    let machine : machine_since s.elements.circuit s.elements.earlier ≡ machine_since circuit m.latest = ap (λ x. machine_since x s.elements.earlier) h.circuit_of ∙ ap (λ (ls : List Latest). machine_since circuit ls) h.earlier_of in
    let P : Machine → (ℕ → List (ℕ × Value)) → List Violation → ℕ → Type 0 =
    λ x sets vs l. HasEndedFrom w.stands w.broken c.args.watcher.now made.watcher c.args.shelf.now made.shelf (record { machine = x; first = (state_of circuit m); sets = sets; bound = c.args.rounds; end = stimulus.end }) (origin_at circuit stimulus.end m) vs l (made.steps - c.args.steps.now) c.make_times-end.result in
    let found : List Violation = map (λ v. violation_seen v) c.tally_of.result.violations.items in
    subst (λ x. P x (sets_at stimulus.steps) found c.tally_of.result.last) machine
    (subst (λ sets. P (machine_since s.elements.circuit s.elements.earlier) sets found c.tally_of.result.last) (ap (λ x. sets_at (stimulus_seen x).steps) engine.stimulus)
    (subst (λ vs. P (machine_since s.elements.circuit s.elements.earlier) (sets_at (stimulus_seen s.stimulus.now).steps) vs c.tally_of.result.last) (sym c.tally_of.ensures.violations)
    (subst (λ l. P (machine_since s.elements.circuit s.elements.earlier) (sets_at (stimulus_seen s.stimulus.now).steps) (take made.times.ended (map (λ v. violation_seen v) made.times.violations.items)) l) (sym c.tally_of.ensures.last)
    (c.make_times-end.ensures.ended.ended (state_of circuit m) (origin_at circuit stimulus.end m) begins stood))))

pub returns-clause-evaluations : goal.returns-clause-evaluations
returns-clause-evaluations g c =
    let s = c.simulate-simulation.result in
    let engine = c.simulate-simulation.ensures in
    let circuit : Circuit = c.args.self.circuit.now in
    let m : Moment = moment_seen c.args.self.moment.now in
    let h : IsEngineAt circuit m.latest (state_of circuit m) s.nets s.told s.work s.elements s.agenda.0 s.fan s.outputs.items = engine.engine circuit m.latest (state_of circuit m) c.args.self.at in
    let k : AreChecksAt circuit m.latest (snapshot_of m ∷ []) s.checks.checks.now s.checks.checker s.checks.touched s.checks.named = engine.checks circuit m.latest (snapshot_of m ∷ []) c.args.self.seen in
    let stimulus : Stimulus = stimulus_seen c.args.stimulus.now in
    let kept : Kept = kept_of s.told (λ ss. latest_events s.checks.checker.earlier s.checks.checker.checks ss) s.ended s.violations.items s.last (stimulus_seen s.stimulus.now) in
    let told : kept.told ≡ (state_of circuit m).values = h.values_told ∙ h.values in
    let last : kept.last ≡ m.last = engine.last in
    let falls : m.time ≤ m.time + 1 = omega arith in
    let stood = engine_stands (m.time + 1) circuit m.latest (state_of circuit m) (snapshot_of m ∷ []) s.nets s.told s.work s.elements s.agenda.0 s.fan s.outputs.items s.violations.items s.evaluations s.ended s.checks.checks.now s.checks.checker s.checks.touched s.checks.named c.args.self.fits.latest (falls, tt) (all_covered m.nets s.checks.touched.list.items) k h engine.violations engine.evaluations engine.ended in
    let begins = begins_after circuit stimulus.end m kept (omega (arith, c.requires.end)) told last in
    c.tally_of.ensures.evaluations ∙ c.make_times-end.ensures.ended.shown (origin_at circuit stimulus.end m) begins stood
