use Rattle.std.specs.Prelude.{◌-◌, ◌≤◌, List, [], length, map, take}
use Rattle.std.proofs.Common.{◌≡◌, ℕ, true, ◌∙◌, sym, ap, subst, refl}
use Rattle.sg_logic.specs.declared.values.Value.{Value}
use Rattle.sg_model.specs.Machine.{Machine, Violation}
use Rattle.sg_stimulus.specs.Applied.{IsApplied}
use Rattle.sg_stimulus.specs.Seen.{stimulus_seen}
use Rattle.sg_stimulus.specs.Stimulus.{Stimulus, sets_at}
use Rattle.sg_circuit.specs.Circuit.{Circuit}
use Rattle.time_checks.specs.declared.latest.Latest.{Latest}
use Rattle.time_checks.specs.Seen.{violation_seen}
use Rattle.time_checks.specs.Violations.{latest_events}
use Rattle.sim_times.specs.Runs.{HasEndedFrom, origin_of}
use Rattle.sim_times.specs.Simulations.{kept_of}
use Rattle.sim_times.specs.Times.{Kept}
use Rattle.sim_rounds.specs.Engines.{AreChecksAt, IsEngineAt}
use Rattle.sim_machine.specs.Simulated.{machine_since}
use Rattle.sim_rounds.proofs.EngineLaws.{engine_ready, engine_stands}
use Rattle.sim_rounds.proofs.MachineLaws.{lawful_since}
use Rattle.sim_rounds.specs.Setting.{setting_of}
use Rattle.sim_machine.specs.Simulated.{first_state}
use Rattle.sim_rounds.proofs.SimLaws.{begins_first, can_begin}
use Rattle.sim_rounds.proofs.sim.Sim.run.Goals as goal

pub make_times-end-requires-clause-ready : goal.make_times-end-requires-clause-ready
make_times-end-requires-clause-ready g c =
    let s = c.simulate-simulation.result in
    let engine = c.simulate-simulation.ensures in
    let circuit : Circuit = c.args.self.circuit.now in
    let h : IsEngineAt circuit [] (first_state circuit) s.nets s.told s.work s.elements s.agenda.0 s.fan s.outputs.items = engine.engine circuit [] (first_state circuit) c.args.self.fresh in
    let k : AreChecksAt circuit [] [] s.checks.checks.now s.checks.checker s.checks.touched s.checks.named = engine.checks circuit [] [] c.args.self.unseen in
    let applied : IsApplied circuit (stimulus_seen s.stimulus.now) = subst (λ x. IsApplied circuit (stimulus_seen x)) (sym engine.stimulus) c.requires.stimulus in
    engine_ready true 0 circuit [] (first_state circuit) [] s.nets s.told s.work s.elements s.agenda.0 s.fan s.outputs.items s.handed.items s.ended s.violations.items (stimulus_seen s.stimulus.now) s.checks.checks.now s.checks.checker s.checks.touched s.checks.named
    c.recall_closed.ensures applied (can_begin circuit) k h engine.handed engine.ended

pub make_times-end-requires-clause-law : goal.make_times-end-requires-clause-law
make_times-end-requires-clause-law g c = lawful_since c.simulate-simulation.result.elements.circuit c.simulate-simulation.result.elements.earlier

pub make_times-end-requires-clause-told : goal.make_times-end-requires-clause-told
make_times-end-requires-clause-told g c = (c.simulate-simulation.ensures.engine c.args.self.circuit.now [] (first_state c.args.self.circuit.now) c.args.self.fresh).values_told

pub make_times-end-requires-clause-nets : goal.make_times-end-requires-clause-nets
make_times-end-requires-clause-nets g c =
    let s = c.simulate-simulation.result in
    let circuit : Circuit = c.args.self.circuit.now in
    let many : length circuit.nets ≡ length s.nets.values.items = sym (ap length (c.simulate-simulation.ensures.engine circuit [] (first_state circuit) c.args.self.fresh).values ∙ (can_begin circuit).value_of_each) in
    subst (λ n. length (g.W.Watch.circuit c.args.watcher.now).nets ≤ n) many c.requires.nets

pub returns-clause-ended : goal.returns-clause-ended
returns-clause-ended g c =
    let s = c.simulate-simulation.result in
    let engine = c.simulate-simulation.ensures in
    let circuit : Circuit = c.args.self.circuit.now in
    let h : IsEngineAt circuit [] (first_state circuit) s.nets s.told s.work s.elements s.agenda.0 s.fan s.outputs.items = engine.engine circuit [] (first_state circuit) c.args.self.fresh in
    let k : AreChecksAt circuit [] [] s.checks.checks.now s.checks.checker s.checks.touched s.checks.named = engine.checks circuit [] [] c.args.self.unseen in
    let stimulus : Stimulus = stimulus_seen c.args.stimulus.now in
    let kept : Kept = kept_of s.told (λ ss. latest_events s.checks.checker.earlier s.checks.checker.checks ss) s.ended s.violations.items s.last (stimulus_seen s.stimulus.now) in
    let told : kept.told ≡ (first_state circuit).values = h.values_told ∙ h.values in
    let last : kept.last ≡ 0 = engine.last in
    let stood = engine_stands 0 circuit [] (first_state circuit) [] s.nets s.told s.work s.elements s.agenda.0 s.fan s.outputs.items s.violations.items s.evaluations s.ended s.checks.checks.now s.checks.checker s.checks.touched s.checks.named refl tt tt k h engine.violations engine.evaluations engine.ended in
    let begins = begins_first circuit stimulus c.args.rounds kept told last in
    let w = g.W.Watch in
    let made = c.make_times-end.new in
    let machine : machine_since s.elements.circuit s.elements.earlier ≡ machine_since circuit [] = ap (λ x. machine_since x s.elements.earlier) h.circuit_of ∙ ap (λ (ls : List Latest). machine_since circuit ls) h.earlier_of in
    let P : Machine → (ℕ → List (ℕ × Value)) → List Violation → ℕ → Type 0 =
    λ x sets vs l. HasEndedFrom w.stands w.broken c.args.watcher.now made.watcher c.args.shelf.now made.shelf (record { machine = x; first = (first_state circuit); sets = sets; bound = c.args.rounds; end = stimulus.end }) (origin_of (setting_of circuit stimulus c.args.rounds)) vs l (made.steps - c.args.steps.now) c.make_times-end.result in
    let found : List Violation = map (λ v. violation_seen v) c.tally_of.result.violations.items in
    subst (λ x. P x (sets_at stimulus.steps) found c.tally_of.result.last) machine
    (subst (λ sets. P (machine_since s.elements.circuit s.elements.earlier) sets found c.tally_of.result.last) (ap (λ x. sets_at (stimulus_seen x).steps) engine.stimulus)
    (subst (λ vs. P (machine_since s.elements.circuit s.elements.earlier) (sets_at (stimulus_seen s.stimulus.now).steps) vs c.tally_of.result.last) (sym c.tally_of.ensures.violations)
    (subst (λ l. P (machine_since s.elements.circuit s.elements.earlier) (sets_at (stimulus_seen s.stimulus.now).steps) (take made.times.ended (map (λ v. violation_seen v) made.times.violations.items)) l) (sym c.tally_of.ensures.last)
    (c.make_times-end.ensures.ended.ended (first_state circuit) (origin_of (setting_of circuit stimulus c.args.rounds)) begins stood))))

pub returns-clause-evaluations : goal.returns-clause-evaluations
returns-clause-evaluations g c =
    let s = c.simulate-simulation.result in
    let engine = c.simulate-simulation.ensures in
    let circuit : Circuit = c.args.self.circuit.now in
    let h : IsEngineAt circuit [] (first_state circuit) s.nets s.told s.work s.elements s.agenda.0 s.fan s.outputs.items = engine.engine circuit [] (first_state circuit) c.args.self.fresh in
    let k : AreChecksAt circuit [] [] s.checks.checks.now s.checks.checker s.checks.touched s.checks.named = engine.checks circuit [] [] c.args.self.unseen in
    let stimulus : Stimulus = stimulus_seen c.args.stimulus.now in
    let kept : Kept = kept_of s.told (λ ss. latest_events s.checks.checker.earlier s.checks.checker.checks ss) s.ended s.violations.items s.last (stimulus_seen s.stimulus.now) in
    let told : kept.told ≡ (first_state circuit).values = h.values_told ∙ h.values in
    let last : kept.last ≡ 0 = engine.last in
    let stood = engine_stands 0 circuit [] (first_state circuit) [] s.nets s.told s.work s.elements s.agenda.0 s.fan s.outputs.items s.violations.items s.evaluations s.ended s.checks.checks.now s.checks.checker s.checks.touched s.checks.named refl tt tt k h engine.violations engine.evaluations engine.ended in
    let begins = begins_first circuit stimulus c.args.rounds kept told last in
    c.tally_of.ensures.evaluations ∙ c.make_times-end.ensures.ended.shown (origin_of (setting_of circuit stimulus c.args.rounds)) begins stood
