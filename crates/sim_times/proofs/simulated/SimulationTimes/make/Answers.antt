use Rattle.std.specs.Prelude.{map}
use Rattle.std.proofs.Common.{ℕ, ◌+◌, ◌∙◌, ap, arith}
use Rattle.std.proofs.lemmas.Result.{err_from_is_err_and}
use Rattle.sg_stimulus.specs.Seen.{set_seen, stimulus_seen}
use Rattle.sg_stimulus.specs.Stimulus.{sets_at}
use Rattle.sg_model.specs.Time.{Run}
use Rattle.sim_times.specs.Simulations.{StandsBetween, StandsFor}
use Rattle.sim_times.proofs.SimulatedLaws.{none_made, hand_ready, stands_later, time_made}
use Rattle.sim_times.proofs.simulated.SimulationTimes.make.Goals as goal

pub returns-in_err-hand_in-clause-made : goal.returns-in_err-hand_in-clause-made
returns-in_err-hand_in-clause-made g c =
    let s = c.args.self.now in
    let p = err_from_is_err_and c.from_residual.result c.from_residual.ensures.1 in
    let stands : ℕ → Run → Type 0 = λ n r. StandsBetween s.nets (g.A.Agenda.lists s.agenda) (g.E.Elements.states s.elements) (g.C.Checks.stands s.checks s.nets.values.items) s.violations.items s.evaluations s.ended n r in
    none_made (g.E.Elements.machine s.elements) (sets_at (stimulus_seen s.stimulus.now).steps) c.args.bound c.args.now (stands c.args.now) (stands (c.args.now + 1)) s.evaluations c.args.steps.now c.from_residual.result p.0 (λ r h. h.run.evaluations) p.1 p.2

pub make_time-requires-clause-ready : goal.make_time-requires-clause-ready
make_time-requires-clause-ready g c =
    let s = c.args.self.now in (
      hand_ready _ c.args.now (g.E.Elements.machine s.elements) (g.E.Elements.net_count s.elements) s.fan s.outputs.items s.nets s.told s.work (g.A.Agenda.lists s.agenda) (g.E.Elements.states s.elements) (g.C.Checks.violated s.checks) (g.C.Checks.notifiers s.checks) s.handed.items c.hand_in.new.handed.items c.sets_of.result.now
          s.ended s.violations.items (stimulus_seen s.stimulus.now) c.requires.ready.0 c.requires.ready.1.1 c.in_ok-hand_in.ensures c.sets_of.ensures,
      c.requires.ready.1.0,
    )

pub returns-clause-made : goal.returns-clause-made
returns-clause-made g c =
    let s = c.args.self.now in
    let t = c.make_time.new.rounds in
    let lists = g.A.Agenda.lists in
    let states = g.E.Elements.states in
    let mid : Run → Type 0 = λ r. StandsFor s.nets (lists s.agenda) (states s.elements) (g.C.Checks.stands s.checks s.nets.values.items) s.violations.items s.evaluations c.args.now r in
    let late : Run → Type 0 = λ r. StandsFor t.nets (lists t.agenda) (states t.elements) (g.C.Checks.stands t.checks t.nets.values.items) t.violations.items t.evaluations c.args.now r in
    let stands : Run → Type 0 = λ r. StandsBetween s.nets (lists s.agenda) (states s.elements) (g.C.Checks.stands s.checks s.nets.values.items) s.violations.items s.evaluations s.ended c.args.now r in
    let after : Run → Type 0 = λ r. StandsBetween t.nets (lists t.agenda) (states t.elements) (g.C.Checks.stands t.checks t.nets.values.items) t.violations.items t.evaluations c.len-self.result (c.args.now + 1) r in
    time_made (g.E.Elements.machine s.elements) (sets_at (stimulus_seen s.stimulus.now).steps) c.args.bound c.args.now (map (λ x. set_seen x) c.hand_in.new.handed.items) mid late stands after t.evaluations c.args.steps.now c.make_time.new.steps
    (ap (map (λ x. set_seen x)) c.in_ok-hand_in.ensures ∙ c.sets_of.ensures) (λ r h. h.run)
    (λ r h. stands_later t.nets (lists t.agenda) (states t.elements) (g.C.Checks.stands t.checks t.nets.values.items) t.violations.items t.evaluations c.len-self.result c.args.now r (omega (arith, c.len-self.ensures, t.violations.ok.0)) h)
    c.in-Whole.ensures.ended
