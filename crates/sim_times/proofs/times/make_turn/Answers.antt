use Rattle.std.proofs.Common.{◌∙◌, subst}
use Rattle.sim_times.specs.Times.{AfterRound, ToggleEnds}
use Rattle.sim_times.proofs.TimeLaws.{went_round, stopped_round, turned_toggle}
use Rattle.sim_times.proofs.times.make_turn.Goals as goal

pub returns-in-Ok-clause-turned : goal.returns-in-Ok-clause-turned
returns-in-Ok-clause-turned g c =
    let e = g.R.Rounds in
    let old = c.args.rounds.now in
    let mid = c.needs.new.self in
    let new = c.round.new.self in
    let went : AfterRound (e.machine old) c.args.now c.args.must (e.handed mid) (e.stands mid c.args.now) (e.stands new c.args.now) c.args.steps.now c.round.new.steps =
    subst (λ m. AfterRound m c.args.now c.args.must (e.handed mid) (e.stands mid c.args.now) (e.stands new c.args.now) c.args.steps.now c.round.new.steps) c.needs.ensures.machine c.in-Ok.ensures.stands in
    went_round (e.machine old) c.args.now c.args.must (e.handed old) (e.handed mid) (e.stands old c.args.now) (e.stands mid c.args.now) (e.stands new c.args.now) c.args.steps.now c.round.new.steps c.needs.result c.if-needs.true c.needs.ensures.needs c.needs.ensures.handed c.needs.ensures.stands went

pub returns-in-Err-clause-turned : goal.returns-in-Err-clause-turned
returns-in-Err-clause-turned g c =
    let e = g.R.Rounds in
    let old = c.args.rounds.now in
    stopped_round (e.machine old) c.args.now c.args.must (e.handed old) (e.stands old c.args.now) (e.counted old) (e.counted c.round.new.self) c.args.steps.now c.round.new.steps (g.met.R.Rounds.counts old c.args.now) (c.in-Err.ensures.counted ∙ c.needs.ensures.counted) c.in-Err.ensures.no_step

pub returns-clause-turned : goal.returns-clause-turned
returns-clause-turned g c =
    let e = g.R.Rounds in
    let old = c.args.rounds.now in
    let mid = c.needs.new.self in
    let new = c.toggle.new.rounds in
    let toggled : ToggleEnds (e.machine old) c.args.now (e.stands mid c.args.now) (e.stands new c.args.now) (e.counted new) c.args.steps.now c.toggle.new.steps c.toggle.result =
    subst (λ m. ToggleEnds m c.args.now (e.stands mid c.args.now) (e.stands new c.args.now) (e.counted new) c.args.steps.now c.toggle.new.steps c.toggle.result) c.needs.ensures.machine c.toggle.ensures.toggled in
    turned_toggle (e.machine old) c.args.now c.args.must (e.handed old) (e.stands old c.args.now) (e.stands mid c.args.now) (e.stands new c.args.now) (e.counted new) c.args.steps.now c.toggle.new.steps c.needs.result c.toggle.result c.if-needs.false c.needs.ensures.needs c.needs.ensures.stands toggled
