use Rattle.std.proofs.Common.{◌<◌, ◌^◌, ◌∙◌, ap, arith}
use Rattle.sg_model.specs.Agenda.{list_at, with_list}
use Rattle.sg_circuit.specs.Timings.{timing_between}
use Rattle.sg_model.specs.Pending.{last_value}
use Rattle.sg_circuit.specs.TimingsSeen.{leg_timing_seen}
use Rattle.path_pick.specs.Pass.{pulse_by}
use Rattle.pulse_list.proofs.EarliestLaws.{none_below-reverse}
use Rattle.sim_machine.proofs.PlacingLaws.{are_near, leg_placed}
use Rattle.sim_machine.proofs.placing.place_leg.Goals as goal

pub overflow_add-time : goal.overflow_add-time
overflow_add-time g c =
    let near : c.pulse_between-pulse.result.delay < 2 ^ 60 = c.pulse_between-pulse.ensures.near (are_near (leg_timing_seen c.args.timing.now) c.requires.timings) in
    let now = c.requires.now in
    omega (arith, near, now)

pub place-requires-clause-from_now : goal.place-requires-clause-from_now
place-requires-clause-from_now g c = none_below-reverse c.args.now _ c.requires.from_now

pub returns-clause-lists : goal.returns-clause-lists
returns-clause-lists g c =
    c.place.ensures.lists
    ∙ ap (λ l. with_list (g.A.Agenda.lists c.args.agenda.now) c.args.element l)
    (leg_placed c.pulse_between-pulse.result (timing_between (leg_timing_seen c.args.timing.now) (last_value (list_at (g.A.Agenda.lists c.args.agenda.now) c.args.element) c.args.present) c.args.value) (list_at (g.A.Agenda.lists c.args.agenda.now) c.args.element) c.args.present c.args.now c.args.value
    (c.pulse_between-pulse.ensures.pulse ∙ ap (λ f. pulse_by (timing_between (leg_timing_seen c.args.timing.now) f c.args.value)) c.end_value-from.ensures))
