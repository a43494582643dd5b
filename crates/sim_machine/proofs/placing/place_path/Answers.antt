use Rattle.std.proofs.Common.{◌∙◌, ap, sym, subst, All, length}
use Rattle.sg_model.specs.Agenda.{list_at, with_list}
use Rattle.sg_circuit.specs.PathsSeen.{spanned}
use Rattle.path_pick.specs.Within.{IsPathWithin}
use Rattle.pulse_list.proofs.EarliestLaws.{none_below-reverse}
use Rattle.sim_machine.proofs.PlacingLaws.{inputs_within, path_placed, paths_within, picked_is}
use Rattle.sim_machine.proofs.placing.place_path.Goals as goal

pub pick-picked-requires-clause-paths : goal.pick-picked-requires-clause-paths
pick-picked-requires-clause-paths g c =
    subst (λ ts. All (λ p. IsPathWithin (length (g.N.Nets.values c.args.nets.now)) ts p) c.paths_in-paths.result.now) (sym c.deref.ensures.value)
    (paths_within c.args.parts.now.conditions.items c.args.parts.now.leg_timings.items c.args.parts.now.paths.items c.args.paths (length (g.N.Nets.values c.args.nets.now)) c.paths_in-paths.result.now c.paths_in-paths.ensures
    c.requires.indexed c.requires.delays c.requires.paths)

pub pick-picked-requires-clause-stamps : goal.pick-picked-requires-clause-stamps
pick-picked-requires-clause-stamps g c =
    inputs_within (length (g.N.Nets.values c.args.nets.now)) (length (g.N.Stamps.stamps c.args.nets.now)) c.args.parts.now.leg_timings.items c.args.parts.now.conditions.items c.args.parts.now.paths.items c.args.paths c.paths_in-paths.result.now
    c.paths_in-paths.ensures c.requires.stamps c.requires.paths

pub place-requires-clause-from_now : goal.place-requires-clause-from_now
place-requires-clause-from_now g c = none_below-reverse c.args.now _ c.requires.from_now

pub returns-clause-lists : goal.returns-clause-lists
returns-clause-lists g c =
    c.place.ensures.lists
    ∙ ap (λ l. with_list (g.A.Agenda.lists c.args.agenda.now) c.args.element l)
    (path_placed c.pick-picked.result _ c.args.style (list_at (g.A.Agenda.lists c.args.agenda.now) c.args.element) c.args.present c.args.now c.args.value
    (picked_is c.args.parts.now.conditions.items c.args.parts.now.leg_timings.items c.deref.result.now (spanned c.args.parts.now.paths.items c.args.paths) c.paths_in-paths.result.now (g.N.Nets.values c.args.nets.now) (g.N.Stamps.stamps c.args.nets.now) c.args.now c.end_value-from.result _ c.args.value c.pick-picked.result
    c.deref.ensures.value c.paths_in-paths.ensures c.end_value-from.ensures (c.pick-picked.ensures.picked c.args.parts.now.conditions.items)))
