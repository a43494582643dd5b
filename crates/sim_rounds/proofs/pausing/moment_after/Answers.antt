use Rattle.std.proofs.Common.{◌∙◌, ap, map, refl}
use Rattle.sg_circuit.specs.Circuit.{Circuit}
use Rattle.fan_round.specs.Nets.{stamp_seen}
use Rattle.sim_rounds.specs.Moments.{udp_states}
use Rattle.sim_rounds.specs.MomentsSeen.{change_seen, moment_seen}
use Rattle.sim_rounds.proofs.PausingLaws.{changes_kept, has_come_to}
use Rattle.sim_rounds.proofs.pausing.moment_after.Goals as goal

pub returns-clause-moment : goal.returns-clause-moment
returns-clause-moment g c =
    let s = c.args.simulation.now in
    has_come_to c.args.circuit.now s.nets (g.A.Agenda.lists s.agenda) s.elements.states s.checks.checker s.checks.touched s.violations.items s.evaluations s.ended s.last c.args.time c.args.evaluated
    (moment_seen (record { time = c.args.time; nets = c.in_ok-nets.nets; stamps = c.in_ok-stamps.stamps; pending = c.in_ok-pending.pending; udps = c.in_ok-udps.udps; latest = c.in_ok-latest.latest; last = s.last; evaluations = c.saturating_add.result }))
    refl
    (c.in_ok-nets.ensures.items ∙ c.deref.ensures.value)
    (ap (map change_seen) c.in_ok-stamps.ensures ∙ (changes_kept c.deref-2.result.now ∙ ap (map stamp_seen) c.deref-2.ensures.value))
    c.in_ok-pending.ensures
    (c.in_ok-udps.ensures ∙ (ap (udp_states _) c.states.ensures ∙ ap (λ (x : Circuit). udp_states x.elements s.elements.states) c.parts-parts.ensures.seen))
    c.in_ok-latest.ensures
    refl
    c.saturating_add.ensures
