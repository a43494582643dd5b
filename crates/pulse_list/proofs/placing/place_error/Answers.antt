-- The two styles of an error pulse.
use Rattle.std.proofs.Common.{ap, ◌∙◌, reverse}
use Rattle.sg_logic.specs.declared.values.Value.TheVariants.{X}
use Rattle.sg_model.proofs.AgendaLaws.{error-event, error-detect}
use Rattle.sg_model.specs.Pending.{put}
use Rattle.sg_model.specs.Agenda.{list_at, with_list}
use Rattle.pulse_list.proofs.placing.place_error.Goals as goal
use Rattle.pulse_list.proofs.placing.place_error.Goals.{in-OnEvent, in-OnDetect}

pub returns-clause-lists : goal.returns-clause-lists
returns-clause-lists g c =
    let lists = g.A.Agenda.lists in
    let d = c.args.driver in
    elim c.match-style.branch [
      | in-OnEvent w ↦ (let t = lists w.drop_last.new.self in
          rw w.in-OnEvent.is (error-event _ _ (lists c.match-style.agenda) _ d c.args.last_time c.args.present c.args.now c.args.value c.args.time c.requires.driver w.drop_last.ensures.lists
          (◌∙◌ {c = with_list t d (reverse (put (reverse (list_at t d)) c.args.present c.args.last_time X))} (ap lists w.agenda-is) w.put_last.ensures.lists) c.put_last-2.ensures.lists))
      | in-OnDetect w ↦ (let t = lists w.clear.new.self in
          rw w.in-OnDetect.is (error-detect _ _ (lists c.match-style.agenda) _ d c.args.last_time c.args.present c.args.now c.args.value c.args.time c.requires.driver w.clear.ensures.lists
          (◌∙◌ {c = with_list t d (reverse (put (reverse (list_at t d)) c.args.present c.args.now X))} (ap lists w.agenda-is) w.put_last-in-OnDetect.ensures.lists) c.put_last-2.ensures.lists))
    ]
