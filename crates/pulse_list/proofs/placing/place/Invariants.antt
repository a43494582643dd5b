-- The rule applied to what is left comes to the same.
use Rattle.std.proofs.Common.{◌≤◌, length}
use Rattle.sg_model.proofs.AgendaLaws.{GoesOn}
use Rattle.sg_model.specs.Agenda.{list_at}
use Rattle.pulse_list.specs.Seen.{style_seen}
use Rattle.pulse_list.proofs.placing.place.Given as goal

-- some pairs were dropped
abbrev pub invariant-loop-last_time : goal.invariant-loop-last_time
invariant-loop-last_time g l =
    let lists = g.A.Agenda.lists in
    record {
      goes_on : GoesOn (lists l.fn.agenda) (lists l.agenda) l.driver l.present l.now l.value l.time l.reject l.error (style_seen l.style);
      spare : g.A.Agenda.spare l.fn.agenda ≤ g.A.Agenda.spare l.agenda;
    }

abbrev pub decreases-loop-last_time : goal.decreases-loop-last_time
decreases-loop-last_time g l = length (list_at (g.A.Agenda.lists l.agenda) l.driver)
