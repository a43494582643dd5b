use Rattle.std.proofs.Common.{◌≡◌, ◌+◌, length}
use Rattle.std.specs.Vec.{vec_capacity}
use Rattle.immediate_list.specs.Standings.{lists_of, IsImmediate}
use Rattle.immediate_list.proofs.flushing.flush.Given as goal

-- what is pending stays, and so does the room that isn't meant for what is listed
abbrev pub invariant-loop-driver : goal.invariant-loop-driver
invariant-loop-driver g l = record {
  is : IsImmediate l.front.standings.items l.front.drivers.items (vec_capacity l.front.drivers) (g.A.Agenda.spare l.agenda) (g.A.Agenda.lists l.agenda);
  lists : lists_of l.time l.front.standings.items (g.A.Agenda.lists l.agenda) ≡ lists_of l.time l.fn.front.standings.items (g.A.Agenda.lists l.fn.agenda);
  spare : g.A.Agenda.spare l.agenda + length l.fn.front.drivers.items ≡ g.A.Agenda.spare l.fn.agenda + length l.front.drivers.items;
  many : length l.front.standings.items ≡ length l.fn.front.standings.items;
}

abbrev pub decreases-loop-driver : goal.decreases-loop-driver
decreases-loop-driver g l = length l.front.drivers.items
