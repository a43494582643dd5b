use Rattle.std.proofs.Common.{◌≡◌, ◌++◌, length, map, reverse, take}
use Rattle.sg_model.specs.Agenda.{list_at}
use Rattle.sim_rounds.specs.Pausing.{pending_by}
use Rattle.sim_rounds.specs.MomentsSeen.{pending_seen}
use Rattle.sim_rounds.proofs.pausing.drain.Given as goal

-- the transitions that are left, behind those that were taken, are all
abbrev pub invariant-loop-time : goal.invariant-loop-time
invariant-loop-time g l =
    let lists = g.A.Agenda.lists in
    record {
      many : length (lists l.agenda) ≡ length (lists l.fn.agenda);
      below : take l.driver (lists l.agenda) ≡ take l.driver (lists l.fn.agenda);
      whole : map (λ p. pending_seen p) l.pending.items ++ map (pending_by l.driver) (reverse (list_at (lists l.agenda) l.driver)) ≡ map (λ p. pending_seen p) l.fn.pending.items ++ map (pending_by l.driver) (reverse (list_at (lists l.fn.agenda) l.driver));
    }

abbrev pub decreases-loop-time : goal.decreases-loop-time
decreases-loop-time g l = length (list_at (g.A.Agenda.lists l.agenda) l.driver)
