use Rattle.std.proofs.Common.{◌≡◌, length, map, reverse, take, drop}
use Rattle.sim_rounds.specs.Moments.{pending_in}
use Rattle.sim_rounds.specs.MomentsSeen.{pending_seen}
use Rattle.sim_rounds.proofs.pausing.drain_all.Given as goal

-- what the drivers from this one on had pending was taken, and the others have it still
abbrev pub invariant-loop-driver : goal.invariant-loop-driver
invariant-loop-driver g l =
    let lists = g.A.Agenda.lists in
    record {
      many : length (lists l.agenda) ≡ length (lists l.fn.agenda);
      below : take l.driver (lists l.agenda) ≡ take l.driver (lists l.fn.agenda);
      taken : map (λ p. pending_seen p) l.pending.items ≡ reverse (pending_in l.driver (drop l.driver (lists l.fn.agenda)));
    }
