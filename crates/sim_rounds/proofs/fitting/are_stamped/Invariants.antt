use Rattle.std.proofs.Common.{ℕ, ◌<◌, map}
use Rattle.sg_model.specs.Values.{value_at}
use Rattle.sim_rounds.specs.Fitting.{net_in}
use Rattle.sim_rounds.specs.Moments.{IsStampOf, stamp_at}
use Rattle.sim_rounds.specs.MomentsSeen.{change_seen}
use Rattle.sim_rounds.proofs.fitting.are_stamped.Given as goal

abbrev pub invariant-loop-index : goal.invariant-loop-index
invariant-loop-index l = (k : ℕ) → k < l.index → IsStampOf l.time (net_in l.nets k).driver (value_at l.values k) (stamp_at (map change_seen l.stamps) k)
