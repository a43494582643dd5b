use Rattle.std.proofs.Common.{None, below_more, map}
use Rattle.sg_logic.specs.declared.values.Value.TheVariants.{Zero}
use Rattle.sg_model.specs.Values.{value_at}
use Rattle.sim_rounds.specs.Fitting.{AreStamped, net_in}
use Rattle.sim_rounds.specs.Moments.{IsStampOf, stamp_at}
use Rattle.sim_rounds.specs.MomentsSeen.{change_seen}
use Rattle.sim_rounds.proofs.FittingLaws.{stamp_read}
use Rattle.sim_rounds.proofs.VerdictLaws.{fails, refuted}
use Rattle.sim_rounds.proofs.fitting.are_stamped.Goals as goal

pub loop-index-preserved : goal.loop-index-preserved
loop-index-preserved c =
    below_more (λ k. IsStampOf c.args.time (net_in c.args.nets.now k).driver (value_at c.args.values.now k) (stamp_at (map change_seen c.args.stamps.now) k)) c.loop-index.index c.loop-index.invariant
    ((stamp_read c.is_stamp.result c.args.time c.args.nets.now c.args.values.now c.args.stamps.now c.loop-index.index c.index-nets-index.result Zero None c.loop-index-test.true c.requires.values c.requires.stamps c.index-nets-index.is c.is_stamp.ensures).0 c.if-not-is_stamp.false)

pub returns-then-not-is_stamp : goal.returns-then-not-is_stamp
returns-then-not-is_stamp c =
    refuted (AreStamped c.args.time c.args.nets.now c.args.values.now (map change_seen c.args.stamps.now))
    (λ all. fails c.is_stamp.result (IsStampOf c.args.time (net_in c.args.nets.now c.loop-index.index).driver (value_at c.args.values.now c.loop-index.index) (stamp_at (map change_seen c.args.stamps.now) c.loop-index.index))
    (stamp_read c.is_stamp.result c.args.time c.args.nets.now c.args.values.now c.args.stamps.now c.loop-index.index c.index-nets-index.result Zero None c.loop-index-test.true c.requires.values c.requires.stamps c.index-nets-index.is c.is_stamp.ensures)
    c.if-not-is_stamp.true (all c.loop-index.index c.loop-index-test.true))
