-- All sets are behind.
use Rattle.stim_read.proofs.LastLaws.{behind-end}
use Rattle.stim_read.proofs.bits.last_of_each.Goals as goal

pub returns : goal.returns
returns c = behind-end c.args.bits.now c.loop-front.left.now c.loop-front.kept.items _ c.loop-front.seen.keys c.in_default.ensures c.reverse.ensures.items c.loop-front.invariant
