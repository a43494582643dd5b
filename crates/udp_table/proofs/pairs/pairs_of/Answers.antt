use Rattle.std.proofs.Common.{arith}
use Rattle.udp_table.proofs.PairLaws.{pairs-next}
use Rattle.udp_table.proofs.pairs.pairs_of.Goals as goal

pub loop-j-preserved : goal.loop-j-preserved
loop-j-preserved c =
    pairs-next c.args.code c.args.input c.loop-j.rest c.loop-j.j c.pair.result c.args.old c.digit_value.result c.loop-j.pairs
    c.loop-j.invariant (omega arith) c.digit_value.ensures c.pair.ensures
