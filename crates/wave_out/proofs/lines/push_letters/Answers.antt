use Rattle.std.proofs.Common.{refl, get_or}
use Rattle.wave_out.proofs.BlockLaws.{letters_more}
use Rattle.wave_out.proofs.lines.push_letters.Goals as goal

pub loop-net-preserved : goal.loop-net-preserved
loop-net-preserved g c =
    letters_more c.args.text.now.items c.loop-net.text.items c.push.new.self.items (g.N.Nets.values c.args.nets.now) c.args.bits.now c.loop-net.net-index (get_or c.args.bits.now c.loop-net.net-index 0)
    c.letter_of.result c.at.result c.loop-net-test.true refl c.at.ensures c.letter_of.ensures c.loop-net.invariant c.in_ok-push.ensures.items
