use Rattle.std.proofs.Common.{[], arith, get_or, refl}
use Rattle.wave_out.specs.Lines.{bits_line}
use Rattle.wave_out.proofs.TextLaws.{numbered_step}
use Rattle.wave_out.proofs.blocks.push_values.Goals as goal

pub loop-k-preserved : goal.loop-k-preserved
loop-k-preserved g c =
    numbered_step (bits_line (g.N.Nets.values c.args.nets.now)) c.loop-k.text.items c.push_line.new.text.items _ c.args.variables.now c.loop-k.k c.loop-k.k _ (get_or c.args.variables.now c.loop-k.k []) []
    (omega (arith, c.loop-k-test.true, c.requires.count)) (omega arith) refl c.in_ok-push_line.ensures c.loop-k.invariant
