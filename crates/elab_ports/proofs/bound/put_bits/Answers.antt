-- One bit more.
use Rattle.elab_ports.proofs.Putting.{put-next}
use Rattle.elab_ports.proofs.bound.put_bits.Goals as goal

pub loop-offset-preserved : goal.loop-offset-preserved
loop-offset-preserved c = put-next c.args.start c.loop-offset.offset _ c.args.bits.now c.loop-offset.row c.args.row.now c.loop-offset-test.true c.requires.fits c.loop-offset.invariant
