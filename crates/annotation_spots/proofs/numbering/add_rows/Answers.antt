-- One row more.
use Rattle.annotation_spots.proofs.RowLaws.{rows-more}
use Rattle.annotation_spots.proofs.numbering.add_rows.Goals as goal

pub loop-path-preserved : goal.loop-path-preserved
loop-path-preserved c = rows-more c.args.element c.loop-path.path c.args.spots.now.items c.loop-path.spots.items c.push.new.self.items c.loop-path.invariant c.in_ok-push.ensures.items
