-- One row more is placed.
use Rattle.std.proofs.Common.{rules}
use Rattle.elab_variables.proofs.Placing.{width-at, next-row}
use Rattle.elab_variables.proofs.rows.set_starts.Goals as goal

pub width-width-requires : goal.width-width-requires
width-width-requires c = width-at c.loop-row.rows c.args.rows.now c.loop-row.row-index _ (search rules) (search rules) c.loop-row.invariant.left c.requires.wide

pub loop-row-preserved : goal.loop-row-preserved
loop-row-preserved c =
    let n = next-row c.loop-row.rows c.args.rows.now c.loop-row.row-index c.loop-row.bits c.in_ok-bits.bits _ (search rules) (search rules) (search rules)
    c.loop-row.invariant.placed c.loop-row.invariant.left c.loop-row.invariant.count in
    record { placed = n.0; left = n.1; count = n.2 }
