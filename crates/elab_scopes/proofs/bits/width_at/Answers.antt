-- The bits of one variable more.
use Rattle.std.proofs.Common.{arith}
use Rattle.elab_bits.proofs.InRow.{start-next}
use Rattle.elab_scopes.proofs.bits.width_at.Goals as goal

pub overflow_sub-result : goal.overflow_sub-result
overflow_sub-result c = let e = start-next c.args.table.now c.args.place c.requires in omega (arith, e, c.end_of.ensures, c.row.ensures.start)

pub returns : goal.returns
returns c = let e = start-next c.args.table.now c.args.place c.requires in omega (arith, e, c.end_of.ensures, c.row.ensures.start)
