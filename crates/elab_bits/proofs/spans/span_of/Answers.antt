-- A variable's bits end where those of the next begin.
use Rattle.std.proofs.Common.{arith}
use Rattle.elab_bits.proofs.InRow.{start-next}
use Rattle.elab_bits.proofs.spans.span_of.Goals as goal

pub overflow_sub-result : goal.overflow_sub-result
overflow_sub-result c = omega (arith, start-next c.args.table.now c.args.place c.requires, c.row-start.ensures.start, c.end_of-end.ensures)

pub returns-clause-width : goal.returns-clause-width
returns-clause-width c = omega (arith, start-next c.args.table.now c.args.place c.requires, c.row-start.ensures.start, c.end_of-end.ensures)
