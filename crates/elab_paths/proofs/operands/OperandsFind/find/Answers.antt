-- The variable of a name is in the table, and its bits are in the row.
use Rattle.elab_bits.proofs.NamedAt.{named-at}
use Rattle.elab_paths.proofs.operands.OperandsFind.find.Goals as goal

pub row-variable-requires : goal.row-variable-requires
row-variable-requires c = (named-at c.args.self.now.table.now c.bytes.result.now c.in_ok-find.field-0 c.in_ok-find.ensures).below
