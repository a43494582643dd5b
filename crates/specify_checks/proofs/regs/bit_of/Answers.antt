-- What the table has of the notifier's name.
use Rattle.vl_tree.specs.Seen.{view_name}
use Rattle.elab_bits.proofs.NamedAt.{named-at}
use Rattle.specify_checks.proofs.RegBits.{unknown-told, no_reg-told, reg-faultless, start-seen, start-in_row}
use Rattle.specify_checks.proofs.regs.bit_of.Goals as goal

pub returns-in_default-clause-told : goal.returns-in_default-clause-told
returns-in_default-clause-told c = unknown-told c.args.table.now (view_name c.args.name) c.in_default.ensures

pub row-row-requires : goal.row-row-requires
row-row-requires c = (named-at c.args.table.now c.args.name.text.now c.in-Some.place c.in-Some.ensures).below

pub returns-then-not-row-clause-told : goal.returns-then-not-row-clause-told
returns-then-not-row-clause-told c = no_reg-told c.args.table.now (view_name c.args.name) c.in-Some.place c.row-row.result.start c.in-Some.ensures c.row-row.result.reg c.row-row.ensures.reg c.if-not-row.true

pub returns-clause-bit : goal.returns-clause-bit
returns-clause-bit c = start-seen c.args.table.now (view_name c.args.name) c.in-Some.place c.row-row.result.start c.in-Some.ensures c.row-row.ensures.start

pub returns-clause-row : goal.returns-clause-row
returns-clause-row c = start-in_row c.args.table.now (view_name c.args.name) c.in-Some.place c.row-row.result.start c.in-Some.ensures c.row-row.ensures.start

pub returns-clause-told : goal.returns-clause-told
returns-clause-told c = reg-faultless c.args.table.now (view_name c.args.name) c.in-Some.place c.row-row.result.start c.in-Some.ensures c.row-row.result.reg c.row-row.ensures.reg c.if-not-row.false
