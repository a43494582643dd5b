-- A name that is of one bit is declared, and its bit is the first of its variable.
use Rattle.vl_tree.specs.Seen.{view_name}
use Rattle.elab_bits.proofs.NamedAt.{named-at}
use Rattle.specify_checks.proofs.CopyPlaces.{never-missing, named-is}
use Rattle.specify_checks.proofs.RegBits.{start-in_row, start-seen}
use Rattle.specify_checks.proofs.copies.named_bit.Goals as goal

pub returns-in_err-place-clause-bit : goal.returns-in_err-place-clause-bit
returns-in_err-place-clause-bit c = λ named. absurd (never-missing c.args.table.now c.args.name c.in_ok-name.field-0 c.in_ok-name.was named c.in_err-place.ensures)

pub row-requires : goal.row-requires
row-requires c = (named-at c.args.table.now c.in_ok-name.field-0.text.now c.in_ok-place.place c.in_ok-place.ensures).below

pub returns-clause-bit : goal.returns-clause-bit
returns-clause-bit c = λ named.
    named-is c.args.table.now c.args.name c.in_ok-name.field-0 c.row.result.start c.in_ok-name.was
    (start-seen c.args.table.now (view_name c.in_ok-name.field-0) c.in_ok-place.place c.row.result.start c.in_ok-place.ensures c.row.ensures.start)

pub returns-clause-row : goal.returns-clause-row
returns-clause-row c = start-in_row c.args.table.now (view_name c.in_ok-name.field-0) c.in_ok-place.place c.row.result.start c.in_ok-place.ensures c.row.ensures.start
