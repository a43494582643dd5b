-- A name that the table hasn't is no port, nor is an inner variable.
use Rattle.std.proofs.Common.{sym, ◌∙◌}
use Rattle.elab_bits.proofs.NamedAt.{named-at}
use Rattle.elab_modules.proofs.PortRows.{none-named, no-port, port-found}
use Rattle.elab_modules.proofs.ports.port_row.Goals as goal

pub returns-in_err-place-clause-told : goal.returns-in_err-place-clause-told
returns-in_err-place-clause-told c = λ m is h. rw c.from_residual.ensures (none-named c.args.table.now m c.args.name.now c.in_err-place.ensures is)

pub row-row-requires : goal.row-row-requires
row-row-requires c = (named-at c.args.table.now c.args.name.now c.in_ok-place.place c.in_ok-place.ensures).below

pub returns-then-not-is_port-clause-told : goal.returns-then-not-is_port-clause-told
returns-then-not-is_port-clause-told c = λ m is h.
    no-port c.args.table.now m c.args.name.now c.in_ok-place.place c.row-row.result c.in_ok-place.ensures is h c.row-row.ensures.port (sym c.is_port.ensures ∙ c.if-not-is_port.true)

pub returns-clause-told : goal.returns-clause-told
returns-clause-told c = λ m is h.
    port-found c.args.table.now m c.args.name.now c.in_ok-place.place c.row-row.result c.in_ok-place.ensures is h c.row-row.ensures.port c.row-row.ensures.range
    (sym c.is_port.ensures ∙ c.if-not-is_port.false)
