-- What the table has of the term's name.
use Rattle.std.proofs.lemmas.Result.{err_from_is_err_and}
use Rattle.vl_tree.specs.Seen.{view_term}
use Rattle.elab_bits.proofs.NamedAt.{named-at}
use Rattle.specify_model.specs.Faults.{port_faults}
use Rattle.specify_values.proofs.InTurn.{exit}
use Rattle.specify_paths.specs.Words.{such_port}
use Rattle.specify_paths.proofs.SuchPorts.{term-told, no-variable, such-port, no-such_port}
use Rattle.specify_paths.proofs.terms.check_port.Goals as goal

pub returns-in_err-check_term : goal.returns-in_err-check_term
returns-in_err-check_term c =
    exit c.from_residual.result (port_faults (such_port c.args.side) c.args.table.now (view_term c.args.term.now)) c.in_err-check_term.field-0.0
    (err_from_is_err_and c.from_residual.result c.from_residual.ensures.1)
    (term-told (such_port c.args.side) c.args.table.now (view_term c.args.term.now) c.in_err-check_term.field-0.0 c.in_err-check_term.ensures)

pub row-requires : goal.row-requires
row-requires c = (named-at c.args.table.now c.args.term.now.name.text.now c.in-Some.place c.in-Some.ensures).below

pub returns-in_default : goal.returns-in_default
returns-in_default c = no-variable (such_port c.args.side) c.args.table.now (view_term c.args.term.now) c.in_ok-check_term.ensures c.in_default.ensures

pub returns-then-is_such : goal.returns-then-is_such
returns-then-is_such c =
    such-port (such_port c.args.side) c.args.table.now (view_term c.args.term.now) c.in-Some.place c.row.result.port c.is_such.result c.in_ok-check_term.ensures c.in-Some.ensures
    c.row.ensures.port c.is_such.ensures c.if-is_such.true

pub returns : goal.returns
returns c =
    no-such_port (such_port c.args.side) c.args.table.now (view_term c.args.term.now) c.in-Some.place c.row.result.port c.is_such.result c.in-Some.ensures c.row.ensures.port c.is_such.ensures
    c.if-is_such.false
