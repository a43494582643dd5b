-- The first term that has a fault is refused.
use Rattle.std.specs.Prelude.{flat_map, map}
use Rattle.std.proofs.lemmas.Result.{err_from_is_err_and}
use Rattle.vl_tree.specs.Seen.{view_term}
use Rattle.specify_model.specs.Faults.{port_faults}
use Rattle.specify_values.proofs.InTurn.{exit}
use Rattle.specify_paths.specs.Words.{such_port}
use Rattle.specify_paths.proofs.FirstFault.{refused-at}
use Rattle.specify_paths.proofs.terms.check_ports.Goals as goal

pub returns-in_err-check_port : goal.returns-in_err-check_port
returns-in_err-check_port c =
    exit c.from_residual.result (flat_map (port_faults (such_port c.args.side) c.args.table.now) (map view_term c.args.terms.now)) c.in_err-check_port.field-0.0
    (err_from_is_err_and c.from_residual.result c.from_residual.ensures.1)
    (refused-at view_term (port_faults (such_port c.args.side) c.args.table.now) c.args.terms.now c.loop-term.term-index _ c.in_err-check_port.field-0.0 c.loop-term-test.true c.loop-term.invariant c.in_err-check_port.ensures)
