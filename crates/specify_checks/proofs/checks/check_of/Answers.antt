-- The parts of a check one after another.
use Rattle.std.proofs.Common.{refl}
use Rattle.std.proofs.lemmas.Result.{err_from_is_err_and}
use Rattle.vl_tree.specs.Seen.{view_check}
use Rattle.specify_model.specs.CheckFaults.{check_faults}
use Rattle.specify_values.specs.Seen.{measured, values_of}
use Rattle.specify_values.proofs.InTurn.{exit}
use Rattle.specify_checks.proofs.InOrder.{edge-told, reference-told, data-told, limits-told, threshold-told, notifier-told, check-faultless, check-is, terminals-are}
use Rattle.specify_checks.specs.Copies.{copies_seen}
use Rattle.specify_checks.proofs.checks.check_of.Goals as goal

pub returns-in_err-check_edge-clause-told : goal.returns-in_err-check_edge-clause-told
returns-in_err-check_edge-clause-told c =
    let by = measured c.args.by in
    let values = values_of c.args.parameters.now in
    let text = view_check c.args.text.now in
    let r = c.in_err-check_edge.field-0.0 in
    exit c.from_residual.result (check_faults c.args.copies.now.signals by c.args.table.now values text) r (err_from_is_err_and c.from_residual.result c.from_residual.ensures.1)
    (edge-told by c.args.table.now values text c.parts_of-parts.result c.parts_of-parts.ensures c.args.copies.now.signals r c.in_err-check_edge.ensures)

pub returns-in_err-refer-clause-told : goal.returns-in_err-refer-clause-told
returns-in_err-refer-clause-told c =
    let by = measured c.args.by in
    let values = values_of c.args.parameters.now in
    let text = view_check c.args.text.now in
    let r = c.in_err-refer.field-0.0 in
    exit c.from_residual-in_err-refer.result (check_faults c.args.copies.now.signals by c.args.table.now values text) r (err_from_is_err_and c.from_residual-in_err-refer.result c.from_residual-in_err-refer.ensures.1)
    (reference-told by c.args.table.now values text c.parts_of-parts.result c.parts_of-parts.ensures c.args.copies.now.signals r c.in_err-refer.ensures.told)

pub returns-in_err-datum-clause-told : goal.returns-in_err-datum-clause-told
returns-in_err-datum-clause-told c =
    let by = measured c.args.by in
    let values = values_of c.args.parameters.now in
    let text = view_check c.args.text.now in
    let r = c.in_err-datum.field-0.0 in
    exit c.from_residual-in_err-datum.result (check_faults c.args.copies.now.signals by c.args.table.now values text) r (err_from_is_err_and c.from_residual-in_err-datum.result c.from_residual-in_err-datum.ensures.1)
    (data-told by c.args.table.now values text c.parts_of-parts.result c.parts_of-parts.ensures c.args.copies.now.signals r c.in_err-datum.ensures.told)

pub returns-in_err-limits-clause-told : goal.returns-in_err-limits-clause-told
returns-in_err-limits-clause-told c =
    let by = measured c.args.by in
    let values = values_of c.args.parameters.now in
    let text = view_check c.args.text.now in
    let r = c.in_err-limits.field-0.0 in
    exit c.from_residual-in_err-limits.result (check_faults c.args.copies.now.signals by c.args.table.now values text) r (err_from_is_err_and c.from_residual-in_err-limits.result c.from_residual-in_err-limits.ensures.1)
    (limits-told by c.args.table.now values text c.parts_of-parts.result c.parts_of-parts.ensures c.args.copies.now.signals c.bearers-signals.result c.bearers-signals.ensures r c.in_err-limits.ensures.told)

pub returns-in_err-threshold-clause-told : goal.returns-in_err-threshold-clause-told
returns-in_err-threshold-clause-told c =
    let by = measured c.args.by in
    let values = values_of c.args.parameters.now in
    let text = view_check c.args.text.now in
    let r = c.in_err-threshold.field-0.0 in
    exit c.from_residual-in_err-threshold.result (check_faults c.args.copies.now.signals by c.args.table.now values text) r (err_from_is_err_and c.from_residual-in_err-threshold.result c.from_residual-in_err-threshold.ensures.1)
    (threshold-told by c.args.table.now values text c.parts_of-parts.result c.parts_of-parts.ensures c.args.copies.now.signals r c.in_err-threshold.ensures.told)

pub returns-in_err-notifier-clause-told : goal.returns-in_err-notifier-clause-told
returns-in_err-notifier-clause-told c =
    let by = measured c.args.by in
    let values = values_of c.args.parameters.now in
    let text = view_check c.args.text.now in
    let r = c.in_err-notifier.field-0.0 in
    exit c.from_residual-in_err-notifier.result (check_faults c.args.copies.now.signals by c.args.table.now values text) r (err_from_is_err_and c.from_residual-in_err-notifier.result c.from_residual-in_err-notifier.ensures.1)
    (notifier-told by c.args.table.now values text c.parts_of-parts.result c.parts_of-parts.ensures c.args.copies.now.signals r c.in_err-notifier.ensures.told)

pub copies_of-copies-requires-clause-terminals : goal.copies_of-copies-requires-clause-terminals
copies_of-copies-requires-clause-terminals c =
    terminals-are (measured c.args.by) c.args.table.now (values_of c.args.parameters.now) (view_check c.args.text.now) c.parts_of-parts.result c.parts_of-parts.ensures c.args.copies.now.signals _ _
    c.in_ok-refer.ensures.row c.in_ok-datum.ensures.row c.in_ok-refer.ensures.event c.in_ok-datum.ensures.event c.in_ok-refer.ensures.told c.in_ok-datum.ensures.told

pub returns-clause-check : goal.returns-clause-check
returns-clause-check c =
    check-is (measured c.args.by) c.args.table.now (values_of c.args.parameters.now) (view_check c.args.text.now) c.parts_of-parts.result c.parts_of-parts.ensures c.args.copies.now.signals
    (copies_seen c.args.table.now c.args.copies.now) _ refl refl c.in_ok-refer.ensures.event c.in_ok-datum.ensures.event c.in_ok-limits.ensures.ticks c.in_ok-threshold.ensures.ticks
    c.in_ok-notifier.ensures.bit c.copies_of-copies.ensures.copies

pub returns-clause-fits : goal.returns-clause-fits
returns-clause-fits c = record {
  refer_in_row = c.in_ok-refer.ensures.row;
  datum_in_row = c.in_ok-datum.ensures.row;
  notifier_in_row = c.in_ok-notifier.ensures.row;
  copies_within = c.copies_of-copies.ensures.within;
}

pub returns-clause-spelled : goal.returns-clause-spelled
returns-clause-spelled c = record { refer = c.in_ok-refer.ensures.spelled; datum = c.in_ok-datum.ensures.spelled }

pub returns-clause-told : goal.returns-clause-told
returns-clause-told c =
    check-faultless (measured c.args.by) c.args.table.now (values_of c.args.parameters.now) (view_check c.args.text.now) c.parts_of-parts.result c.parts_of-parts.ensures c.args.copies.now.signals
    c.bearers-signals.result c.bearers-signals.ensures c.in_ok-check_edge.ensures c.in_ok-refer.ensures.told c.in_ok-datum.ensures.told c.in_ok-limits.ensures.told c.in_ok-threshold.ensures.told
    c.in_ok-notifier.ensures.told
