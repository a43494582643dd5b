-- The terminal, then its condition.
use Rattle.std.specs.Prelude.{◌++◌}
use Rattle.std.proofs.Common.{◌∙◌, ap}
use Rattle.std.proofs.lemmas.Result.{err_from_is_err_and}
use Rattle.vl_tree.specs.Seen.{view_event}
use Rattle.elab_declared.proofs.Refusals.{refused-left, refused-right}
use Rattle.specify_model.specs.CheckFaults.{event_condition_faults, event_faults}
use Rattle.specify_model.specs.Faults.{operand_faults}
use Rattle.specify_values.proofs.InTurn.{exit}
use Rattle.specify_checks.proofs.Enabling.{event-is}
use Rattle.specify_checks.proofs.events.event_of.Goals as goal

pub returns-in_err-bit-clause-told : goal.returns-in_err-bit-clause-told
returns-in_err-bit-clause-told c =
    let e = view_event c.args.event.now in
    let vs = c.args.table.now in
    exit c.from_residual.result (event_faults vs e) c.in_err-bit.field-0.0 (err_from_is_err_and c.from_residual.result c.from_residual.ensures.1)
    (refused-left (operand_faults vs e.term) (event_condition_faults vs e) c.in_err-bit.field-0.0 c.in_err-bit.ensures.told)

pub returns-in_err-condition-clause-told : goal.returns-in_err-condition-clause-told
returns-in_err-condition-clause-told c =
    let e = view_event c.args.event.now in
    let vs = c.args.table.now in
    exit c.from_residual-in_err-condition.result (event_faults vs e) c.in_err-condition.field-0.0 (err_from_is_err_and c.from_residual-in_err-condition.result c.from_residual-in_err-condition.ensures.1)
    (refused-right (operand_faults vs e.term) (event_condition_faults vs e) c.in_err-condition.field-0.0 c.in_err-condition.ensures.told)

pub returns-clause-event : goal.returns-clause-event
returns-clause-event c =
    event-is c.args.table.now (view_event c.args.event.now) _ c.in_ok-bit.ensures.bit c.index_in.ensures c.option_edge.ensures c.in_ok-condition.ensures.condition

pub returns-clause-told : goal.returns-clause-told
returns-clause-told c =
    let e = view_event c.args.event.now in
    ap (λ fs. fs ++ event_condition_faults c.args.table.now e) c.in_ok-bit.ensures.told ∙ c.in_ok-condition.ensures.told
