-- A term that is sound and one bit has no fault.
use Rattle.std.proofs.lemmas.Result.{err_from_is_err_and}
use Rattle.vl_tree.specs.Seen.{view_term}
use Rattle.elab_model.specs.TerminalFaults.{width_faults}
use Rattle.elab_declared.proofs.Refusals.{refused-left}
use Rattle.specify_model.specs.Faults.{operand_faults, term_faults}
use Rattle.elab_model.specs.Terms.{expression_of}
use Rattle.specify_values.proofs.InTurn.{exit}
use Rattle.specify_paths.proofs.terms.check_operand.Goals as goal

pub returns-in_err-check_term : goal.returns-in_err-check_term
returns-in_err-check_term c =
    exit c.from_residual.result (operand_faults c.args.table.now (view_term c.args.term.now)) c.in_err-check_term.field-0.0
    (err_from_is_err_and c.from_residual.result c.from_residual.ensures.1)
    (refused-left (term_faults c.args.table.now (view_term c.args.term.now)) (width_faults c.args.table.now 1 (expression_of (view_term c.args.term.now))) c.in_err-check_term.field-0.0
    c.in_err-check_term.ensures)
