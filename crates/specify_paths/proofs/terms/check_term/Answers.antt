-- The faults of a term are those of its expression.
use Rattle.std.proofs.Common.{ap}
use Rattle.vl_tree.specs.Seen.{view_expression, view_term}
use Rattle.elab_model.specs.TerminalFaults.{expression_faults}
use Rattle.specify_model.specs.Faults.{term_faults}
use Rattle.specify_paths.proofs.AsTold.{as-told}
use Rattle.specify_paths.proofs.terms.check_term.Goals as goal

pub returns : goal.returns
returns c =
    as-told c.check_expression.result (expression_faults c.args.table.now (view_expression c.expression_of.result)) (term_faults c.args.table.now (view_term c.args.term.now))
    (ap (expression_faults c.args.table.now) c.expression_of.ensures) c.check_expression.ensures.faultless c.check_expression.ensures.refused
