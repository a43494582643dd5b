-- The faults of those that are left are those of all.
use Rattle.vl_tree.specs.Seen.{view_term}
use Rattle.specify_model.specs.Faults.{term_faults}
use Rattle.specify_values.proofs.InTurn.{left_from}
use Rattle.specify_paths.proofs.terms.check_terms.Given as goal

abbrev pub invariant-loop-term : goal.invariant-loop-term
invariant-loop-term l = left_from view_term (term_faults l.table) l.terms l.term-index
