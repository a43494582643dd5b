-- The faults of those that are left are those of all.
use Rattle.vl_tree.specs.Seen.{view_term}
use Rattle.specify_model.specs.Faults.{port_faults}
use Rattle.specify_values.proofs.InTurn.{left_from}
use Rattle.specify_paths.specs.Words.{such_port}
use Rattle.specify_paths.proofs.terms.check_ports.Given as goal

abbrev pub invariant-loop-term : goal.invariant-loop-term
invariant-loop-term l = left_from view_term (port_faults (such_port l.side) l.table) l.terms l.term-index
