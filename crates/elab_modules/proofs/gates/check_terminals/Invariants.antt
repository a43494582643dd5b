-- The faults of the terminals that are left are those of all.
use Rattle.std.proofs.Common.{◌≡◌, flat_map, drop}
use Rattle.vl_tree.specs.Seen.{view_expression}
use Rattle.elab_modules.specs.Telling.{joined_faults}
use Rattle.elab_modules.proofs.gates.check_terminals.Given as goal

abbrev pub invariant-loop-terminal : goal.invariant-loop-terminal
invariant-loop-terminal l =
    flat_map (λ e. joined_faults l.table 1 l.are_outputs (view_expression e)) (drop l.terminal-index l.terminals)
    ≡ flat_map (λ e. joined_faults l.table 1 l.are_outputs (view_expression e)) l.terminals
