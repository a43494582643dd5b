-- A terminal for each port, and each terminal.
use Rattle.std.proofs.Common.{map, option_map, sym, ◌∙◌}
use Rattle.vl_tree.specs.Seen.{view_expression}
use Rattle.elab_modules.proofs.TerminalFaults.{given-tells, not-given}
use Rattle.elab_modules.proofs.primitive_instances.check_ordered.Goals as goal

pub returns-then-not-are_given : goal.returns-then-not-are_given
returns-then-not-are_given c =
    not-given c.args.table.now c.args.ports c.args.place (map (option_map view_expression) c.args.values.now) (sym c.are_given.ensures ∙ c.if-not-are_given.true)

pub returns : goal.returns
returns c =
    given-tells c.args.table.now c.args.ports c.args.place (map (option_map view_expression) c.args.values.now) c.check_terminals.result (sym c.are_given.ensures ∙ c.if-not-are_given.false)
    c.check_terminals.ensures
