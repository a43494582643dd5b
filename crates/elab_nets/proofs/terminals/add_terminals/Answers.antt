-- The nets that are added are those of the definition.
use Rattle.std.proofs.Common.{◌++◌, ◌+◌, ◌∙◌, ap, sym, map, length, subst}
use Rattle.std.proofs.lemmas.List.Elements.{recursion_from_All}
use Rattle.std.proofs.lemmas.Result.{on_ok_weaker, IfErr-weaker}
use Rattle.elab_bits.specs.Seen.{view_bit, IsInRow}
use Rattle.elab_model.specs.Nets.{terminal_nets}
use Rattle.elab_numbering.specs.Refusals.{RefusesCount}
use Rattle.elab_nets.proofs.ConstantNets.{none-added, no-output, output-in_row, are-meant, count-meant}
use Rattle.elab_nets.proofs.terminals.add_terminals.Goals as goal

pub returns-in_default-clause-nets : goal.returns-in_default-clause-nets
returns-in_default-clause-nets c = λ s k e n.
    none-added c.args.nets.now.items (terminal_nets s k (map (view_bit c.args.table.now) c.args.outputs.now) (map (view_bit c.args.table.now) c.args.inputs.now))
    (no-output c.args.table.now s k c.args.outputs.now c.args.inputs.now (sym c.in_default.ensures))

pub add_constants-requires-clause-row : goal.add_constants-requires-clause-row
add_constants-requires-clause-row c =
    output-in_row c.args.table.now c.args.outputs.now c.in-Some.output (recursion_from_All (IsInRow c.args.table.now) c.args.outputs.now c.requires.row) (sym c.in-Some.ensures)

pub returns-clause-nets : goal.returns-clause-nets
returns-clause-nets c =
    on_ok_weaker c.add_constants.result
    (λ h s k e n. h ∙ ap (λ xs. c.args.nets.now.items ++ xs)
    (are-meant c.args.table.now s k c.args.scope c.args.outputs.now c.args.inputs.now c.in-Some.output c.requires.row e n (sym c.in-Some.ensures)))
    c.add_constants.ensures.nets

pub returns-clause-refused : goal.returns-clause-refused
returns-clause-refused c =
    IfErr-weaker c.add_constants.result _ _
    (λ r h s k e n. subst (λ m. RefusesCount (length c.args.nets.now.items + m) r)
    (count-meant c.args.table.now s k c.args.scope c.args.outputs.now c.args.inputs.now c.in-Some.output c.requires.row e n (sym c.in-Some.ensures)) h)
    c.add_constants.ensures.refused
