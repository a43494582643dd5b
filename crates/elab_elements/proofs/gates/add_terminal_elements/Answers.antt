-- The elements are those of the definition, outputs first.
use Rattle.std.proofs.Common.{◌∙◌, ap, ◌++◌}
use Rattle.std.proofs.lemmas.Result.{on_ok_weaker, err_from_is_err_and}
use Rattle.elab_elements.specs.Seen.{kind_in}
use Rattle.elab_elements.specs.Words.{input_numbers}
use Rattle.elab_elements.proofs.Meaning.{adds}
use Rattle.elab_elements.proofs.TerminalMeaning.{terminals-put, terminals-mean, inputs-refused, outputs-refused, constants-refused}
use Rattle.elab_elements.proofs.Putting.{exit-by, if_err-weaker}
use Rattle.elab_elements.proofs.gates.add_terminal_elements.Goals as goal

pub returns-in_err-add_inputs-clause-refused : goal.returns-in_err-add_inputs-clause-refused
returns-in_err-add_inputs-clause-refused c =
    exit-by _ c.from_residual.result c.in_err-add_inputs.field-0.0 (err_from_is_err_and c.from_residual.result c.from_residual.ensures.1)
    (λ delays udps source s k.
    inputs-refused source s k c.args.table.now c.args.place (kind_in delays udps c.args.kind) c.args.outputs.now c.args.inputs.now c.args.made.now c.in_err-add_inputs.field-0.0
    c.in_err-add_inputs.ensures.refused)

pub returns-in_err-add_outputs-clause-refused : goal.returns-in_err-add_outputs-clause-refused
returns-in_err-add_outputs-clause-refused c =
    exit-by _ c.from_residual-in_err-add_outputs.result c.in_err-add_outputs.field-0.0 (err_from_is_err_and c.from_residual-in_err-add_outputs.result c.from_residual-in_err-add_outputs.ensures.1)
    (λ delays udps source s k.
    outputs-refused source s c.args.scope k c.args.first c.args.table.now c.args.row.now c.args.driven.now c.args.place c.args.kind
    (kind_in delays udps c.args.kind) c.args.outputs.now c.args.inputs.now c.as_slice.result.now
    c.args.made.now c.in_err-add_outputs.field-0.0
    (c.as_slice.ensures ∙ c.in_ok-add_inputs.ensures.inputs ∙ ap (λ xs. xs ++ input_numbers c.args.first c.args.row.now c.args.inputs.now) c.new-nets.ensures.items) c.in_err-add_outputs.ensures.refused)

pub returns-clause-elements : goal.returns-clause-elements
returns-clause-elements c =
    on_ok_weaker c.add_constants.result
    (λ puts. λ delays udps all source s k here drives terminals named. adds delays udps all c.args.made.now c.add_constants.new.made _ _
    (terminals-mean delays udps all source s c.args.scope k c.args.first c.args.table.now c.args.row.now c.args.driven.now c.args.place c.args.kind c.args.outputs.now c.args.inputs.now here drives
    terminals named
    c.requires.outputs c.requires.inputs)
    (terminals-put c.args.scope c.args.first c.args.row.now c.args.driven.now c.args.place c.args.kind c.args.outputs.now c.args.inputs.now c.as_slice.result.now c.as_slice-2.result.now c.args.made.now
    c.add_outputs.new.made c.add_constants.new.made
    (c.as_slice.ensures ∙ c.in_ok-add_inputs.ensures.inputs ∙ ap (λ xs. xs ++ input_numbers c.args.first c.args.row.now c.args.inputs.now) c.new-nets.ensures.items)
    (c.as_slice-2.ensures ∙ c.in_ok-add_inputs.ensures.inputs ∙ ap (λ xs. xs ++ input_numbers c.args.first c.args.row.now c.args.inputs.now) c.new-nets.ensures.items) c.in_ok-add_outputs.ensures.puts puts))
    c.add_constants.ensures.puts

pub returns-clause-refused : goal.returns-clause-refused
returns-clause-refused c =
    if_err-weaker c.add_constants.result _ _
    (λ r refused. λ delays udps source s k.
    constants-refused source s c.args.scope k c.args.first c.args.table.now c.args.row.now c.args.driven.now c.args.place c.args.kind
    (kind_in delays udps c.args.kind) c.args.outputs.now c.args.inputs.now c.as_slice.result.now
    c.as_slice-2.result.now c.args.made.now c.add_outputs.new.made r
    (c.as_slice.ensures ∙ c.in_ok-add_inputs.ensures.inputs ∙ ap (λ xs. xs ++ input_numbers c.args.first c.args.row.now c.args.inputs.now) c.new-nets.ensures.items)
    (c.as_slice-2.ensures ∙ c.in_ok-add_inputs.ensures.inputs ∙ ap (λ xs. xs ++ input_numbers c.args.first c.args.row.now c.args.inputs.now) c.new-nets.ensures.items) c.in_ok-add_outputs.ensures.puts refused)
    c.add_constants.ensures.refused
