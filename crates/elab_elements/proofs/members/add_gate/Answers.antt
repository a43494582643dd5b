-- The bits that were added are those of the definition.
use Rattle.std.proofs.Common.{List, [], ◌+◌, ◌∙◌, ap, sym, subst, map, length}
use Rattle.std.proofs.lemmas.List.{length-map}
use Rattle.std.proofs.lemmas.Result.{on_ok_weaker}
use Rattle.sg_circuit.specs.Circuit.{Gate}
use Rattle.sg_circuit.specs.Seen.{delays_at}
use Rattle.vl_tree.specs.Seen.{view_expression}
use Rattle.elab_model.specs.Bits.{Bit}
use Rattle.elab_model.specs.Elements.{output_count, terminal_elements}
use Rattle.elab_numbering.specs.Refusals.{RefusesCount}
use Rattle.elab_elements.specs.Adding.{Adds, HasTerminals}
use Rattle.elab_elements.specs.Terminals.{outputs_of, inputs_of}
use Rattle.elab_elements.proofs.TerminalBits.{seen-left, seen-right}
use Rattle.elab_elements.proofs.Putting.{if_err-weaker}
use Rattle.elab_elements.proofs.members.add_gate.Goals as goal

pub returns-clause-elements : goal.returns-clause-elements
returns-clause-elements c =
    let es = map view_expression c.args.terminals.now in
    let left = seen-left c.args.table.now c.output_count-outputs.result es _ c.add_terminals.new.room c.deref.result.now c.clear.ensures.items c.in_ok-add_terminals.ensures.bits c.deref.ensures.value in
    let right = seen-right c.args.table.now c.output_count-outputs.result es _ c.add_terminals.new.room c.deref-2.result.now c.clear-2.ensures.items c.in_ok-add_terminals.ensures.bits c.deref-2.ensures.value in
    let n = c.output_count-outputs.ensures.count ∙ ap (output_count c.args.kind) (sym (length-map c.args.terminals.now view_expression)) in
    let outs = left ∙ ap (λ k. outputs_of c.args.table.now k es) n in
    let ins = right ∙ ap (λ k. inputs_of c.args.table.now k es) n in
    on_ok_weaker c.add_terminal_elements.result
    (λ added. λ listed udps all source s k here drives terminals below.
    subst (λ (x : List Bit × List Bit). Adds listed udps all c.args.made.now c.add_terminal_elements.new.made
    (terminal_elements source s c.args.place k (Gate c.args.kind (delays_at listed c.args.delays)) x.0 x.1))
    (λ i. (outs i, ins i))
    (added listed udps all source s k here drives (subst (λ (x : List Bit × List Bit). HasTerminals all s k c.args.first x.0 x.1) (sym (λ i. (outs i, ins i))) terminals) below))
    c.add_terminal_elements.ensures.elements

pub returns-clause-refused : goal.returns-clause-refused
returns-clause-refused c =
    let es = map view_expression c.args.terminals.now in
    let left = seen-left c.args.table.now c.output_count-outputs.result es _ c.add_terminals.new.room c.deref.result.now c.clear.ensures.items c.in_ok-add_terminals.ensures.bits c.deref.ensures.value in
    let right = seen-right c.args.table.now c.output_count-outputs.result es _ c.add_terminals.new.room c.deref-2.result.now c.clear-2.ensures.items c.in_ok-add_terminals.ensures.bits c.deref-2.ensures.value in
    let n = c.output_count-outputs.ensures.count ∙ ap (output_count c.args.kind) (sym (length-map c.args.terminals.now view_expression)) in
    let outs = left ∙ ap (λ k. outputs_of c.args.table.now k es) n in
    let ins = right ∙ ap (λ k. inputs_of c.args.table.now k es) n in
    if_err-weaker c.add_terminal_elements.result _ _
    (λ r refused. λ listed source s k. subst (λ n. RefusesCount n r)
    (λ i. length c.args.made.now.elements.items + length (terminal_elements source s c.args.place k (Gate c.args.kind (delays_at listed c.args.delays)) (outs i) (ins i)))
    (refused listed [] source s k))
    c.add_terminal_elements.ensures.refused
