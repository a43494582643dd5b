-- The nets at the terminals are those of the gate.
use Rattle.std.proofs.Common.{◌≡◌, ◌++◌, ◌+◌, ◌∙◌, ap, arith, map, length, subst, sym}
use Rattle.std.proofs.lemmas.List.{length-map}
use Rattle.std.proofs.lemmas.Result.{on_ok_weaker, IfErr-weaker}
use Rattle.vl_tree.specs.Seen.{view_expression}
use Rattle.elab_model.specs.Elements.{output_count}
use Rattle.elab_model.specs.Numbered.{undriven}
use Rattle.elab_numbering.specs.Refusals.{RefusesCount}
use Rattle.elab_nets.proofs.MemberNets.{terminals-are}
use Rattle.elab_nets.proofs.members.add_gate.Goals as goal

pub returns-clause-nets : goal.returns-clause-nets
returns-clause-nets c =
    let ts = c.args.instance.now.terminals.items in
    let count : c.len.result ≡ length ts = omega (arith, c.len.ensures, c.args.instance.now.terminals.ok.0) in
    on_ok_weaker c.add_terminals.result
    (λ h source s k d e n. h s k e n ∙ ap (λ os. c.args.nets.now.items ++ map undriven os)
    (terminals-are c.args.table.now s k c.output_count-outputs.result (output_count c.args.kind (length (map view_expression ts))) (map view_expression c.deref.result.now) (map view_expression ts)
    c.terminal_bits.new.room c.deref-2.result.now c.deref-3.result.now e c.in_ok-terminal_bits.ensures.bits
    (c.output_count-outputs.ensures.count ∙ ap (output_count c.args.kind) (count ∙ sym (length-map ts view_expression))) (ap (map view_expression) c.deref.ensures.value)
    c.deref-2.ensures.value c.deref-3.ensures.value))
    c.add_terminals.ensures.nets

pub returns-clause-refused : goal.returns-clause-refused
returns-clause-refused c =
    let ts = c.args.instance.now.terminals.items in
    let count : c.len.result ≡ length ts = omega (arith, c.len.ensures, c.args.instance.now.terminals.ok.0) in
    IfErr-weaker c.add_terminals.result _ _
    (λ r h source s k d e n. subst (λ os. RefusesCount (length c.args.nets.now.items + length os) r)
    (terminals-are c.args.table.now s k c.output_count-outputs.result (output_count c.args.kind (length (map view_expression ts))) (map view_expression c.deref.result.now) (map view_expression ts)
    c.terminal_bits.new.room c.deref-2.result.now c.deref-3.result.now e c.in_ok-terminal_bits.ensures.bits
    (c.output_count-outputs.ensures.count ∙ ap (output_count c.args.kind) (count ∙ sym (length-map ts view_expression))) (ap (map view_expression) c.deref.ensures.value)
    c.deref-2.ensures.value c.deref-3.ensures.value) (h s k e n))
    c.add_terminals.ensures.refused
