-- The nets at the terminals are those of the primitive.
use Rattle.std.proofs.Common.{◌++◌, ◌+◌, ◌∙◌, ap, map, length, subst, refl}
use Rattle.std.proofs.lemmas.Result.{on_ok_weaker, IfErr-weaker}
use Rattle.vl_tree.specs.Seen.{view_connections}
use Rattle.elab_model.specs.Members.{connection_values}
use Rattle.elab_model.specs.Numbered.{undriven}
use Rattle.elab_numbering.specs.Refusals.{RefusesCount}
use Rattle.elab_nets.proofs.MemberNets.{terminals-are}
use Rattle.elab_nets.proofs.members.add_primitive.Goals as goal

pub returns-clause-nets : goal.returns-clause-nets
returns-clause-nets c =
    let es = connection_values (view_connections c.args.instance.now.connections) in
    on_ok_weaker c.add_terminals.result
    (λ h s k e n. h s k e n ∙ ap (λ os. c.args.nets.now.items ++ map undriven os)
    (terminals-are c.args.table.now s k 1 1 es es c.connection_bits.new.room c.deref.result.now c.deref-2.result.now e c.in_ok-connection_bits.ensures.bits refl refl c.deref.ensures.value
    c.deref-2.ensures.value))
    c.add_terminals.ensures.nets

pub returns-clause-refused : goal.returns-clause-refused
returns-clause-refused c =
    let es = connection_values (view_connections c.args.instance.now.connections) in
    IfErr-weaker c.add_terminals.result _ _
    (λ r h s k e n. subst (λ os. RefusesCount (length c.args.nets.now.items + length os) r)
    (terminals-are c.args.table.now s k 1 1 es es c.connection_bits.new.room c.deref.result.now c.deref-2.result.now e c.in_ok-connection_bits.ensures.bits refl refl c.deref.ensures.value
    c.deref-2.ensures.value) (h s k e n))
    c.add_terminals.ensures.refused
