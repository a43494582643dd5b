-- What is connected, in order or by name.
use Rattle.std.proofs.Common.{◌∙◌, ap, sym, subst}
use Rattle.std.proofs.lemmas.Result.{on_ok_weaker}
use Rattle.vl_tree.specs.Seen.{view_connections}
use Rattle.elab_model.specs.Members.{connection_values}
use Rattle.elab_nets.specs.TerminalBits.{AddsTerminals}
use Rattle.elab_nets.proofs.MemberBits.{ordered_of, named_of}
use Rattle.elab_nets.proofs.member_bits.add_connected.Goals as goal

pub returns-in-Ordered-clause-bits : goal.returns-in-Ordered-clause-bits
returns-in-Ordered-clause-bits c =
    on_ok_weaker c.add_ordered.result
    (subst (λ es. AddsTerminals c.args.table.now es c.args.room.now c.add_ordered.new.room) (ap ordered_of c.deref.ensures.value ∙ ap (λ x. connection_values (view_connections x)) (sym c.in-Ordered.is)))
    c.add_ordered.ensures.bits

pub returns-in-Named-clause-bits : goal.returns-in-Named-clause-bits
returns-in-Named-clause-bits c =
    on_ok_weaker c.add_named.result
    (subst (λ es. AddsTerminals c.args.table.now es c.args.room.now c.add_named.new.room) (ap named_of c.deref-in-Named.ensures.value ∙ ap (λ x. connection_values (view_connections x)) (sym c.in-Named.is)))
    c.add_named.ensures.bits
