-- The bits that were added are those of the definition.
use Rattle.std.proofs.Common.{List, ◌+◌, sym, subst, length}
use Rattle.std.proofs.lemmas.Result.{on_ok_weaker}
use Rattle.sg_circuit.specs.Circuit.{Udp}
use Rattle.sg_circuit.specs.Seen.{delays_at, udp_at}
use Rattle.vl_tree.specs.Seen.{view_connections}
use Rattle.elab_model.specs.Bits.{Bit}
use Rattle.elab_model.specs.Elements.{terminal_elements}
use Rattle.elab_model.specs.Members.{connection_values}
use Rattle.elab_numbering.specs.Refusals.{RefusesCount}
use Rattle.elab_elements.specs.Adding.{Adds, HasTerminals}
use Rattle.elab_elements.proofs.TerminalBits.{seen-left, seen-right}
use Rattle.elab_elements.proofs.Putting.{if_err-weaker}
use Rattle.elab_elements.proofs.primitives.add_primitive.Goals as goal

pub returns-clause-elements : goal.returns-clause-elements
returns-clause-elements c =
    let es = connection_values (view_connections c.args.connections.now) in
    let left = seen-left c.args.table.now 1 es _ c.add_connected.new.room c.deref.result.now c.clear.ensures.items c.in_ok-add_connected.ensures.bits c.deref.ensures.value in
    let right = seen-right c.args.table.now 1 es _ c.add_connected.new.room c.deref-2.result.now c.clear-2.ensures.items c.in_ok-add_connected.ensures.bits c.deref-2.ensures.value in
    on_ok_weaker c.add_terminal_elements.result
    (λ added. λ listed udps all source s k here drives terminals ready below.
    subst (λ (x : List Bit × List Bit). Adds listed udps all c.args.made.now c.add_terminal_elements.new.made (terminal_elements source s c.args.place k
    (Udp (udp_at udps c.args.udp).rows (udp_at udps c.args.udp).first (delays_at listed c.args.delays)) x.0 x.1))
    (λ i. (left i, right i))
    (added listed udps all source s k here drives (subst (λ (x : List Bit × List Bit). HasTerminals all s k c.args.first x.0 x.1) (sym (λ i. (left i, right i))) terminals) (ready, below)))
    c.add_terminal_elements.ensures.elements

pub returns-clause-refused : goal.returns-clause-refused
returns-clause-refused c =
    let es = connection_values (view_connections c.args.connections.now) in
    let left = seen-left c.args.table.now 1 es _ c.add_connected.new.room c.deref.result.now c.clear.ensures.items c.in_ok-add_connected.ensures.bits c.deref.ensures.value in
    let right = seen-right c.args.table.now 1 es _ c.add_connected.new.room c.deref-2.result.now c.clear-2.ensures.items c.in_ok-add_connected.ensures.bits c.deref-2.ensures.value in
    if_err-weaker c.add_terminal_elements.result _ _
    (λ r refused. λ listed udps source s k. subst (λ n. RefusesCount n r)
    (λ i. length c.args.made.now.elements.items + length (terminal_elements source s c.args.place k (Udp (udp_at udps c.args.udp).rows (udp_at udps c.args.udp).first (delays_at listed c.args.delays))
    (left i) (right i)))
    (refused listed udps source s k))
    c.add_terminal_elements.ensures.refused
