use Rattle.std.proofs.Common.{sym, ◌∙◌, subst}
use Rattle.sg_circuit.specs.Closed.{IsClosed}
use Rattle.circuit_open.proofs.OpenLaws.{seen-same, indexed-same}
use Rattle.circuit_open.proofs.opened.OpenCircuit.reserve.Goals as goal

pub close-requires-clause-closed : goal.close-requires-clause-closed
close-requires-clause-closed c =
    subst IsClosed (sym (seen-same c.into_parts-parts.result c.make_room.new.table c.make_room.ensures.items c.into_parts-parts.ensures.indexed ∙ c.into_parts-parts.ensures.seen)) c.into_parts-parts.ensures.closed

pub returns-then-not-make_room-clause-kept : goal.returns-then-not-make_room-clause-kept
returns-then-not-make_room-clause-kept c =
    c.close.ensures ∙ (seen-same c.into_parts-parts.result c.make_room.new.table c.make_room.ensures.items c.into_parts-parts.ensures.indexed ∙ c.into_parts-parts.ensures.seen)

pub invariant_of-result : goal.invariant_of-result
invariant_of-result c =
    let parts = c.into_parts-parts.result in
    let table = c.make_room.new.table in
    let room = c.make_room.ensures.room c.if-not-make_room.false in (
      subst IsClosed (sym (seen-same parts table c.make_room.ensures.items c.into_parts-parts.ensures.indexed ∙ c.into_parts-parts.ensures.seen)) c.into_parts-parts.ensures.closed,
      indexed-same parts table c.make_room.ensures.items c.into_parts-parts.ensures.indexed,
      room.0,
      room.1,
    )
