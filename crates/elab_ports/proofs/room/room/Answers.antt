-- The row begins with the bits of the variables before it.
use Rattle.std.proofs.Common.{rules, arith}
use Rattle.elab_ports.proofs.Rows.{place-below, start-within, room-found}
use Rattle.elab_ports.proofs.room.room.Goals as goal

pub row-start-requires : goal.row-start-requires
row-start-requires c = place-below c.args.child.now c.args.port.now c.in_ok-place.place (search rules)

pub overflow_sub-bits : goal.overflow_sub-bits
overflow_sub-bits c = start-within c.args.child.now c.args.port.now c.in_ok-place.place c.row-start.result.start c.bits.result (search rules) c.row-start.ensures.start c.bits.ensures

pub returns-clause-room : goal.returns-clause-room
returns-clause-room c =
    let s = start-within c.args.child.now c.args.port.now c.in_ok-place.place c.row-start.result.start c.bits.result (search rules) c.row-start.ensures.start c.bits.ensures in
    room-found c.args.child.now c.args.port.now c.in_ok-place.place c.args.width c.row-start.result.start (search rules) c.row-start.ensures.start
    (omega (arith, s, c.if-width-bits.false, c.bits.ensures))

pub returns-clause-fits : goal.returns-clause-fits
returns-clause-fits c =
    let s = start-within c.args.child.now c.args.port.now c.in_ok-place.place c.row-start.result.start c.bits.result (search rules) c.row-start.ensures.start c.bits.ensures in
    omega (arith, s, c.if-width-bits.false, c.bits.ensures)
