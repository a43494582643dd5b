-- The bits of a port that is connected.
use Rattle.std.proofs.Common.{rules}
use Rattle.elab_ports.proofs.Bindings.{binds-value}
use Rattle.elab_ports.proofs.bound.bind_value.Goals as goal

pub returns-in-Some-2 : goal.returns-in-Some-2
returns-in-Some-2 c =
    binds-value c.args.parent.now c.args.child.now c.args.port.now c.args.value.now _ c.in_ok-start.field-0 c.in-Some-2.start c.bits_of_port.new.bits.items c.deref.result.now
    c.args.row.now c.put_bits.new.row c.in-Some.is c.in_ok-start.ensures.bits c.in_ok-start.ensures.room c.in-Some-2.is c.in_ok-start.ensures.fits c.requires.long c.in_ok-start.ensures.row
    (search rules) c.put_bits.ensures
