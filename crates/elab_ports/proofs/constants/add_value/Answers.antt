-- The constants of a port that is connected.
use Rattle.std.proofs.Common.{rules}
use Rattle.elab_ports.proofs.Placings.{places-value}
use Rattle.elab_ports.proofs.constants.add_value.Goals as goal

pub returns-in_ok-push_constants : goal.returns-in_ok-push_constants
returns-in_ok-push_constants c =
    places-value c.args.parent.now c.args.child.now c.args.port.now c.args.value.now _ c.in_ok-start.field-0 c.in-Some-2.start c.bits_of_port.new.bits.items c.deref.result.now
    c.args.list.now.items c.push_constants.new.list.items c.in-Some.is c.in_ok-start.ensures.bits c.in_ok-start.ensures.room c.in-Some-2.is c.in_ok-start.ensures.fits (search rules)
    c.in_ok-push_constants.ensures
