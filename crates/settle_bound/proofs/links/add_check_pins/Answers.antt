use Rattle.std.proofs.Common.{length}
use Rattle.sg_circuit.specs.Seen.{circuit_seen}
use Rattle.settle_bound.proofs.LinkedLaws.{check-pins}
use Rattle.settle_bound.proofs.links.add_check_pins.Goals as goal

pub loop-check-preserved : goal.loop-check-preserved
loop-check-preserved c =
    check-pins (circuit_seen c.args.parts.now) (length (circuit_seen c.args.parts.now).elements) c.loop-check.check c.loop-check.pins.items c.add_terminals.new.pins.items c.loop-check.invariant c.in_ok-add_terminals.ensures
