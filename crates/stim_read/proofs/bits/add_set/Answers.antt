-- The nets that are named, and the fault where none are or too few.
use Rattle.stim_read.specs.Seen.{set_seen}
use Rattle.stim_read.proofs.BitLaws.{unknown-set, other-width, fine-set, set-bits}
use Rattle.stim_read.proofs.bits.add_set.Goals as goal

pub returns-in_default-clause-refused : goal.returns-in_default-clause-refused
returns-in_default-clause-refused c = rw c.fault.ensures (unknown-set c.args.inputs.now.circuit.now c.args.byte (set_seen c.args.set.now) c.in_default.ensures)

pub returns-then-set-nets-clause-refused : goal.returns-then-set-nets-clause-refused
returns-then-set-nets-clause-refused c = rw c.fault-then-set-nets.ensures (other-width c.args.inputs.now.circuit.now c.args.byte (set_seen c.args.set.now) c.in-Some.nets.now c.in-Some.ensures c.if-set-nets.true)

pub returns-clause-faultless : goal.returns-clause-faultless
returns-clause-faultless c = fine-set c.args.inputs.now.circuit.now c.args.byte (set_seen c.args.set.now) c.in-Some.nets.now c.in-Some.ensures c.if-set-nets.false

pub returns-clause-bits : goal.returns-clause-bits
returns-clause-bits c = set-bits c.args.inputs.now.circuit.now (set_seen c.args.set.now) c.in-Some.nets.now _ _ c.in-Some.ensures c.in_ok-add_bits.ensures
