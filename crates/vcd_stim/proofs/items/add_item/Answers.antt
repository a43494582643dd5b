-- Each kind of item does what its own function says.
use Rattle.std.specs.Prelude.{length}
use Rattle.vcd_stim.specs.Meant.{scale_seen}
use Rattle.vcd_stim.proofs.StepItems.{instant-is, real-passes}
use Rattle.vcd_stim.proofs.items.add_item.Goals as goal

pub returns-in-Instant : goal.returns-in-Instant
returns-in-Instant c h gs now e t s few =
    rw c.in-Instant.is
    (instant-is h (scale_seen c.args.scale) (length h.circuit.nets) now c.in-Instant.byte c.in-Instant.digits.now gs c.args.steps.now c.add_instant.new.steps c.add_instant.result e s few c.add_instant.ensures)

pub returns-in-Value : goal.returns-in-Value
returns-in-Value c h gs now e t s few = rw c.in-Value.is (c.add_value.ensures h h.scale (length h.circuit.nets) now gs t s)

pub returns-in-Real : goal.returns-in-Real
returns-in-Real c h gs now e t s few =
    rw c.in-Real.is
    (real-passes h (length h.circuit.nets) now c.in-Real.byte c.in-Real.code_byte c.in-Real.code.now gs c.args.steps.now c.pass_real.result s (c.pass_real.ensures h now t))
