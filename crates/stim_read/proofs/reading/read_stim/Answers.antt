-- What a text says, or a fault of it.
use Rattle.std.proofs.Common.{arith, map}
use Rattle.std.proofs.lemmas.Result.{err_from_is_err_and}
use Rattle.sg_stimulus.specs.Seen.{step_seen}
use Rattle.stim_read.specs.Reading.{RefusalStands}
use Rattle.stim_read.specs.Meant.{scale_seen}
use Rattle.stim_read.specs.Seen.{stated_seen}
use Rattle.stim_read.proofs.Refusals.{exit-by}
use Rattle.stim_read.proofs.EndLaws.{too-long-stands, statement-stands, end-stands, reads, applies, fault-for, read-for}
use Rattle.stim_read.proofs.reading.read_stim.Goals as goal

pub returns-then-bytes-gt-MOST_BYTES-clause-refused : goal.returns-then-bytes-gt-MOST_BYTES-clause-refused
returns-then-bytes-gt-MOST_BYTES-clause-refused c = rw c.fault.ensures (too-long-stands c.args.bytes.now c.args.circuit.now c.if-bytes-gt-MOST_BYTES.true)

pub returns-in_err-read-clause-refused : goal.returns-in_err-read-clause-refused
returns-in_err-read-clause-refused c =
    exit-by (RefusalStands c.args.bytes.now c.args.circuit.now) c.from_residual-in_err-read.result c.in_err-read.field-0.0 (err_from_is_err_and c.from_residual-in_err-read.result c.from_residual-in_err-read.ensures.1)
    (statement-stands c.args.bytes.now c.args.circuit.now (scale_seen c.scale_of.result) c.in_ok-stated.stated.items c.deref.result.now c.deref-2.result.now c.in_err-read.field-0.0
    (record { made = c.in_ok-stated.ensures; first = c.deref.ensures.value; second = c.deref-2.ensures.value; scale_is = c.scale_of.ensures })
    (fault-for c.in_ok-inputs.inputs.circuit.now c.args.circuit.now (scale_seen c.scale_of.result) (map (λ s. stated_seen s) c.deref-2.result.now) c.in_err-read.field-0.0 c.in_ok-inputs.ensures c.in_err-read.ensures))

pub returns-in-Some-clause-read : goal.returns-in-Some-clause-read
returns-in-Some-clause-read c =
    reads c.args.bytes.now c.args.circuit.now (scale_seen c.scale_of.result) c.in_ok-stated.stated.items c.deref.result.now c.deref-2.result.now
    (map (λ s. step_seen s) c.in_ok-read.read.steps.items) c.in-Some.end (omega (arith, c.if-bytes-gt-MOST_BYTES.false)) (record { made = c.in_ok-stated.ensures; first = c.deref.ensures.value; second = c.deref-2.ensures.value; scale_is = c.scale_of.ensures })
    (read-for c.in_ok-inputs.inputs.circuit.now c.args.circuit.now _ _ _ _ _ c.in_ok-inputs.ensures c.in-Some.is c.in_ok-read.ensures)

pub returns-in-Some-clause-applied : goal.returns-in-Some-clause-applied
returns-in-Some-clause-applied c =
    applies c.args.bytes.now c.args.circuit.now (scale_seen c.scale_of.result) c.in_ok-stated.stated.items c.deref.result.now c.deref-2.result.now
    (map (λ s. step_seen s) c.in_ok-read.read.steps.items) c.in-Some.end (record { made = c.in_ok-stated.ensures; first = c.deref.ensures.value; second = c.deref-2.ensures.value; scale_is = c.scale_of.ensures })
    (read-for c.in_ok-inputs.inputs.circuit.now c.args.circuit.now _ _ _ _ _ c.in_ok-inputs.ensures c.in-Some.is c.in_ok-read.ensures)

pub returns-clause-refused : goal.returns-clause-refused
returns-clause-refused c =
    rw c.fault-in-None.ensures
    (end-stands c.args.bytes.now c.args.circuit.now (scale_seen c.scale_of.result) c.in_ok-stated.stated.items c.deref.result.now c.deref-2.result.now
    (map (λ s. step_seen s) c.in_ok-read.read.steps.items) (record { made = c.in_ok-stated.ensures; first = c.deref.ensures.value; second = c.deref-2.ensures.value; scale_is = c.scale_of.ensures })
    (read-for c.in_ok-inputs.inputs.circuit.now c.args.circuit.now _ _ _ _ _ c.in_ok-inputs.ensures c.in-None.is c.in_ok-read.ensures))
