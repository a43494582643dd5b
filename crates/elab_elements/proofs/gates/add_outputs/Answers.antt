-- One more is put, and a refusal on the way is one of all.
use Rattle.std.proofs.Common.{flat_map}
use Rattle.std.proofs.lemmas.Result.{err_from_is_err_and}
use Rattle.elab_bits.specs.declared.bits.Bit.TheVariants as bit
use Rattle.elab_elements.specs.Puts.{RefusesPuts}
use Rattle.elab_elements.specs.Words.{output_puts}
use Rattle.elab_elements.proofs.Left.{list-refused}
use Rattle.elab_elements.proofs.Putting.{exit-by}
use Rattle.elab_elements.proofs.gates.add_outputs.Goals as goal

pub returns-in_err-add_output-clause-refused : goal.returns-in_err-add_output-clause-refused
returns-in_err-add_output-clause-refused c =
    exit-by (RefusesPuts c.args.made.now (flat_map (output_puts c.args.scope c.args.place c.args.kind c.args.inputs.now c.args.driven.now) c.args.bits.now)) c.from_residual.result c.in_err-add_output.field-0.0 (err_from_is_err_and c.from_residual.result c.from_residual.ensures.1)
    (list-refused (output_puts c.args.scope c.args.place c.args.kind c.args.inputs.now c.args.driven.now) c.args.bits.now c.loop-bit.bit-index
    (bit.Net 0) c.args.made.now c.loop-bit.made c.in_err-add_output.field-0.0
    c.loop-bit-test.true c.loop-bit.invariant.left c.in_err-add_output.ensures.refused)
