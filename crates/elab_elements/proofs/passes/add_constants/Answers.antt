-- One more is put, and a refusal on the way is one of all.
use Rattle.std.proofs.Common.{flat_map}
use Rattle.std.proofs.lemmas.Result.{err_from_is_err_and}
use Rattle.elab_bits.specs.declared.bits.Bit.TheVariants as bit
use Rattle.elab_elements.specs.Puts.{RefusesPuts}
use Rattle.elab_elements.specs.Words.{pass_puts}
use Rattle.elab_elements.proofs.Left.{list-refused}
use Rattle.elab_elements.proofs.Putting.{exit-by}
use Rattle.elab_elements.proofs.passes.add_constants.Goals as goal

pub returns-in_err-add_pass-clause-refused : goal.returns-in_err-add_pass-clause-refused
returns-in_err-add_pass-clause-refused c =
    exit-by (RefusesPuts c.args.made.now (flat_map (λ b. pass_puts c.args.scope c.args.place c.args.row.now c.args.driven.now
    (b, bit.Constant c.args.place c.args.value)) c.args.bits.now)) c.from_residual.result c.in_err-add_pass.field-0.0 (err_from_is_err_and c.from_residual.result c.from_residual.ensures.1)
    (list-refused (λ b. pass_puts c.args.scope c.args.place c.args.row.now c.args.driven.now (b, bit.Constant c.args.place c.args.value)) c.args.bits.now c.loop-to.to-index
    (bit.Net 0) c.args.made.now c.loop-to.made c.in_err-add_pass.field-0.0
    c.loop-to-test.true c.loop-to.invariant.left c.in_err-add_pass.ensures.refused)
