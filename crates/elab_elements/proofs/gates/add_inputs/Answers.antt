-- One number more is there, and a constant too many is one of all.
use Rattle.std.proofs.Common.{ℕ, ◌≤◌}
use Rattle.std.proofs.lemmas.Result.{err_from_is_err_and}
use Rattle.elab_numbering.specs.Refusals.{RefusesCount}
use Rattle.elab_bits.specs.declared.bits.Bit.TheVariants as bit
use Rattle.elab_elements.specs.Words.{constants_in}
use Rattle.elab_elements.proofs.Inputs.{refused-input}
use Rattle.elab_elements.proofs.Putting.{exit-by}
use Rattle.elab_elements.proofs.gates.add_inputs.Goals as goal

pub returns-in_err-next-clause-refused : goal.returns-in_err-next-clause-refused
returns-in_err-next-clause-refused c =
    exit-by (λ r. (total : ℕ) → constants_in c.args.bits.now ≤ total → RefusesCount total r) c.from_residual-in_err-next.result c.in_err-next.field-0.0
    (err_from_is_err_and c.from_residual-in_err-next.result c.from_residual-in_err-next.ensures.1)
    (refused-input c.args.bits.now c.loop-bit.bit-index c.loop-bit.next c.args.first (bit.Net 0) c.in_err-next.field-0.0
    c.loop-bit-test.true c.loop-bit.invariant.after c.loop-bit.invariant.count c.in_err-next.ensures.refused)
