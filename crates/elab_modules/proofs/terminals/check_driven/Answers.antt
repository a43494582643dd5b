-- The first constant is refused.
use Rattle.std.proofs.Common.{flat_map}
use Rattle.std.proofs.lemmas.Result.{err_from_is_err_and}
use Rattle.elab_model.specs.TerminalFaults.{constant_fault}
use Rattle.elab_bits.specs.Seen.{view_bit}
use Rattle.elab_modules.proofs.InTurn.{exit, this-refused_at, next-faultless_at}
use Rattle.elab_modules.proofs.terminals.check_driven.Goals as goal

pub returns-in_err-check_bit : goal.returns-in_err-check_bit
returns-in_err-check_bit c = λ vs.
    exit c.from_residual.result (flat_map (λ b. constant_fault (view_bit vs b)) c.args.bits.now) c.in_err-check_bit.field-0.0
    (err_from_is_err_and c.from_residual.result c.from_residual.ensures.1)
    (this-refused_at (λ b. constant_fault (view_bit vs b)) c.args.bits.now c.loop-bit.bit-index _ c.in_err-check_bit.field-0.0 c.loop-bit-test.true (c.loop-bit.invariant vs)
    (c.in_err-check_bit.ensures vs))

pub loop-bit-preserved : goal.loop-bit-preserved
loop-bit-preserved c = λ vs.
    next-faultless_at (λ b. constant_fault (view_bit vs b)) c.args.bits.now c.loop-bit.bit-index _ c.loop-bit-test.true (c.in_ok-check_bit.ensures vs) (c.loop-bit.invariant vs)
