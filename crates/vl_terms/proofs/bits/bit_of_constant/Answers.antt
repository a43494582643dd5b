-- Where the width isn't 1 there isn't one bit.
use Rattle.std.proofs.Common.{arith}
use Rattle.vl_token.specs.Constants.{sized_bits, unsized_bits}
use Rattle.vl_terms.proofs.Width.{length-to_width, no_bit}
use Rattle.vl_terms.proofs.bits.bit_of_constant.Goals as goal

pub returns-then-constant-ne1 : goal.returns-then-constant-ne1
returns-then-constant-ne1 c =
    let k = c.args.constant in
    no_bit (sized_bits k.width k.base k.digits.now) (λ e. absurd (omega (arith, e, c.if-constant-ne1.true, length-to_width k.width (unsized_bits k.base k.digits.now))))
