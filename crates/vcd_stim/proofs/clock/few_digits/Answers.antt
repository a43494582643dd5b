-- Few digits make a small number.
use Rattle.std.proofs.Common.{◌∙◌, sym, arith}
use Rattle.vcd_stim.proofs.DigitLaws.{few_digits_are}
use Rattle.vcd_stim.proofs.clock.few_digits.Goals as goal

pub returns : goal.returns
returns c = few_digits_are c.args.digits.now c.number_of.result (λ k. omega (arith, c.type_inv.digits k)) (sym c.has_many_digits.ensures ∙ c.if-has_many_digits.false) c.number_of.ensures
