-- A word of this form is in front, or none.
use Rattle.std.proofs.Common.{ℤ, subst, sym, w8}
use Rattle.std.proofs.lemmas.Int.{to_z-of_z}
use Rattle.std.specs.Fmt.{signed_decimal}
use Rattle.sim_save.specs.Faults.{IsPower}
use Rattle.sim_save.specs.Lines.{word}
use Rattle.sim_save.specs.Taking.{IsTaken}
use Rattle.sim_save.proofs.NumberLaws.{fits_power}
use Rattle.sim_save.proofs.TakeLaws.{no_power_front, no_power_word, power_taken}
use Rattle.sim_save.proofs.taking.take_power.Goals as goal

pub returns-in_err-digits : goal.returns-in_err-digits
returns-in_err-digits c = rw c.from_residual.ensures (no_power_front c.args.text.now c.in_err-digits.ensures)

pub returns-in_err-power : goal.returns-in_err-power
returns-in_err-power c = rw c.from_residual-in_err-power.ensures (no_power_word c.args.text.now c.in_ok-digits.digits.now c.in_ok-digits.rest.now c.in_ok-digits.ensures c.in_err-power.ensures)

pub returns : goal.returns
returns c =
    subst (λ (z : ℤ). IsTaken IsPower (λ y. word (signed_decimal y)) c.args.text.now z c.in_ok-digits.rest.now) (sym (to_z-of_z w8 c.in_ok-power.power (fits_power c.in_ok-power.power c.in_ok-power.ensures.0)))
    (power_taken c.args.text.now c.in_ok-digits.digits.now c.in_ok-digits.rest.now c.in_ok-power.power c.in_ok-digits.ensures c.in_ok-power.ensures)
