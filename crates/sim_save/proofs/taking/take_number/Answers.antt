-- A word of this form is in front, or none.
use Rattle.sim_save.proofs.TakeLaws.{no_number_front, no_number_word, number_taken}
use Rattle.sim_save.proofs.taking.take_number.Goals as goal

pub returns-in_err-digits : goal.returns-in_err-digits
returns-in_err-digits c = rw c.from_residual.ensures (no_number_front c.args.text.now c.in_err-digits.ensures)

pub returns-in_err-n : goal.returns-in_err-n
returns-in_err-n c = rw c.from_residual-in_err-n.ensures (no_number_word c.args.text.now c.in_ok-digits.digits.now c.in_ok-digits.rest.now c.in_ok-digits.ensures c.in_err-n.ensures)

pub returns : goal.returns
returns c = number_taken c.args.text.now c.in_ok-digits.digits.now c.in_ok-digits.rest.now c.in_ok-n.n c.in_ok-digits.ensures c.in_ok-n.ensures
