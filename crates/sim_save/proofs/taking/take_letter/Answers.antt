-- A word of this form is in front, or none.
use Rattle.sim_save.proofs.TakeLaws.{no_letter_front, no_letter_word, letter_taken}
use Rattle.sim_save.proofs.taking.take_letter.Goals as goal

pub returns-in_err-letter : goal.returns-in_err-letter
returns-in_err-letter c = rw c.from_residual.ensures (no_letter_front c.args.text.now c.in_err-letter.ensures)

pub returns-in_err-value : goal.returns-in_err-value
returns-in_err-value c = rw c.from_residual-in_err-value.ensures (no_letter_word c.args.text.now c.in_ok-letter.letter.now c.in_ok-letter.rest.now c.in_ok-letter.ensures c.in_err-value.ensures)

pub returns : goal.returns
returns c = letter_taken c.args.text.now c.in_ok-letter.letter.now c.in_ok-letter.rest.now c.in_ok-value.value c.in_ok-letter.ensures c.in_ok-value.ensures
