-- No bracket ends the text.
use Rattle.stim_read.proofs.SetLaws.{no_bracket}
use Rattle.stim_read.proofs.sets.index_of.Goals as goal

pub returns-in_err-index : goal.returns-in_err-index
returns-in_err-index c = rw c.from_residual.ensures (no_bracket c.args.text.now c.in_err-index.ensures)
