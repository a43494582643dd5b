-- The parts that aren't empty.
use Rattle.stim_read.proofs.WordLaws.{words-kept}
use Rattle.stim_read.proofs.lines.words_of.Goals as goal

pub returns : goal.returns
returns c = words-kept c.args.line.now _ _ c.drop_empty.ensures c.in_ok-parts.ensures
