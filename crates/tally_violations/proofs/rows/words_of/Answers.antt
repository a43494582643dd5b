-- The parts that aren't empty.
use Rattle.tally_violations.proofs.WordLaws.{words-kept}
use Rattle.tally_violations.proofs.rows.words_of.Goals as goal

pub returns : goal.returns
returns c = words-kept c.args.row.now _ _ c.drop_empty.ensures c.in_ok-parts.ensures
