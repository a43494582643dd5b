use Rattle.fit_words.proofs.SameLaws.{asked-Decide}
use Rattle.fit_words.proofs.words.is_same.Goals as goal

pub returns : goal.returns
returns c = asked-Decide c.args.one.now c.args.other.now c.eq.result c.eq.ensures
