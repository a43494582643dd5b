use Rattle.std.proofs.Common.{ap, ◌∙◌, is_some}
use Rattle.sg_text.specs.Words.{reserved_rows, reserved_words}
use Rattle.sg_text.proofs.WordLaws.{some_use}
use Rattle.sg_text.proofs.words.is_reserved.Goals as goal

pub returns : goal.returns
unfolding reserved_words
returns c = c.is_some.ensures ∙ ap is_some c.use_of.ensures ∙ some_use c.args.bytes.now reserved_rows
