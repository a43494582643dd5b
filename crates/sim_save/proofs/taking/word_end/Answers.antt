-- A break, or the end.
use Rattle.std.proofs.Common.{◌∙◌}
use Rattle.sim_save.proofs.NumberLaws.{end_of}
use Rattle.sim_save.proofs.taking.word_end.Goals as goal

pub returns : goal.returns
returns c = c.unwrap_or.ensures ∙ end_of c.first_break.result c.args.text.now c.first_break.ensures
