use Rattle.std.proofs.Common.{◌∙◌}
use Rattle.fit_words.proofs.RuleLaws.{all_have_lasts}
use Rattle.fit_words.proofs.paths.have_lasts.Goals as goal

pub returns : goal.returns
returns c = c.each_has_last.ensures ∙ all_have_lasts c.args.names.now
