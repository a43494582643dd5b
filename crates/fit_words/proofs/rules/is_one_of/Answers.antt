use Rattle.std.proofs.Common.{◌∙◌}
use Rattle.fit_words.proofs.RuleLaws.{any_of_names}
use Rattle.fit_words.proofs.rules.is_one_of.Goals as goal

pub returns : goal.returns
returns c = c.is_among.ensures ∙ any_of_names c.args.name.now c.args.names.now
