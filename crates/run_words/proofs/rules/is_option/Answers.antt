use Rattle.std.proofs.Common.{◌∙◌}
use Rattle.run_words.proofs.RuleLaws.{any_of_names}
use Rattle.run_words.proofs.rules.is_option.Goals as goal

pub returns : goal.returns
returns c = c.is_among.ensures ∙ any_of_names c.args.name.now c.args.options.now
