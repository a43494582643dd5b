use Rattle.std.proofs.Common.{◌∙◌}
use Rattle.fit_words.proofs.RuleLaws.{all_seen_known}
use Rattle.fit_words.proofs.rules.are_known.Goals as goal

pub returns : goal.returns
returns c = c.each_known.ensures ∙ all_seen_known c.args.arguments.now
