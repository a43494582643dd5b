use Rattle.std.proofs.Common.{ap, ◌∙◌, nat_le}
use Rattle.fit_words.proofs.RuleLaws.{count_of_taken}
use Rattle.fit_words.specs.Words.{value_under}
use Rattle.fit_words.proofs.rules.is_single.Goals as goal

pub returns : goal.returns
returns c = ap (λ n. nat_le n 1) (c.count_under.ensures ∙ count_of_taken (value_under c.args.name.now) c.args.arguments.now)
