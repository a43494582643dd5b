use Rattle.std.proofs.Common.{ap, ◌∙◌, nat_le}
use Rattle.run_words.proofs.RuleLaws.{count_of_values}
use Rattle.run_words.proofs.rules.is_single.Goals as goal

pub returns : goal.returns
returns c = ap (λ n. nat_le n 1) (c.count_under.ensures ∙ count_of_values c.args.name.now c.args.arguments.now)
