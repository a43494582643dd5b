use Rattle.std.proofs.Common.{◌∙◌, ap}
use Rattle.fit_top.specs.Answer.{refusal}
use Rattle.fit_top.specs.declared.status.Status.TheVariants as status
use Rattle.fit_top.proofs.answers.usage_answer.Goals as goal

pub returns : goal.returns
returns c = c.refusal.ensures ∙ ap (refusal status.Usage) c.in_ok-line.ensures
