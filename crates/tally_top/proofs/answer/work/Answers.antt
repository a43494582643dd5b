use Rattle.std.proofs.Common.{subst}
use Rattle.std.specs.Prelude.{IfOk}
use Rattle.tally_top.specs.Answer.{IsAnswerTo}
use Rattle.tally_top.specs.Seen.{answer_seen}
use Rattle.tally_top.proofs.answer.work.Goals as goal

pub returns-clause-right : goal.returns-clause-right
returns-clause-right g c = λ held e. subst (λ o. IfOk c.answer_for.result (λ a. IsAnswerTo o held (answer_seen a))) c.in-Some.ensures (c.answer_for.ensures.right held e)
