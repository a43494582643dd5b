use Rattle.std.proofs.Common.{subst}
use Rattle.fit_words.specs.WordsSeen.{asked_seen}
use Rattle.fit_top.specs.Answer.{Meets}
use Rattle.fit_top.specs.Work.{answer_seen}
use Rattle.fit_top.proofs.Answered.{one_met}
use Rattle.fit_top.proofs.answers.answer_for.Goals as goal

pub returns-then-branch-clause-right : goal.returns-then-branch-clause-right
returns-then-branch-clause-right g c = λ held e.
    one_met answer_seen (asked_seen c.args.asked.now) (g.F.Folders.meeting c.args.folders.now) held c.in_ok-usage_answer.field-0
    (subst (Meets (g.F.Folders.meeting c.args.folders.now) (asked_seen c.args.asked.now)) c.if-branch.true c.in_ok-meets.ensures) c.in_ok-usage_answer.ensures
