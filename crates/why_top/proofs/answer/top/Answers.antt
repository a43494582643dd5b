use Rattle.std.proofs.Common.{subst}
use Rattle.why_top.specs.Seen.{TellsEnd}
use Rattle.why_top.proofs.Promised.{counted, outcome}
use Rattle.why_top.proofs.answer.top.Goals as goal

pub returns-clause-outcome : goal.returns-clause-outcome
returns-clause-outcome g c =
    outcome _ c.work-end.result c.tell.result _ _ _ _ c.work-end.ensures.right c.work-end.ensures.cause c.work-end.ensures.named
    (subst (λ n. TellsEnd n c.work-end.result (g.K.Sink.told c.args.report.now) (g.K.Sink.told c.tell.new.report) c.tell.result) c.failed.ensures.last c.tell.ensures)

pub returns-clause-counted : goal.returns-clause-counted
returns-clause-counted g c = counted _ _ _ _ _ _ (returns-clause-outcome g c)
