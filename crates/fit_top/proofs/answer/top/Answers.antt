use Rattle.std.proofs.Common.{subst}
use Rattle.fit_top.specs.Work.{TellsEnd}
use Rattle.fit_top.proofs.Kept.{counted, others, refused}
use Rattle.fit_top.proofs.Promised.{outcome}
use Rattle.fit_top.proofs.answer.top.Goals as goal

pub returns-clause-outcome : goal.returns-clause-outcome
returns-clause-outcome g c =
    outcome _ _ c.work-end.result c.tell.result _ _ _ _ _ _ c.work-end.ensures.left c.work-end.ensures.cause c.work-end.ensures.folders c.work-end.ensures.folder c.work-end.ensures.named
    (subst (λ n. TellsEnd n c.work-end.result (g.K.Sink.told c.args.report.now) (g.K.Sink.told c.tell.new.report) c.tell.result) c.failed.ensures.last c.tell.ensures)

pub returns-clause-others : goal.returns-clause-others
returns-clause-others g c = others _ _ _ _ _ _ _ _ _ (returns-clause-outcome g c)

pub returns-clause-refused : goal.returns-clause-refused
returns-clause-refused g c = refused _ _ _ _ _ _ _ _ _ (returns-clause-outcome g c)

pub returns-clause-counted : goal.returns-clause-counted
returns-clause-counted g c = counted _ _ _ _ _ _ _ _ _ (returns-clause-outcome g c)
