use Rattle.std.proofs.Common.{map, subst}
use Rattle.std.specs.Prelude.{string_bytes}
use Rattle.signoff_top.specs.Tasks.{IsSound}
use Rattle.signoff_top.specs.Work.{TellsEnd}
use Rattle.signoff_top.proofs.Promised.{outcome, headline, answer, exact, usage, kept, others, counted, run_end}
use Rattle.signoff_top.proofs.Resumed.{resumes_whole}
use Rattle.signoff_top.proofs.Sound.{decided_sound}
use Rattle.signoff_top.proofs.answer.top.Goals as goal

pub returns-clause-outcome : goal.returns-clause-outcome
returns-clause-outcome g c =
    outcome _ c.work-end.result c.tell.result _ _ _ _ c.work-end.ensures.left c.work-end.ensures.cause c.work-end.ensures.named c.work-end.ensures.words c.work-end.ensures.begun
    (subst (λ n. TellsEnd n c.work-end.result (g.K.Sink.told c.args.report.now) (g.K.Sink.told c.tell.new.report) c.tell.result) c.failed.ensures.last c.tell.ensures)

pub returns-clause-headline : goal.returns-clause-headline
returns-clause-headline g c = headline _ _ _ _ _ _ (returns-clause-outcome g c)

pub returns-clause-answer : goal.returns-clause-answer
returns-clause-answer g c = answer _ _ _ _ _ _ (returns-clause-outcome g c)

pub returns-clause-exact : goal.returns-clause-exact
returns-clause-exact g c = exact _ _ _ _ _ _ (returns-clause-outcome g c)

pub returns-clause-usage : goal.returns-clause-usage
returns-clause-usage g c = usage _ _ _ _ _ _ (returns-clause-outcome g c)

pub returns-clause-kept : goal.returns-clause-kept
returns-clause-kept g c = kept _ _ _ _ _ _ (returns-clause-outcome g c)

pub returns-clause-others : goal.returns-clause-others
returns-clause-others g c = others _ _ _ _ _ _ (returns-clause-outcome g c)

pub returns-clause-counted : goal.returns-clause-counted
returns-clause-counted g c = counted _ _ _ _ _ _ (returns-clause-outcome g c)

pub returns-clause-run_end : goal.returns-clause-run_end
returns-clause-run_end g c = run_end _ _ _ _ _ _ (returns-clause-outcome g c)

pub returns-clause-resumed : goal.returns-clause-resumed
returns-clause-resumed g c =
    let ws = map (λ w. string_bytes w) c.args.words.now in
    let last = g.S.Shelf.last_fault c.work-end.new.shelf in
    let old = g.K.Sink.told c.args.report.now in
    let new = g.K.Sink.told c.tell.new.report in
    λ decided files e. resumes_whole ws files (λ d state task asked k.
    decided_sound (IsSound task) last c.work-end.result old new c.tell.result (c.work-end.ensures.sound files d state task e asked k) (subst (λ n. TellsEnd n c.work-end.result old new c.tell.result) c.failed.ensures.last c.tell.ensures) decided)
