use Rattle.std.proofs.Common.{map, subst}
use Rattle.std.proofs.lemmas.Result.{err_from_is_err_and}
use Rattle.std.specs.Prelude.{Err}
use Rattle.fit_words.specs.WordsSeen.{asked_seen}
use Rattle.fit_top.specs.Stops.{FailsAmong}
use Rattle.fit_top.specs.Work.{answer_seen, made_seen}
use Rattle.fit_top.proofs.Worked.{make_named, read_named, right_left, stopped_left}
use Rattle.fit_top.proofs.answer.work_for.Goals as goal

pub returns-in_err-answer-clause-named : goal.returns-in_err-answer-clause-named
returns-in_err-answer-clause-named g c =
    let p = err_from_is_err_and c.from_residual.result c.from_residual.ensures.1 in
    rw (p.1, p.2) (read_named (asked_seen c.args.asked.now) (g.F.Folders.meeting c.args.folders.now) (Unit {0}) (Unit {0}) _ _ c.in_err-answer.field-0.0 c.in_err-answer.ensures.named)

pub returns-in_err-make_all-clause-left : goal.returns-in_err-make_all-clause-left
returns-in_err-make_all-clause-left g c =
    let p = err_from_is_err_and c.from_residual-in_err-make_all.result c.from_residual-in_err-make_all.ensures.1 in
    rw (p.1, p.2)
    (stopped_left (asked_seen c.args.asked.now) (g.F.Folders.meeting c.args.folders.now) (answer_seen c.in_ok-answer.answer) _ _ c.in_ok-answer.ensures.held c.in_ok-answer.ensures.right (Unit {0}) _ c.in_err-make_all.field-0.0
    (rw c.deref.ensures.value at c.in_err-make_all.ensures.files) c.in_err-make_all.ensures.held)

pub returns-in_err-make_all-clause-named : goal.returns-in_err-make_all-clause-named
returns-in_err-make_all-clause-named g c =
    let p = err_from_is_err_and c.from_residual-in_err-make_all.result c.from_residual-in_err-make_all.ensures.1 in
    rw (p.1, p.2)
    (make_named (asked_seen c.args.asked.now) (g.F.Folders.meeting c.args.folders.now) (answer_seen c.in_ok-answer.answer) _ _ c.in_ok-answer.ensures.held c.in_ok-answer.ensures.right (Unit {0}) (Unit {0}) _ c.in_err-make_all.field-0.0
    (subst (λ l. FailsAmong {X = Unit {0}} (g.S.Shelf.last_fault c.make_all.new.shelf) (map (λ f. f.name) (map made_seen l)) (Err c.in_err-make_all.field-0.0)) c.deref.ensures.value c.in_err-make_all.ensures.named))

pub returns-clause-left : goal.returns-clause-left
returns-clause-left g c =
    right_left (asked_seen c.args.asked.now) (g.F.Folders.meeting c.args.folders.now) (answer_seen c.in_ok-answer.answer) _ _ c.in_ok-answer.ensures.held c.in_ok-answer.ensures.right _ c.told_of.result
    c.told_of.ensures.status c.told_of.ensures.text (rw c.deref.ensures.value at c.in_ok-make_all.ensures.files)
