use Rattle.std.proofs.Common.{◌∙◌, map, string_bytes}
use Rattle.std.proofs.lemmas.Result.{err_from_is_err_and}
use Rattle.signoff_phases.proofs.Composed.{failed_again, unfailed}
use Rattle.why_words.specs.Words.{asked_of}
use Rattle.why_words.specs.WordsSeen.{asked_seen}
use Rattle.why_words.specs.declared.words.Asked.{Asked}
use Rattle.why_top.specs.Seen.{task_seen}
use Rattle.why_top.specs.declared.answers.Answer.{Answer}
use Rattle.why_top.specs.declared.runs.Task.{Task}
use Rattle.why_top.proofs.Worked.{answered, asked_is, named_in, task_stop, words_stop}
use Rattle.why_top.proofs.work.work.Goals as goal

pub returns-in_err-asked-clause-right : goal.returns-in_err-asked-clause-right
returns-in_err-asked-clause-right g c =
    let p = err_from_is_err_and c.from_residual.result c.from_residual.ensures.1 in
    λ files e. rw (p.1, p.2) (words_stop (asked_of (map string_bytes c.args.words.now)) files c.in_err-asked.field-0.0 c.in_err-asked.ensures.gives.outcome)

pub returns-in_err-asked-clause-named : goal.returns-in_err-asked-clause-named
returns-in_err-asked-clause-named g c =
    let p = err_from_is_err_and c.from_residual.result c.from_residual.ensures.1 in
    rw (p.1, p.2) (unfailed Asked Answer _ c.in_err-asked.field-0.0 c.in_err-asked.ensures.works)

pub returns-in_err-task-clause-right : goal.returns-in_err-task-clause-right
returns-in_err-task-clause-right g c =
    let p = err_from_is_err_and c.from_residual-in_err-task.result c.from_residual-in_err-task.ensures.1 in
    let o = asked_of (map string_bytes c.args.words.now) in
    λ files e. rw (p.1, p.2) (task_stop o (asked_seen c.in_ok-asked.asked) files c.in_err-task.field-0.0 (asked_is o c.in_ok-asked.asked c.in_ok-asked.ensures.words) (c.in_err-task.ensures.gives files e).outcome)

pub returns-in_err-task-clause-named : goal.returns-in_err-task-clause-named
returns-in_err-task-clause-named g c =
    let p = err_from_is_err_and c.from_residual-in_err-task.result c.from_residual-in_err-task.ensures.1 in
    let o = asked_of (map string_bytes c.args.words.now) in
    rw (p.1, p.2) (failed_again Task Answer _ _ c.in_err-task.field-0.0 (named_in o (asked_seen c.in_ok-asked.asked) _ (asked_is o c.in_ok-asked.asked c.in_ok-asked.ensures.words)) c.in_err-task.ensures.named)

pub returns-clause-right : goal.returns-clause-right
returns-clause-right g c =
    let o = asked_of (map string_bytes c.args.words.now) in
    λ files e. answered o (asked_seen c.in_ok-asked.asked) files (task_seen c.in_ok-task.task) c.in_ok-answer_in.field-0 (asked_is o c.in_ok-asked.asked c.in_ok-asked.ensures.words) (c.in_ok-task.ensures.gives files e).outcome c.in_ok-answer_in.ensures
