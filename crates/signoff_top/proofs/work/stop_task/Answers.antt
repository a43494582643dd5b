use Rattle.std.proofs.Common.{[]}
use Rattle.run_words.specs.WordsSeen.{stop_seen}
use Rattle.signoff_top.specs.Answer.{begun_dump}
use Rattle.signoff_top.specs.Tasks.{task_seen}
use Rattle.signoff_top.proofs.Stopped.{dump_first, dump_made, made_later}
use Rattle.signoff_top.proofs.Worked.{failed_at_made, made_fails, made_wants, none_yet}
use Rattle.signoff_top.proofs.work.stop_task.Goals as goal

pub returns-in-Ok-clause-left : goal.returns-in-Ok-clause-left
returns-in-Ok-clause-left g c = λ ws old h k.
    c.end_stop.ensures.left ws old h (dump_made (begun_dump (task_seen c.args.task) (stop_seen c.args.stop)) old _ _ k c.in-Ok.ensures.file)

pub returns-in-Ok-clause-named : goal.returns-in-Ok-clause-named
returns-in-Ok-clause-named g c = λ ws asked old e dump save h k.
    c.end_stop.ensures.named ws asked old e save h (dump_made (begun_dump (task_seen c.args.task) (stop_seen c.args.stop)) old _ _ k c.in-Ok.ensures.file)

pub returns-in-Err-Failed-clause-left : goal.returns-in-Err-Failed-clause-left
returns-in-Err-Failed-clause-left g c =
    let task = task_seen c.args.task in
    let stop = stop_seen c.args.stop in
    λ ws old h k. made_fails ws _ [] (begun_dump task stop) (made_later task stop c.requires.before) old _ _ h (dump_first task stop c.requires.before) (none_yet old _ k) c.in-Err-Failed.ensures.file

pub returns-in-Err-Failed-clause-named : goal.returns-in-Err-Failed-clause-named
returns-in-Err-Failed-clause-named g c =
    let task = task_seen c.args.task in
    let stop = stop_seen c.args.stop in
    let named = rw c.in-Err-Failed.field-0-is at c.in-Err-Failed.ensures.named in
    λ ws asked old e dump save h k.
    failed_at_made ws _ [] (begun_dump task stop) (made_later task stop c.requires.before) old _ _ h (dump_first task stop c.requires.before) (none_yet old _ k) c.in-Err-Failed.ensures.file asked _ e dump named

pub returns-clause-left : goal.returns-clause-left
returns-clause-left g c =
    let task = task_seen c.args.task in
    let stop = stop_seen c.args.stop in
    λ ws old h k. made_wants ws _ [] (begun_dump task stop) (made_later task stop c.requires.before) old _ _ h (dump_first task stop c.requires.before) (none_yet old _ k) c.in-Err-NoMemory.ensures.file
