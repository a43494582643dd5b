use Rattle.std.proofs.Common.{[], refl}
use Rattle.signoff_top.specs.Answer.{dump_of, run_of}
use Rattle.signoff_top.specs.Tasks.{task_seen}
use Rattle.signoff_top.proofs.Worked.{dump_file, failed_at_made, made_fails, made_wants, none_yet, run_leaves}
use Rattle.signoff_top.proofs.work.run_task.Goals as goal

pub returns-in-Ok-clause-left : goal.returns-in-Ok-clause-left
returns-in-Ok-clause-left g c = λ ws old h k.
    run_leaves ws (record { task = c.args.task; end = c.in-Ok.end }) (run_of (task_seen c.args.task)) (dump_of (task_seen c.args.task)) old _ _ h k c.in-Ok.ensures.file c.in-Ok.ensures.spent c.in-Ok.ensures.violations

pub returns-in-Err-Failed-clause-left : goal.returns-in-Err-Failed-clause-left
returns-in-Err-Failed-clause-left g c = λ ws old h k. made_fails ws _ [] (dump_file c.args.task) [] old _ _ h refl (none_yet old _ k) c.in-Err-Failed.ensures.file

pub returns-in-Err-Failed-clause-named : goal.returns-in-Err-Failed-clause-named
returns-in-Err-Failed-clause-named g c =
    let named = rw c.in-Err-Failed.field-0-is at c.in-Err-Failed.ensures.named in
    λ ws asked old e among h k. failed_at_made ws _ [] (dump_file c.args.task) [] old _ _ h refl (none_yet old _ k) c.in-Err-Failed.ensures.file asked _ e among named

pub returns-clause-left : goal.returns-clause-left
returns-clause-left g c = λ ws old h k. made_wants ws _ [] (dump_file c.args.task) [] old _ _ h refl (none_yet old _ k) c.in-Err-NoMemory.ensures.file
