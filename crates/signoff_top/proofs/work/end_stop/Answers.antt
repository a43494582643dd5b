use Rattle.std.proofs.Common.{refl, sym}
use Rattle.std.specs.Prelude.{Some}
use Rattle.run_words.specs.WordsSeen.{stop_seen}
use Rattle.signoff_top.specs.Answer.{begun_dump, stopped_of}
use Rattle.signoff_top.specs.Tasks.{task_seen}
use Rattle.signoff_top.proofs.Stopped.{answers_are, stop_reached, stop_spent}
use Rattle.signoff_top.proofs.Worked.{run_leaves}
use Rattle.signoff_top.proofs.work.end_stop.Goals as goal

pub save_moment-requires : goal.save_moment-requires
save_moment-requires g c =
    let reached = rw c.in-Stop.is at c.requires.reached in record { fits = reached.2; moment = reached.1; violations = c.requires.violations }

pub returns-in-Stop-clause-left : goal.returns-in-Stop-clause-left
returns-in-Stop-clause-left g c =
    let reached = rw c.in-Stop.is at c.requires.reached in
    λ ws old h made. c.save_moment.ensures.left ws old (record {
      right = answers_are ws _ _ old (stop_reached (task_seen c.args.task) (stop_seen c.args.stop) c.requires.before reached.0) h;
      made = made;
    })

pub returns-in-Stop-clause-named : goal.returns-in-Stop-clause-named
returns-in-Stop-clause-named g c =
    let reached = rw c.in-Stop.is at c.requires.reached in
    λ ws asked old e among h made. c.save_moment.ensures.named ws asked old e among (record {
      right = answers_are ws _ _ old (stop_reached (task_seen c.args.task) (stop_seen c.args.stop) c.requires.before reached.0) h;
      made = made;
    })

pub returns-in-Spent-clause-left : goal.returns-in-Spent-clause-left
returns-in-Spent-clause-left g c =
    let reached = rw c.in-Spent.is at c.requires.reached in
    let task = task_seen c.args.task in
    let stop = stop_seen c.args.stop in
    λ ws old h made. run_leaves ws (record { task = c.args.task; end = record { violations = c.args.end.violations; spent = Some c.in-Spent.spent } }) (stopped_of task stop) (begun_dump task stop).bytes old old _ (answers_are ws _ _ old (stop_spent task stop _ c.requires.before reached) h) refl made (sym reached) c.requires.violations
