use Rattle.why_top.proofs.Answered.{watched_run}
use Rattle.why_top.proofs.runs.run_of.Goals as goal

pub returns : goal.returns
returns c =
    watched_run c.args.task.now c.args.rounds c.watch.result c.watch.ensures.first c.watch.ensures.few c.watch.ensures.first_nets c.watch.ensures.events c.watch.ensures.nets c.watch.ensures.times c.watch.ensures.rise
    c.watch.ensures.violations c.watch.ensures.bounded c.watch.ensures.spent
