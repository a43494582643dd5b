use Rattle.time_checks.proofs.WatchLaws.{watch-of}
use Rattle.time_checks.proofs.seeing.see_check.Goals as goal

pub events_of-events-requires-clause-watch : goal.events_of-events-requires-clause-watch
events_of-events-requires-clause-watch c = watch-of c.args.checks.now c.args.watches.now c.args.number _ c.index-checks-number.result c.requires.watches c.requires.number c.index-checks-number.is
