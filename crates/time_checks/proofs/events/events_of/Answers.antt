use Rattle.std.proofs.Common.{length}
use Rattle.time_checks.specs.AdjustedSeen.{adjusted_seen}
use Rattle.time_checks.proofs.WatchLaws.{datum-conditions, datum-free, datum-within, events-exact, refer-free, refer-within}
use Rattle.time_checks.proofs.events.events_of.Goals as goal

pub change_at-refer-requires-clause-within : goal.change_at-refer-requires-clause-within
change_at-refer-requires-clause-within c = refer-within (adjusted_seen c.args.check.now) c.args.watch.now (length c.args.values.now) c.requires.watch c.requires.within

pub change_at-datum-requires-clause-within : goal.change_at-datum-requires-clause-within
change_at-datum-requires-clause-within c = datum-within (adjusted_seen c.args.check.now) c.args.watch.now (length c.args.values.now) c.requires.watch c.requires.within

pub happens-requires-clause-free : goal.happens-requires-clause-free
happens-requires-clause-free c = refer-free c.args.check.now c.args.watch.now c.args.values.now c.requires.watch

pub datum_happens-requires-clause-within : goal.datum_happens-requires-clause-within
datum_happens-requires-clause-within c = datum-conditions c.args.check.now (length c.args.values.now) c.requires.within

pub datum_happens-requires-clause-free : goal.datum_happens-requires-clause-free
datum_happens-requires-clause-free c = datum-free c.args.check.now c.args.watch.now c.args.values.now c.requires.watch

pub returns : goal.returns
returns c =
    events-exact c.args.check.now c.args.watch.now c.args.last.now c.args.values.now c.change_at-refer.result c.change_at-datum.result c.happens.result c.datum_happens.result c.contains.result
    c.requires.watch c.change_at-refer.ensures.number c.change_at-datum.ensures.number c.happens.ensures c.datum_happens.ensures c.contains.ensures
