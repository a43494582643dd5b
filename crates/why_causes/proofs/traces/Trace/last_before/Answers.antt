use Rattle.why_causes.proofs.TraceLaws.{row-parted, none-found, last-there, last-is}
use Rattle.why_causes.proofs.traces.Trace.last_before.Goals as goal

pub count_before-count-requires : goal.count_before-count-requires
count_before-count-requires c = row-parted c.args.self.now c.self.inside.first.now c.self.inside.events.now c.self.inside.rows c.args.net c.of-row.result.now c.self.invariant c.self.view_is c.requires c.of-row.ensures c.args.time

pub returns-then-count-eq0 : goal.returns-then-count-eq0
returns-then-count-eq0 c =
    none-found c.args.self.now c.self.inside.first.now c.self.inside.events.now c.self.inside.rows c.args.net c.of-row.result.now c.self.invariant c.self.view_is c.requires c.of-row.ensures c.args.time
    c.count_before-count.result c.count_before-count.ensures.count c.if-count-eq0.true

pub bounds-self-inside-number : goal.bounds-self-inside-number
bounds-self-inside-number c =
    last-there c.args.self.now c.self.inside.first.now c.self.inside.events.now c.self.inside.rows c.args.net c.of-row.result.now c.self.invariant c.self.view_is c.requires c.of-row.ensures c.args.time
    c.count_before-count.result 0 c.count_before-count.ensures.count c.count_before-count.ensures.within c.if-count-eq0.false

pub returns : goal.returns
returns c =
    last-is c.args.self.now c.self.inside.first.now c.self.inside.events.now c.self.inside.rows c.args.net c.of-row.result.now c.self.invariant c.self.view_is c.requires c.of-row.ensures c.args.time
    c.count_before-count.result 0 _ c.count_before-count.ensures.count c.count_before-count.ensures.within c.if-count-eq0.false
