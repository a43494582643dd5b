-- The net of the event's bit, and its condition over nets.
use Rattle.elab_checks.proofs.BoundEvents.{bit-within, event-over}
use Rattle.elab_checks.proofs.uses.event_of.Goals as goal

pub net_at-requires : goal.net_at-requires
net_at-requires c = bit-within c.args.here.table.now c.args.here.row.now c.requires.row.0 c.args.event.bit c.requires.row.1 c.requires.usable.in_row

pub returns : goal.returns
returns c = λ net r.
    event-over c.args.here.table.now c.args.here.row.now net c.args.conditions.now c.args.event c.net_at.result c.in_ok-condition.condition r c.requires.usable.in_row c.net_at.ensures
    (c.in_ok-condition.ensures net r)
