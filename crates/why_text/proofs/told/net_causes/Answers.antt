use Rattle.std.proofs.Common.{◌+◌}
use Rattle.why_text.proofs.ViolationLaws.{last_within}
use Rattle.why_text.proofs.told.net_causes.Goals as goal

pub chain_of-requires-clause-event : goal.chain_of-requires-clause-event
chain_of-requires-clause-event c = last_within c.args.trace.now c.args.net (c.args.time + 1) (c.in-Some.event, c.in-Some.field-0-1) c.in-Some.ensures
