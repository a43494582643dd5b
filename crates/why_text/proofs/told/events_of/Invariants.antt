-- The events of the links so far.
use Rattle.std.proofs.Common.{◌≡◌, take}
use Rattle.why_text.specs.Told.{chain_events}
use Rattle.why_text.proofs.told.events_of.Given as goal

abbrev pub invariant-loop-link : goal.invariant-loop-link
invariant-loop-link l = l.events.items ≡ chain_events l.event (take l.link-index l.links)
