-- None of the events so far is one of the net.
use Rattle.std.proofs.Common.{◌≡◌, drop}
use Rattle.why_text.specs.Parting.{event_on}
use Rattle.why_text.proofs.parting.event_on.Given as goal

abbrev pub invariant-loop-number : goal.invariant-loop-number
invariant-loop-number l = event_on l.trace l.events l.net ≡ event_on l.trace (drop l.number-index l.events) l.net
