-- None of the events so far is one of a net of which the other chain has one.
use Rattle.std.proofs.Common.{◌≡◌, drop}
use Rattle.why_text.specs.Parting.{parting}
use Rattle.why_text.proofs.parting.parting.Given as goal

abbrev pub invariant-loop-number : goal.invariant-loop-number
invariant-loop-number l = parting l.trace l.data_events l.refer_events ≡ parting l.trace (drop l.number-index l.data_events) l.refer_events
