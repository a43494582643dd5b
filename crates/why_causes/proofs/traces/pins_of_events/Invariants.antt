-- The pins of the events so far.
use Rattle.std.proofs.Common.{◌≡◌, map, take}
use Rattle.std.specs.List.{enumerate_from}
use Rattle.why_causes.proofs.TraceLaws.{pin_of}
use Rattle.why_causes.proofs.traces.pins_of_events.Given as goal

abbrev pub invariant-loop-number : goal.invariant-loop-number
invariant-loop-number l = l.pins.items ≡ map pin_of (take l.number (enumerate_from 0 l.events))
