-- Up to the place no time is later, and the walk to the end gets shorter.
use Rattle.std.proofs.Common.{length}
use Rattle.event_wheel.specs.Slots.{node_at}
use Rattle.event_wheel.specs.Chains.{walk}
use Rattle.event_wheel.proofs.PlaceLaws.{IsPassing}
use Rattle.event_wheel.proofs.places.place_of.Given as goal

abbrev pub invariant-loop-key : goal.invariant-loop-key
invariant-loop-key g l = IsPassing (node_at l.nodes) l.fn.near l.fn.first l.time l.before l.after

abbrev pub decreases-loop-key : goal.decreases-loop-key
decreases-loop-key g l = length (walk (length l.nodes.slots) (node_at l.nodes) 1 l.after)
