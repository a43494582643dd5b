-- The places before this one were marked and added.
use Rattle.elab_ends.proofs.Marking.{Marked}
use Rattle.elab_ends.proofs.ends.add_new.Given as goal

abbrev pub invariant-loop-place : goal.invariant-loop-place
invariant-loop-place l = Marked l.table l.places l.initial.seen l.initial.bits.items l.place-index l.seen l.bits.items
