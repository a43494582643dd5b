-- The primitives of the members so far stand ready.
use Rattle.std.proofs.Common.{map, take}
use Rattle.elab_variables.specs.Seen.{view_member}
use Rattle.elab_modules.specs.Reaching.{Stocked}
use Rattle.elab_modules.proofs.stock.add_primitives.Given as goal

abbrev pub invariant-loop-member : goal.invariant-loop-member
invariant-loop-member l = Stocked l.definitions l.initial.parts l.parts l.initial.udps.items l.udps.items (map view_member (take l.member-index l.members))
