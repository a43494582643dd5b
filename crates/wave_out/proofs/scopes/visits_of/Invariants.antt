use Rattle.std.proofs.Common.{length}
use Rattle.wave_out.specs.Walk.{left_visits, GoesOn}
use Rattle.wave_out.proofs.scopes.visits_of.Given as goal

abbrev pub invariant-loop-visit : goal.invariant-loop-visit
invariant-loop-visit l = GoesOn l.circuit l.made.items l.pending.items

abbrev pub decreases-loop-visit : goal.decreases-loop-visit
decreases-loop-visit l = length (left_visits l.circuit l.pending.items)
