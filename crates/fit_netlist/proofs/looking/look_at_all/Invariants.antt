-- Each turn is a part.
use Rattle.std.proofs.Common.{◌-◌, ◌≤◌, length}
use Rattle.fit_netlist.proofs.looking.look_at_all.Given as goal

abbrev pub invariant-loop-at : goal.invariant-loop-at
invariant-loop-at l = l.at ≤ length l.tokens

abbrev pub decreases-loop-at : goal.decreases-loop-at
decreases-loop-at l = length l.tokens - l.at
