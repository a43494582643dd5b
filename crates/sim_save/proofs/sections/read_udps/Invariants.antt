use Rattle.std.proofs.Common.{◌≤◌, ◌-◌, length}
use Rattle.sim_save.specs.Sections.{AreUdps}
use Rattle.sim_save.proofs.sections.read_udps.Given as goal

abbrev pub invariant-loop-left : goal.invariant-loop-left
invariant-loop-left l = record { so_far : AreUdps l.udps.items l.text l.left; within : length l.udps.items ≤ l.count }

abbrev pub decreases-loop-left : goal.decreases-loop-left
decreases-loop-left l = l.count - length l.udps.items
