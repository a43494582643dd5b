use Rattle.std.proofs.Common.{◌≤◌, ◌-◌, length}
use Rattle.sim_save.specs.Sections.{AreNets}
use Rattle.sim_save.proofs.sections.read_nets.Given as goal

abbrev pub invariant-loop-left : goal.invariant-loop-left
invariant-loop-left l = record { so_far : AreNets l.nets.items l.changes.items l.text l.left; within : length l.nets.items ≤ l.count }

abbrev pub decreases-loop-left : goal.decreases-loop-left
decreases-loop-left l = l.count - length l.nets.items
