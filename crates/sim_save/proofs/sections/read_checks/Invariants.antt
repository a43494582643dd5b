use Rattle.std.proofs.Common.{◌≤◌, ◌-◌, length}
use Rattle.sim_save.specs.Sections.{AreChecks}
use Rattle.sim_save.proofs.sections.read_checks.Given as goal

abbrev pub invariant-loop-left : goal.invariant-loop-left
invariant-loop-left l = record { so_far : AreChecks l.latest.items l.text l.left; within : length l.latest.items ≤ l.count }

abbrev pub decreases-loop-left : goal.decreases-loop-left
decreases-loop-left l = l.count - length l.latest.items
