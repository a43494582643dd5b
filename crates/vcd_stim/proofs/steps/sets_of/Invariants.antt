-- The sets so far, and what is left.
use Rattle.std.proofs.Common.{◌≡◌, ◌++◌, length, map}
use Rattle.sg_stimulus.specs.Seen.{set_seen}
use Rattle.vcd_stim.proofs.steps.sets_of.Given as goal

abbrev pub invariant-loop-net : goal.invariant-loop-net
invariant-loop-net l = map (λ s. set_seen s) l.sets.items ++ l.open_sets.entries ≡ l.initial.open_sets.entries

abbrev pub decreases-loop-net : goal.decreases-loop-net
decreases-loop-net l = length l.open_sets.entries
