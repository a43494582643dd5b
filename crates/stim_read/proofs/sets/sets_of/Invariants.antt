-- The sets so far, and those of what is left.
use Rattle.std.proofs.Common.{◌≡◌, length, map}
use Rattle.stim_read.specs.Forms.{sets_in}
use Rattle.stim_read.specs.Seen.{set_seen}
use Rattle.stim_read.proofs.SetLaws.{with_front}
use Rattle.stim_read.proofs.sets.sets_of.Given as goal

abbrev pub invariant-loop-rest : goal.invariant-loop-rest
invariant-loop-rest l = sets_in (map (λ w. w.now) l.words) ≡ with_front (map (λ s. set_seen s) l.sets.items) (sets_in (map (λ w. w.now) l.rest))

abbrev pub decreases-loop-rest : goal.decreases-loop-rest
decreases-loop-rest l = length l.rest
