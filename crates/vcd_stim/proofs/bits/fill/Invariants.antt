-- What is put so far, and to what is left.
use Rattle.std.proofs.Common.{◌≡◌, length}
use Rattle.std.specs.Prelude.{zip, replicate}
use Rattle.vcd_stim.specs.Steps.{put_all}
use Rattle.vcd_stim.proofs.bits.fill.Given as goal

abbrev pub invariant-loop-nets : goal.invariant-loop-nets
invariant-loop-nets l = put_all l.initial.sets.entries (zip l.initial.nets (replicate (length l.initial.nets) l.value)) ≡ put_all l.sets.entries (zip l.nets (replicate (length l.nets) l.value))

abbrev pub decreases-loop-nets : goal.decreases-loop-nets
decreases-loop-nets l = length l.nets
