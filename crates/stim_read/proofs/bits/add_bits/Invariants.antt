-- The bits so far, and those of what is left.
use Rattle.std.proofs.Common.{◌≡◌, ◌++◌, length, map}
use Rattle.std.specs.Prelude.{zip}
use Rattle.sg_stimulus.specs.Seen.{set_seen as bit_seen}
use Rattle.stim_read.specs.Inputs.{value_of}
use Rattle.stim_read.proofs.bits.add_bits.Given as goal

abbrev pub invariant-loop-nets : goal.invariant-loop-nets
invariant-loop-nets l = map (λ c. bit_seen c) l.initial.bits.items ++ zip l.initial.nets (map value_of l.initial.digits) ≡ map (λ c. bit_seen c) l.bits.items ++ zip l.nets (map value_of l.digits)

abbrev pub decreases-loop-nets : goal.decreases-loop-nets
decreases-loop-nets l = length l.nets
