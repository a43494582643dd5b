-- What is put so far, and to what is left.
use Rattle.std.proofs.Common.{◌≡◌, length, map}
use Rattle.std.specs.Prelude.{zip}
use Rattle.vcd_model.specs.Values.{value_of}
use Rattle.vcd_stim.specs.Steps.{put_all}
use Rattle.vcd_stim.proofs.bits.put_bits.Given as goal

abbrev pub invariant-loop-nets : goal.invariant-loop-nets
invariant-loop-nets l = put_all l.initial.sets.entries (zip l.initial.nets (map value_of l.initial.bits)) ≡ put_all l.sets.entries (zip l.nets (map value_of l.bits))

abbrev pub decreases-loop-nets : goal.decreases-loop-nets
decreases-loop-nets l = length l.nets
