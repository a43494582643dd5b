-- The bits so far, and those of what is left; and no fault so far.
use Rattle.std.proofs.Common.{◌≡◌, ◌++◌, length, map}
use Rattle.std.specs.Prelude.{flat_map}
use Rattle.sg_stimulus.specs.Seen.{set_seen as bit_seen}
use Rattle.stim_read.specs.Inputs.{bits_set}
use Rattle.stim_read.specs.Faults.{set_faults}
use Rattle.stim_read.specs.Seen.{set_seen}
use Rattle.stim_read.proofs.bits.all_bits.Given as goal

abbrev pub invariant-loop-rest : goal.invariant-loop-rest
invariant-loop-rest l = record {
  bits_are : flat_map (bits_set l.inputs.circuit.now) (map (λ s. set_seen s) l.sets) ≡ map (λ c. bit_seen c) l.bits.items ++ flat_map (bits_set l.inputs.circuit.now) (map (λ s. set_seen s) l.rest);
  faults_are : flat_map (set_faults l.inputs.circuit.now l.byte) (map (λ s. set_seen s) l.sets) ≡ flat_map (set_faults l.inputs.circuit.now l.byte) (map (λ s. set_seen s) l.rest);
}

abbrev pub decreases-loop-rest : goal.decreases-loop-rest
decreases-loop-rest l = length l.rest
