-- What is put so far, and to the nets that are left.
use Rattle.std.proofs.Common.{◌≡◌, length, map}
use Rattle.std.specs.Prelude.{flat_map}
use Rattle.vcd_stim.specs.Steps.{nets_faults, nets_given, put_all}
use Rattle.vcd_stim.proofs.bits.put_to_all.Given as goal

abbrev pub invariant-loop-rest : goal.invariant-loop-rest
invariant-loop-rest l = record {
  sets_are : put_all l.initial.sets.entries (flat_map (nets_given l.bits) (map (λ n. n.now) l.list)) ≡ put_all l.sets.entries (flat_map (nets_given l.bits) (map (λ n. n.now) l.rest));
  faults_are : flat_map (nets_faults l.byte l.bits) (map (λ n. n.now) l.list) ≡ flat_map (nets_faults l.byte l.bits) (map (λ n. n.now) l.rest);
}

abbrev pub decreases-loop-rest : goal.decreases-loop-rest
decreases-loop-rest l = length l.rest
