-- What is there, followed by what is left, is the whole.
use Rattle.std.proofs.Common.{◌≡◌, ◌++◌, drop, map}
use Rattle.elab_scopes.specs.Driven.{same_place}
use Rattle.elab_scopes.proofs.inputs.add_bits.Given as goal

abbrev pub invariant-loop-bit : goal.invariant-loop-bit
invariant-loop-bit l = record {
  nets : l.made.nets.items ++ drop l.bit-index l.bits ≡ l.initial.made.nets.items ++ l.bits;
  places : l.made.places.items ++ map (same_place l.place) (drop l.bit-index l.bits) ≡ l.initial.made.places.items ++ map (same_place l.place) l.bits;
}
