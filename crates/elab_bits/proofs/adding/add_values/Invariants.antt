-- What is there, followed by what is left, is the whole; and constants stand in every row.
use Rattle.std.proofs.Common.{◌≡◌, ◌++◌, All, List, map, drop}
use Rattle.elab_model.specs.Names.{Variable}
use Rattle.elab_bits.specs.declared.bits.Bit.TheVariants as bit
use Rattle.elab_bits.specs.Seen.{IsInRow}
use Rattle.elab_bits.proofs.adding.add_values.Given as goal

abbrev pub invariant-loop-value : goal.invariant-loop-value
invariant-loop-value l = record {
  bits : l.bits.items ++ map (bit.Constant l.place) (drop l.value-index l.values) ≡ l.initial.bits.items ++ map (bit.Constant l.place) l.values;
  row : (vs : List Variable) → All (IsInRow vs) l.initial.bits.items → All (IsInRow vs) l.bits.items;
}
