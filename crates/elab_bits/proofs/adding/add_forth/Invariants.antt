-- What is there, followed by what is left, is the whole.
use Rattle.std.proofs.Common.{◌≡◌, ◌++◌, ◌+◌, ◌-◌, ◌≤◌, All, List, length, map}
use Rattle.std.specs.List.{range_with_len}
use Rattle.elab_model.specs.Names.{Variable}
use Rattle.elab_variables.specs.Handing.{all_bits}
use Rattle.elab_bits.specs.Seen.{IsInRow}
use Rattle.elab_bits.specs.Words.{net_from}
use Rattle.elab_bits.proofs.adding.add_forth.Given as goal

abbrev pub invariant-loop-position : goal.invariant-loop-position
invariant-loop-position l = record {
  bits : l.bits.items ++ map (net_from l.start) (range_with_len l.position (l.end - l.position)) ≡ l.initial.bits.items ++ map (net_from l.start) (range_with_len l.first (l.end - l.first));
  row : (vs : List Variable) → l.start + l.end ≤ length (all_bits vs) → All (IsInRow vs) l.initial.bits.items → All (IsInRow vs) l.bits.items;
}
