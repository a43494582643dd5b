-- So many nets are there, and their numbers.
use Rattle.std.proofs.Common.{◌≡◌, ◌+◌, ◌≤◌, ◌++◌, length, map, drop}
use Rattle.std.specs.List.{range_with_len}
use Rattle.elab_bits.specs.Seen.{bit_at}
use Rattle.elab_nets.specs.Own.{net_at}
use Rattle.elab_nets.proofs.ends.add_inner_nets.Given as goal

abbrev pub invariant-loop-place : goal.invariant-loop-place
invariant-loop-place l = record {
  few : length l.nets.items ≤ 4194304;
  count : length l.nets.items ≡ length l.initial.nets.items + l.place-index;
  nets : l.nets.items ++ map (λ i. net_at l.scope (bit_at l.table i)) (drop l.place-index l.places) ≡ l.initial.nets.items ++ map (λ i. net_at l.scope (bit_at l.table i)) l.places;
  ends : l.ends.items ≡ l.initial.ends.items ++ range_with_len (length l.initial.nets.items) l.place-index;
}
