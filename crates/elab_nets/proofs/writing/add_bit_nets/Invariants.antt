-- What is there, followed by what is left, is the whole; and each place has what is meant there, or is yet to be written.
use Rattle.std.proofs.Common.{◌≡◌, ℕ, ◌+◌, ◌≤◌, ◌++◌, Option, length, map, drop}
use Rattle.elab_bits.specs.Seen.{bit_at}
use Rattle.elab_nets.specs.Own.{net_at}
use Rattle.elab_nets.specs.Written.{AreMeant, AreRightOrAmong}
use Rattle.elab_nets.proofs.writing.add_bit_nets.Given as goal

abbrev pub invariant-loop-place : goal.invariant-loop-place
invariant-loop-place l = record {
  few : length l.nets.items ≤ 4194304;
  count : length l.nets.items ≡ length l.initial.nets.items + l.place-index;
  nets : l.nets.items ++ map (λ i. net_at l.scope (bit_at l.table i)) (drop l.place-index l.places) ≡ l.initial.nets.items ++ map (λ i. net_at l.scope (bit_at l.table i)) l.places;
  long : length l.row ≡ length l.initial.row;
  row : (meant : ℕ → Option ℕ) → AreMeant meant (length l.initial.nets.items) l.places → AreRightOrAmong meant l.places l.initial.row → AreRightOrAmong meant (drop l.place-index l.places) l.row;
}
