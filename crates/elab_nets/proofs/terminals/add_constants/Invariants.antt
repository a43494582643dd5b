-- What is there, followed by what is left, is the whole.
use Rattle.std.proofs.Common.{◌≤◌, length}
use Rattle.elab_bits.specs.Seen.{bit_at}
use Rattle.elab_nets.specs.Own.{net_at}
use Rattle.elab_nets.proofs.ConstantNets.{AreThere}
use Rattle.elab_nets.proofs.terminals.add_constants.Given as goal

abbrev pub invariant-loop-bit : goal.invariant-loop-bit
invariant-loop-bit l = record {
  few : length l.nets.items ≤ 4194304;
  there : AreThere (net_at l.scope (bit_at l.table l.place)) l.bits l.initial.nets.items l.bit-index l.nets.items;
}
