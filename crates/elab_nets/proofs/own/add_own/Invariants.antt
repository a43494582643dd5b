-- What is there, followed by what is left, is the whole.
use Rattle.std.proofs.Common.{◌≤◌, length}
use Rattle.elab_laws.specs.Handing.{all_bits}
use Rattle.elab_nets.proofs.OwnBits.{AreAdded}
use Rattle.elab_nets.proofs.own.add_own.Given as goal

abbrev pub invariant-loop-place : goal.invariant-loop-place
invariant-loop-place l = record {
  few : length l.nets.items ≤ 4194304;
  added : AreAdded l.scope l.leaf (all_bits l.table) l.outside l.initial.inner.items l.initial.nets.items l.place l.inner.items l.nets.items;
}
