-- The nets of the copies so far are there.
use Rattle.std.proofs.Common.{◌≡◌, ◌≤◌, ◌++◌, flat_map, length, take}
use Rattle.elab_nets.specs.Copies.{copy_nets}
use Rattle.elab_nets.proofs.copies.add_copies.Given as goal

abbrev pub invariant-loop-placed : goal.invariant-loop-placed
invariant-loop-placed l = record {
  few : length l.nets.items ≤ 4194304;
  nets : l.nets.items ≡ l.initial.nets.items ++ flat_map (λ c. copy_nets l.scope l.table c.copy) (take l.placed-index l.copies);
}
