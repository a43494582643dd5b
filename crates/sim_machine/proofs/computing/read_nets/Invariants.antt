use Rattle.std.proofs.Common.{◌≡◌, ◌≤◌, take}
use Rattle.std.specs.Vec.{vec_capacity}
use Rattle.sim_machine.specs.Simulated.{values_at}
use Rattle.sim_machine.proofs.computing.read_nets.Given as goal

abbrev pub invariant-loop-net : goal.invariant-loop-net
invariant-loop-net l = record {
  values : l.out.items ≡ values_at (take l.net-index l.nets) l.values;
  capacity : vec_capacity l.fn.out ≤ vec_capacity l.out;
}
