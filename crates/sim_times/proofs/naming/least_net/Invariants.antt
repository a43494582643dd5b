use Rattle.std.proofs.Common.{◌≤◌, ◌<◌, ℕ, take}
use Rattle.fan_round.specs.Lists.{occurrences}
use Rattle.sim_times.proofs.naming.least_net.Given as goal

abbrev pub invariant-loop-net : goal.invariant-loop-net
invariant-loop-net l = record {
  listed : 0 < occurrences l.least l.nets;
  least : (k : ℕ) → 0 < occurrences k (take l.net-index l.nets) → l.least ≤ k;
}
