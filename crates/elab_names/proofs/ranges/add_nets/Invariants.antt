-- What is there, followed by what is left, is the whole.
use Rattle.std.proofs.Common.{◌≡◌, ◌++◌, map, drop}
use Rattle.vl_tree.specs.Seen.{view_net_name}
use Rattle.elab_names.specs.GivenRanges.{with_range, view_range}
use Rattle.elab_names.proofs.ranges.add_nets.Given as goal

abbrev pub invariant-loop-net : goal.invariant-loop-net
invariant-loop-net l = map view_range l.ranges.items ++ map (λ n. with_range l.range n.name) (map view_net_name (drop l.net-index l.names)) ≡ map view_range l.initial.ranges.items ++ map (λ n. with_range l.range n.name) (map view_net_name l.names)
