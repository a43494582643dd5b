-- What is there, followed by what is left, is the whole.
use Rattle.std.proofs.Common.{◌≡◌, ◌++◌, map, drop, false}
use Rattle.vl_tree.specs.Seen.{view_net_name}
use Rattle.elab_model.specs.Ports.{net_as}
use Rattle.elab_declared.specs.Words.{view_net}
use Rattle.elab_declared.proofs.nets.add_nets.Given as goal

abbrev pub invariant-loop-net : goal.invariant-loop-net
invariant-loop-net l = map view_net l.nets.items ++ map (λ n. net_as false l.range n.name) (map view_net_name (drop l.net-index l.names)) ≡ map view_net l.initial.nets.items ++ map (λ n. net_as false l.range n.name) (map view_net_name l.names)
