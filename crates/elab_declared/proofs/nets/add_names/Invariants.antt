-- What is there, followed by what is left, is the whole.
use Rattle.std.proofs.Common.{◌≡◌, ◌++◌, map, drop}
use Rattle.vl_tree.specs.Seen.{view_name}
use Rattle.elab_model.specs.Ports.{net_as}
use Rattle.elab_declared.specs.Words.{view_net}
use Rattle.elab_declared.proofs.nets.add_names.Given as goal

abbrev pub invariant-loop-name : goal.invariant-loop-name
invariant-loop-name l = map view_net l.nets.items ++ map (net_as l.reg l.range) (map view_name (drop l.name-index l.names)) ≡ map view_net l.initial.nets.items ++ map (net_as l.reg l.range) (map view_name l.names)
