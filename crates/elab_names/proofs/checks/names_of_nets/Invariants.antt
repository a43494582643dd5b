-- What is there, followed by what is left, is the whole.
use Rattle.std.proofs.Common.{◌≡◌, ◌++◌, map, drop}
use Rattle.vl_tree.specs.Seen.{view_name}
use Rattle.elab_declared.specs.Words.{view_net}
use Rattle.elab_names.proofs.checks.names_of_nets.Given as goal

abbrev pub invariant-loop-net : goal.invariant-loop-net
invariant-loop-net l = map view_name l.names.items ++ map (λ d. d.name) (map view_net (drop l.net-index l.nets)) ≡ map (λ d. d.name) (map view_net l.nets)
