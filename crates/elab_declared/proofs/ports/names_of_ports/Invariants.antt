-- What is there, followed by what is left, is the whole.
use Rattle.std.proofs.Common.{◌≡◌, ◌∷◌, ◌++◌, map, drop}
use Rattle.vl_tree.specs.Seen.{view_name, view_head_port}
use Rattle.elab_model.specs.Ports.{name_of_port}
use Rattle.elab_declared.proofs.ports.names_of_ports.Given as goal

abbrev pub invariant-loop-port : goal.invariant-loop-port
invariant-loop-port l = map view_name l.names.items ++ map name_of_port (map view_head_port (drop l.port-index l.rest)) ≡ view_name l.fn.first ∷ map name_of_port (map view_head_port l.rest)
