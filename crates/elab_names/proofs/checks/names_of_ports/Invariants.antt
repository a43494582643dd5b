-- What is there, followed by what is left, is the whole.
use Rattle.std.proofs.Common.{◌≡◌, ◌++◌, map, drop}
use Rattle.vl_tree.specs.Seen.{view_name}
use Rattle.vl_tree.specs.Seen.{view_port_declaration}
use Rattle.elab_names.proofs.checks.names_of_ports.Given as goal

abbrev pub invariant-loop-port : goal.invariant-loop-port
invariant-loop-port l = map view_name l.names.items ++ map (λ d. d.name) (map view_port_declaration (drop l.port-index l.ports)) ≡ map (λ d. d.name) (map view_port_declaration l.ports)
