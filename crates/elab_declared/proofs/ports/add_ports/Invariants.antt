-- What is there, followed by what is left, is the whole.
use Rattle.std.proofs.Common.{◌≡◌, ◌∷◌, ◌++◌, map, drop}
use Rattle.vl_tree.specs.Seen.{view_port_declaration, view_head_port}
use Rattle.elab_model.specs.Ports.{ports_after}
use Rattle.elab_declared.proofs.ports.add_ports.Given as goal

abbrev pub invariant-loop-port : goal.invariant-loop-port
invariant-loop-port l = map view_port_declaration l.ports.items ++ ports_after (view_port_declaration l.before) (map view_head_port (drop l.port-index l.rest)) ≡ map view_port_declaration l.fn.ports.items ++ view_port_declaration l.fn.first ∷ ports_after (view_port_declaration l.fn.first) (map view_head_port l.rest)
