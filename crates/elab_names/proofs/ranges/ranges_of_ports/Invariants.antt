-- What is there, followed by what is left, is the whole.
use Rattle.std.proofs.Common.{◌≡◌, ◌++◌, map, drop}
use Rattle.vl_tree.specs.Seen.{view_port_declaration}
use Rattle.elab_names.specs.GivenRanges.{port_given, view_range}
use Rattle.elab_names.proofs.ranges.ranges_of_ports.Given as goal

abbrev pub invariant-loop-port : goal.invariant-loop-port
invariant-loop-port l = map view_range l.ranges.items ++ map port_given (map view_port_declaration (drop l.port-index l.ports)) ≡ map port_given (map view_port_declaration l.ports)
