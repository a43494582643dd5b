-- The names of the ports so far.
use Rattle.specify_values.specs.PortNames.{AreNames, AreTrees}
use Rattle.specify_values.proofs.Named.{is_port_among}
use Rattle.specify_values.proofs.port_names.names_of_ports.Given as goal

abbrev pub invariant-loop-place : goal.invariant-loop-place
invariant-loop-place l = AreTrees l.names × AreNames (is_port_among l.table l.place) l.names
