-- What is there, followed by what is left, is the whole.
use Rattle.std.proofs.Common.{◌≡◌, ◌++◌, map, drop}
use Rattle.vl_tree.specs.Seen.{view_name, view_port_declaration}
use Rattle.elab_model.specs.Ports.{port_as}
use Rattle.elab_declared.proofs.ports.add_item.Given as goal

abbrev pub invariant-loop-name : goal.invariant-loop-name
invariant-loop-name l = map view_port_declaration l.ports.items ++ map (port_as l.place l.direction l.net l.range) (map view_name (drop l.name-index l.name-items)) ≡ map view_port_declaration l.initial.ports.items ++ map (port_as l.place l.direction l.net l.range) (map view_name l.name-items)
