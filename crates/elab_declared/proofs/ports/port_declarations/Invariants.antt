-- What is there, followed by what is left, is the whole.
use Rattle.std.proofs.Common.{◌≡◌, ◌++◌, map, flat_map, drop}
use Rattle.vl_tree.specs.Seen.{view_item, view_module, view_port_declaration}
use Rattle.elab_model.specs.Ports.{ports_of_item}
use Rattle.elab_model.specs.Ports as def
use Rattle.elab_declared.proofs.ports.port_declarations.Given as goal

abbrev pub invariant-loop-item : goal.invariant-loop-item
invariant-loop-item l = map view_port_declaration l.ports.items ++ flat_map ports_of_item (map view_item (drop l.item-index l.definition.items.items)) ≡ def.port_declarations (view_module l.definition)
