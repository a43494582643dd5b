-- What is there, followed by what is left, is the whole.
use Rattle.std.proofs.Common.{◌≡◌, ◌++◌, map, flat_map, drop}
use Rattle.vl_tree.specs.Seen.{view_item}
use Rattle.elab_model.specs.Ports.{nets_of_item}
use Rattle.elab_declared.specs.Words.{view_net}
use Rattle.elab_declared.proofs.nets.net_declarations.Given as goal

abbrev pub invariant-loop-item : goal.invariant-loop-item
invariant-loop-item l = map view_net l.nets.items ++ flat_map nets_of_item (map view_item (drop l.item-index l.definition.items.items)) ≡ flat_map nets_of_item (map view_item l.definition.items.items)
