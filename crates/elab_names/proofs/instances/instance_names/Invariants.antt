-- What is there, followed by what is left, is the whole.
use Rattle.std.proofs.Common.{◌≡◌, ◌++◌, map, drop}
use Rattle.vl_tree.specs.Seen.{view_name}
use Rattle.elab_names.proofs.InstanceNames.{names_from}
use Rattle.elab_names.proofs.instances.instance_names.Given as goal

abbrev pub invariant-loop-item : goal.invariant-loop-item
invariant-loop-item l = map view_name l.names.items ++ names_from (drop l.item-index l.item-items) ≡ names_from l.item-items
