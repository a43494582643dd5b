-- What is there, followed by what is left, is the whole.
use Rattle.std.proofs.Common.{◌≡◌, ◌++◌, map, filter_map, drop}
use Rattle.vl_tree.specs.Seen.{view_name, view_instance}
use Rattle.elab_names.proofs.instances.add_instances.Given as goal

abbrev pub invariant-loop-instance : goal.invariant-loop-instance
invariant-loop-instance l =
    map view_name l.names.items ++ filter_map (λ i. i.name) (map view_instance (drop l.instance-index l.instances))
    ≡ map view_name l.initial.names.items ++ filter_map (λ i. i.name) (map view_instance l.instances)
