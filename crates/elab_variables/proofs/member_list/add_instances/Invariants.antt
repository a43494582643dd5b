-- What is there, followed by what is left, is the whole.
use Rattle.std.proofs.Common.{◌≡◌, ◌++◌, map, drop}
use Rattle.vl_tree.specs.Seen.{view_instance, view_name, view_delay}
use Rattle.std.specs.Option.{option_map}
use Rattle.elab_model.specs.Members.{instance}
use Rattle.elab_variables.specs.Seen.{view_member}
use Rattle.elab_variables.proofs.member_list.add_instances.Given as goal

abbrev pub invariant-loop-instance : goal.invariant-loop-instance
invariant-loop-instance l =
    map view_member l.list.items ++ map (instance (view_name l.definition) (option_map view_delay l.delay)) (map view_instance (drop l.instance-index l.instances))
    ≡ map view_member l.initial.list.items ++ map (instance (view_name l.definition) (option_map view_delay l.delay)) (map view_instance l.instances)
