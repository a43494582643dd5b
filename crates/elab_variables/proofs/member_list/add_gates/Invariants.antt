-- What is there, followed by what is left, is the whole.
use Rattle.std.proofs.Common.{◌≡◌, ◌++◌, map, drop}
use Rattle.vl_tree.specs.Seen.{view_gate_instance, view_delay}
use Rattle.std.specs.Option.{option_map}
use Rattle.elab_model.specs.Members.{gate}
use Rattle.elab_variables.specs.Seen.{view_member}
use Rattle.elab_variables.proofs.member_list.add_gates.Given as goal

abbrev pub invariant-loop-instance : goal.invariant-loop-instance
invariant-loop-instance l =
    map view_member l.list.items ++ map (gate l.kind (option_map view_delay l.delay)) (map view_gate_instance (drop l.instance-index l.instances))
    ≡ map view_member l.initial.list.items ++ map (gate l.kind (option_map view_delay l.delay)) (map view_gate_instance l.instances)
