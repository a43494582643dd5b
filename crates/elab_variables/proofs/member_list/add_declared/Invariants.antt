-- What is there, followed by what is left, is the whole.
use Rattle.std.proofs.Common.{◌≡◌, ◌++◌, map, filter_map, drop}
use Rattle.vl_tree.specs.Seen.{view_net_name}
use Rattle.elab_model.specs.Members.{assignment_to}
use Rattle.elab_variables.specs.Seen.{view_member}
use Rattle.elab_variables.proofs.member_list.add_declared.Given as goal

abbrev pub invariant-loop-net : goal.invariant-loop-net
invariant-loop-net l =
    map view_member l.list.items ++ filter_map (λ n. assignment_to n.name n.value) (map view_net_name (drop l.net-index l.nets))
    ≡ map view_member l.initial.list.items ++ filter_map (λ n. assignment_to n.name n.value) (map view_net_name l.nets)
