-- What is there, followed by what is left, is the whole.
use Rattle.std.proofs.Common.{◌≡◌, ◌++◌, map, drop}
use Rattle.vl_tree.specs.Seen.{view_name}
use Rattle.elab_model.specs.Members.{supply}
use Rattle.elab_variables.specs.Seen.{view_member}
use Rattle.elab_variables.proofs.member_list.add_supplies.Given as goal

abbrev pub invariant-loop-name : goal.invariant-loop-name
invariant-loop-name l =
    map view_member l.list.items ++ map (λ n. supply n l.value) (map view_name (drop l.name-index l.names))
    ≡ map view_member l.initial.list.items ++ map (λ n. supply n l.value) (map view_name l.names)
