-- What is there, followed by what is left, is the whole.
use Rattle.std.proofs.Common.{◌≡◌, ◌++◌, map, drop}
use Rattle.vl_tree.specs.Seen.{view_join}
use Rattle.elab_model.specs.Members.{assignment}
use Rattle.elab_variables.specs.Seen.{view_member}
use Rattle.elab_variables.proofs.member_list.add_assignments.Given as goal

abbrev pub invariant-loop-join : goal.invariant-loop-join
invariant-loop-join l =
    map view_member l.list.items ++ map assignment (map view_join (drop l.join-index l.joins))
    ≡ map view_member l.initial.list.items ++ map assignment (map view_join l.joins)
