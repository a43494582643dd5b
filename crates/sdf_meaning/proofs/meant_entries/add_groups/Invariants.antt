-- The entries so far, with those of the groups that are left, are all.
use Rattle.std.proofs.Common.{◌≡◌, ◌++◌, map}
use Rattle.std.specs.List.{flat_map}
use Rattle.std.specs.Vec.Iter.{into_iter_items}
use Rattle.sdf_tree.specs.Meant as meant
use Rattle.sdf_tree.specs.Seen.{view_group}
use Rattle.sdf_meaning.specs.MeantSeen.{view_meant}
use Rattle.sdf_meaning.proofs.meant_entries.add_groups.Given as goal

abbrev pub invariant-loop-group : goal.invariant-loop-group
invariant-loop-group l =
    map view_meant l.entries.items ++ flat_map meant.entries_of_group (map view_group (into_iter_items l.group-iterator))
    ≡ map view_meant l.fn.entries.items ++ flat_map meant.entries_of_group (map view_group l.fn.groups.items)
