-- The entries so far, with those of the checks that are left, are all.
use Rattle.std.proofs.Common.{◌≡◌, ◌++◌, map}
use Rattle.std.specs.Vec.Iter.{into_iter_items}
use Rattle.sdf_tree.specs.Meant as meant
use Rattle.sdf_tree.specs.Seen.{view_check}
use Rattle.sdf_meaning.specs.MeantSeen.{view_meant}
use Rattle.sdf_meaning.proofs.meant_entries.add_checks.Given as goal

abbrev pub invariant-loop-check : goal.invariant-loop-check
invariant-loop-check l =
    map view_meant l.entries.items ++ map meant.entry_of_check (map view_check (into_iter_items l.check-iterator))
    ≡ map view_meant l.fn.entries.items ++ map meant.entry_of_check (map view_check l.fn.checks.items)
