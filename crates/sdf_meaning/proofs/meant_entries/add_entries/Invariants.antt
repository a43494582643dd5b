-- The entries so far, with those that are left, are all.
use Rattle.std.proofs.Common.{◌≡◌, ◌++◌, map}
use Rattle.std.specs.Vec.Iter.{into_iter_items}
use Rattle.sdf_tree.specs.Meant as meant
use Rattle.sdf_tree.specs.Seen.{view_entry}
use Rattle.sdf_meaning.specs.MeantSeen.{view_meant}
use Rattle.sdf_meaning.proofs.meant_entries.add_entries.Given as goal

abbrev pub invariant-loop-entry : goal.invariant-loop-entry
invariant-loop-entry l =
    map view_meant l.entries.items ++ map (meant.entry_of l.increment) (map view_entry (into_iter_items l.entry-iterator))
    ≡ map view_meant l.fn.entries.items ++ map (meant.entry_of l.increment) (map view_entry l.fn.written.items)
