-- What the parts so far say, with those that are left, is what all say.
use Rattle.std.proofs.Common.{◌≡◌, map}
use Rattle.std.specs.Vec.Iter.{into_iter_items}
use Rattle.sdf_tree.specs.Meant as meant
use Rattle.sdf_tree.specs.Seen.{view_file, view_file_part}
use Rattle.sdf_meaning.specs.MeantSeen.{view_sdf}
use Rattle.sdf_meaning.proofs.MeantFiles.{with_parts}
use Rattle.sdf_meaning.proofs.meant_files.sdf_of.Given as goal

abbrev pub invariant-loop-part : goal.invariant-loop-part
invariant-loop-part l = with_parts (view_sdf l.sdf) (map view_file_part (into_iter_items l.part-iterator)) ≡ meant.sdf_of (view_file l.fn.file)
