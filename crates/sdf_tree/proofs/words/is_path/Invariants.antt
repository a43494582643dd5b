-- Whether the names that are left are names is whether all are.
use Rattle.std.proofs.Common.{◌≡◌, length}
use Rattle.sdf_lex.specs.Names.{path_parts}
use Rattle.sdf_tree.specs.PathWords.{are_names, parts_left}
use Rattle.sdf_tree.proofs.words.is_path.Given as goal

abbrev pub invariant-more : goal.invariant-more
invariant-more l = are_names l.brackets (parts_left l.divider l.left) ≡ are_names l.brackets (path_parts l.divider l.bytes)

abbrev pub decreases-more : goal.decreases-more
decreases-more l = length (parts_left l.divider l.left)
