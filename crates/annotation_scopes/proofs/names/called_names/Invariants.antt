-- The names so far, and those that are left, are all.
use Rattle.std.proofs.Common.{◌≡◌, ◌++◌, map, length}
use Rattle.sdf_lex.specs.Names.{called, path_parts}
use Rattle.sdf_tree.specs.PathWords.{parts_left}
use Rattle.sdf_tree.specs.Words.{divider_byte}
use Rattle.annotation_scopes.specs.Walks.{names_seen}
use Rattle.annotation_scopes.proofs.names.called_names.Given as goal

abbrev pub invariant-more : goal.invariant-more
invariant-more l = names_seen l.names.items ++ map called (parts_left (divider_byte l.divider) l.left) ≡ map called (path_parts (divider_byte l.divider) l.path)

abbrev pub decreases-more : goal.decreases-more
decreases-more l = length (parts_left (divider_byte l.divider) l.left)
