-- Parts in parentheses are read exactly.
use Rattle.std.proofs.Common.{Bool}
use Rattle.grammar.specs.Exact.{Exact}
use Rattle.sdf_tree.specs.declared.words.Divider.{Divider}
use Rattle.sdf_tree.specs.Checks.{check}
use Rattle.sdf_tree.specs.Entries.{entry, group}
use Rattle.sdf_tree.specs.Files.{part}
use Rattle.sdf_tree.specs.Kinds.{kind_of}
use Rattle.sdf_tree.proofs.ChecksExact.{check-exact}
use Rattle.sdf_tree.proofs.EntriesExact.{entry-exact, group-exact}
use Rattle.sdf_tree.proofs.FilesExact.{part-exact}

pub entry_part : (limited : Bool) (divider : Divider) → Exact kind_of (entry limited divider)
entry_part = entry-exact

pub group_part : (limited : Bool) (divider : Divider) → Exact kind_of (group limited divider)
group_part = group-exact

pub check_part : (divider : Divider) → Exact kind_of (check divider)
check_part = check-exact

pub cell_part : (limited : Bool) (divider : Divider) → Exact kind_of (part limited divider)
cell_part = part-exact
