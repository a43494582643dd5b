-- The members before this one were gone through.
use Rattle.std.proofs.Common.{◌≡◌, length, map}
use Rattle.vl_tree.specs.Tree.{Module}
use Rattle.elab_laws.specs.Handing.{all_bits}
use Rattle.elab_model.specs.Members as model
use Rattle.elab_model.specs.Names.{variables}
use Rattle.elab_variables.specs.Seen.{view_member}
use Rattle.elab_ends.specs.Seen.{AreInRow}
use Rattle.elab_ends.specs.Words.{AreFirst}
use Rattle.elab_ends.proofs.ends.path_ends.Given as goal

abbrev pub invariant-loop-member : goal.invariant-loop-member
invariant-loop-member l =
    (length l.seen.items ≡ length (all_bits l.table)) × AreInRow l.table l.bits.items
    × ((m : Module) → l.table ≡ variables m → map view_member l.members ≡ model.members m → AreFirst m l.member-index l.seen.items l.bits.items l.starts.items)
