-- The members before this one were gone through.
use Rattle.std.proofs.Common.{◌≡◌, map}
use Rattle.vl_tree.specs.Tree.{Module}
use Rattle.elab_lates.specs.Words.{AreAsked}
use Rattle.elab_model.specs.Members as model
use Rattle.elab_model.specs.Names.{variables}
use Rattle.elab_variables.specs.Seen.{view_member}
use Rattle.elab_lates.proofs.making.module_copies.Given as goal

abbrev pub invariant-loop-member : goal.invariant-loop-member
invariant-loop-member l = (m : Module) → l.table ≡ variables m → map view_member l.members ≡ model.members m → AreAsked m l.member-index l.asked l.starts.items
