-- The children of the definitions so far.
use Rattle.elab_hierarchy.proofs.Gathered.{AreAllGathered}
use Rattle.elab_hierarchy.proofs.children.all_children.Given as goal

abbrev pub invariant-loop-part : goal.invariant-loop-part
invariant-loop-part l = AreAllGathered l.definitions l.all.items l.part-items l.part-index
