-- The children among the members so far.
use Rattle.elab_hierarchy.proofs.Gathered.{AreGathered}
use Rattle.elab_hierarchy.proofs.children.children_among.Given as goal

abbrev pub invariant-loop-number : goal.invariant-loop-number
invariant-loop-number l = AreGathered l.definitions l.children.items l.members l.number
