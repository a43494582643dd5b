-- The names so far were seen once.
use Rattle.elab_hierarchy.proofs.Once.{AreSeen}
use Rattle.elab_hierarchy.proofs.definitions.names_of.Given as goal

abbrev pub invariant-loop-part : goal.invariant-loop-part
invariant-loop-part l = AreSeen l.names.keys l.parts l.part-index
