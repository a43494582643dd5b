-- The definitions so far are in.
use Rattle.elab_hierarchy.proofs.Used.{PartsUse}
use Rattle.elab_hierarchy.proofs.tops.instantiated.Given as goal

abbrev pub invariant-loop-part : goal.invariant-loop-part
invariant-loop-part l = PartsUse l.used.keys l.parts l.part-index
