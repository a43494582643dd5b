-- The elements so far have their paths.
use Rattle.elab_paths.specs.Filling.{filled}
use Rattle.elab_paths.proofs.FilledOne.{IsFilledTo}
use Rattle.elab_paths.proofs.filling.fill_paths.Given as goal

abbrev pub invariant-loop-element : goal.invariant-loop-element
invariant-loop-element l = IsFilledTo l.uses l.next l.element-index (filled l.uses l.initial.elements) l.elements
