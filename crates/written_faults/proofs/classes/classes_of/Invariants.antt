-- The conditions so far have numbers.
use Rattle.std.proofs.Common.{take}
use Rattle.written_faults.specs.Classing.{AreNumbered, class_codes}
use Rattle.written_faults.proofs.classes.classes_of.Given as goal

abbrev pub invariant-loop-condition : goal.invariant-loop-condition
invariant-loop-condition l = AreNumbered (class_codes (take l.condition-index l.conditions)) l.seen.keys l.classes.items
