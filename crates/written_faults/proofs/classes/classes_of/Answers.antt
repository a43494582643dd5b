-- All conditions have numbers.
use Rattle.std.proofs.Common.{subst}
use Rattle.std.proofs.lemmas.List.{take_all}
use Rattle.written_faults.specs.Classing.{AreNumbered, class_codes}
use Rattle.written_faults.proofs.ClassLaws.{classes_are}
use Rattle.written_faults.proofs.classes.classes_of.Goals as goal

pub returns : goal.returns
returns c =
    classes_are c.args.conditions.now c.loop-condition.seen.keys c.loop-condition.classes.items
    (subst (λ cs. AreNumbered (class_codes cs) c.loop-condition.seen.keys c.loop-condition.classes.items) (take_all c.loop-condition.condition-index c.args.conditions.now c.loop-condition-test.false) c.loop-condition.invariant)
