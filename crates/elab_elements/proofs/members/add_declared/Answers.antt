-- The bits that were added are those of the definition.
use Rattle.std.proofs.Common.{◌+◌, subst, length}
use Rattle.std.proofs.lemmas.Result.{on_ok_weaker}
use Rattle.elab_model.specs.Elements.{passes}
use Rattle.elab_numbering.specs.Refusals.{RefusesCount}
use Rattle.elab_elements.specs.Adding.{Adds}
use Rattle.elab_elements.proofs.MemberBits.{seen-bits}
use Rattle.elab_elements.proofs.Putting.{if_err-weaker}
use Rattle.elab_elements.proofs.members.add_declared.Goals as goal

pub returns-clause-passes : goal.returns-clause-passes
returns-clause-passes c =
    on_ok_weaker c.add_passes.result
    (λ added. λ delays udps all source s here drives. subst (Adds delays udps all c.args.made.now c.add_passes.new.made)
    (λ i. passes source s c.args.name.place
    ((seen-bits c.args.table.now c.clear.new.self.items c.add_variable.new.bits.items c.deref.result.now _ c.clear.ensures.items c.in_ok-add_variable.ensures.bits c.deref.ensures.value) i)
    ((seen-bits c.args.table.now c.clear-2.new.self.items c.add_bits.new.bits.items c.deref-2.result.now _ c.clear-2.ensures.items c.in_ok-add_bits.ensures.bits c.deref-2.ensures.value) i))
    (added delays udps all source s here drives))
    c.add_passes.ensures.passes

pub returns-clause-refused : goal.returns-clause-refused
returns-clause-refused c =
    if_err-weaker c.add_passes.result _ _
    (λ r refused. λ all source s here drives. subst (λ n. RefusesCount n r)
    (λ i. length c.args.made.now.elements.items + length (passes source s c.args.name.place
    ((seen-bits c.args.table.now c.clear.new.self.items c.add_variable.new.bits.items c.deref.result.now _ c.clear.ensures.items c.in_ok-add_variable.ensures.bits c.deref.ensures.value) i)
    ((seen-bits c.args.table.now c.clear-2.new.self.items c.add_bits.new.bits.items c.deref-2.result.now _ c.clear-2.ensures.items c.in_ok-add_bits.ensures.bits c.deref-2.ensures.value) i)))
    (refused all source s here drives))
    c.add_passes.ensures.refused
