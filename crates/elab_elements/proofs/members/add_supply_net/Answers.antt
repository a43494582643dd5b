-- The bits that were added are those of the definition.
use Rattle.std.proofs.Common.{◌+◌, subst, flat_map, length}
use Rattle.std.proofs.lemmas.Result.{on_ok_weaker}
use Rattle.elab_model.specs.Bits.{constant}
use Rattle.elab_model.specs.Elements.{pass_to}
use Rattle.elab_numbering.specs.Refusals.{RefusesCount}
use Rattle.elab_elements.specs.Adding.{Adds}
use Rattle.elab_elements.proofs.MemberBits.{seen-bits}
use Rattle.elab_elements.proofs.Putting.{if_err-weaker}
use Rattle.elab_elements.proofs.members.add_supply_net.Goals as goal

pub returns-clause-passes : goal.returns-clause-passes
returns-clause-passes c =
    on_ok_weaker c.add_supply.result
    (λ added. λ delays udps all source s here drives. subst (λ bs. Adds delays udps all c.args.made.now c.add_supply.new.made
    (flat_map (λ b. pass_to source s c.args.name.place (b, constant c.args.name.place c.args.value)) bs))
    (seen-bits c.args.table.now c.clear.new.self.items c.add_variable.new.bits.items c.deref.result.now _ c.clear.ensures.items c.in_ok-add_variable.ensures.bits c.deref.ensures.value)
    (added delays udps all source s here drives))
    c.add_supply.ensures.passes

pub returns-clause-refused : goal.returns-clause-refused
returns-clause-refused c =
    if_err-weaker c.add_supply.result _ _
    (λ r refused. λ all source s here drives. subst (λ bs. RefusesCount (length c.args.made.now.elements.items + length
    (flat_map (λ b. pass_to source s c.args.name.place (b, constant c.args.name.place c.args.value)) bs)) r)
    (seen-bits c.args.table.now c.clear.new.self.items c.add_variable.new.bits.items c.deref.result.now _ c.clear.ensures.items c.in_ok-add_variable.ensures.bits c.deref.ensures.value)
    (refused all source s here drives))
    c.add_supply.ensures.refused
