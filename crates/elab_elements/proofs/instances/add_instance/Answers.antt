-- The Legs of an instance, then the elements of its members.
use Rattle.std.proofs.Common.{flat_map}
use Rattle.std.specs.List.{enumerate_from}
use Rattle.std.proofs.lemmas.Result.{err_from_is_err_and, on_ok_weaker}
use Rattle.elab_model.specs.Delays.{tick_of}
use Rattle.elab_model.specs.Elements.{legs, member_elements}
use Rattle.elab_model.specs.Members.{members}
use Rattle.elab_model.specs.Nets.{nets}
use Rattle.elab_elements.proofs.MembersSoFar.{adds-both, front-refused, back-refused}
use Rattle.elab_elements.proofs.Putting.{exit-by, if_err-weaker}
use Rattle.elab_elements.proofs.instances.add_instance.Goals as goal

pub returns-in_err-add_own_legs-clause-refused : goal.returns-in_err-add_own_legs-clause-refused
returns-in_err-add_own_legs-clause-refused c =
    exit-by _ c.from_residual.result c.in_err-add_own_legs.field-0.0 (err_from_is_err_and c.from_residual.result c.from_residual.ensures.1)
    (λ top corner s at. front-refused c.args.made.now (legs c.args.definitions.now s) (flat_map (member_elements c.args.definitions.now corner (tick_of c.args.definitions.now top) s) (enumerate_from 0 (members s.step.definition))) c.in_err-add_own_legs.field-0.0
    (c.in_err-add_own_legs.ensures.refused c.args.definitions.now top corner s at))

pub returns-clause-elements : goal.returns-clause-elements
returns-clause-elements c =
    on_ok_weaker c.add_inside.result
    (λ added. λ top corner s at. adds-both _ _ (nets c.args.definitions.now top) c.args.made.now c.add_own_legs.new.made c.add_inside.new.made (legs c.args.definitions.now s)
    (flat_map (member_elements c.args.definitions.now corner (tick_of c.args.definitions.now top) s) (enumerate_from 0 (members s.step.definition)))
    (c.in_ok-add_own_legs.ensures.legs c.args.definitions.now top corner s at) (added top corner s at))
    c.add_inside.ensures.elements

pub returns-clause-refused : goal.returns-clause-refused
returns-clause-refused c =
    if_err-weaker c.add_inside.result _ _
    (λ r refused. λ top corner s at. back-refused _ _ (nets c.args.definitions.now top) c.args.made.now c.add_own_legs.new.made (legs c.args.definitions.now s)
    (flat_map (member_elements c.args.definitions.now corner (tick_of c.args.definitions.now top) s) (enumerate_from 0 (members s.step.definition))) r
    (c.in_ok-add_own_legs.ensures.legs c.args.definitions.now top corner s at) (refused top corner s at))
    c.add_inside.ensures.refused
