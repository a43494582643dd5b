-- The bits are found, and the nets are those of the member.
use Rattle.std.proofs.Common.{◌++◌, ◌+◌, ◌∙◌, ap, length, option_map, subst}
use Rattle.std.specs.List.{range_with_len}
use Rattle.std.proofs.lemmas.Result.{on_ok_weaker, IfErr-weaker}
use Rattle.elab_model.specs.Members.{path}
use Rattle.elab_numbering.specs.Refusals.{RefusesCount}
use Rattle.elab_nets.specs.Ends.{AreFirstEnds}
use Rattle.elab_nets.proofs.InnerNets.{nets-are, end-count, net-count}
use Rattle.elab_nets.proofs.ends.add_ends.Goals as goal

pub returns-in_default-clause-ends : goal.returns-in_default-clause-ends
returns-in_default-clause-ends c = λ s p has.
    absurd (subst (λ o. AreFirstEnds s.step.definition (c.args.member, path p) (option_map (λ r. r.now) o)) c.in_default.is
    (c.first_ends.ensures.ends s.step.definition (path p) has.ready.table has.ready.ends has.there))

pub returns-in_default-clause-nets : goal.returns-in_default-clause-nets
returns-in_default-clause-nets c = λ source s p has.
    absurd (subst (λ o. AreFirstEnds s.step.definition (c.args.member, path p) (option_map (λ r. r.now) o)) c.in_default.is
    (c.first_ends.ensures.ends s.step.definition (path p) has.ready.table has.ready.ends has.there))

pub returns-clause-ends : goal.returns-clause-ends
returns-clause-ends c =
    on_ok_weaker c.add_inner_nets.result
    (λ h s p has. h ∙ ap (λ n. c.args.ends.now.items ++ range_with_len (length c.args.nets.now.items) n)
    (end-count s c.args.prepared.now c.args.scope c.args.member p has c.in-Some.places.now (c.in-Some.ensures.ends s.step.definition (path p) has.ready.table has.ready.ends has.there)))
    c.add_inner_nets.ensures.ends

pub returns-clause-nets : goal.returns-clause-nets
returns-clause-nets c =
    on_ok_weaker c.add_inner_nets.result
    (λ h source s p has. h ∙ ap (λ ns. c.args.nets.now.items ++ ns)
    (nets-are s c.args.prepared.now c.args.scope c.args.member p has c.in-Some.places.now (c.in-Some.ensures.ends s.step.definition (path p) has.ready.table has.ready.ends has.there) source
    c.in-Some.ensures.row))
    c.add_inner_nets.ensures.nets

pub returns-clause-refused : goal.returns-clause-refused
returns-clause-refused c =
    IfErr-weaker c.add_inner_nets.result _ _
    (λ r h source s p has. subst (λ n. RefusesCount (length c.args.nets.now.items + n) r)
    (net-count s c.args.prepared.now c.args.scope c.args.member p has c.in-Some.places.now (c.in-Some.ensures.ends s.step.definition (path p) has.ready.table has.ready.ends has.there) source) h)
    c.add_inner_nets.ensures.refused
