-- One member's primitive more.
use Rattle.std.proofs.Common.{◌<◌, length, map, sym, ap, subst, arith}
use Rattle.std.proofs.lemmas.Result.{err_from_is_err_and}
use Rattle.elab_model.specs.PrimitiveFaults.{member_primitive}
use Rattle.elab_laws.proofs.Lists.{In}
use Rattle.elab_variables.specs.Seen.{view_member}
use Rattle.elab_hierarchy.proofs.Whole.{refuses}
use Rattle.elab_modules.specs.Reaching.{IsUdpReady}
use Rattle.elab_modules.proofs.Among.{in-mapped}
use Rattle.elab_modules.proofs.Faulty.{name-told}
use Rattle.elab_modules.proofs.Meeting.{AddsFirst, stocked-first, stocked-next, stocked-other}
use Rattle.elab_modules.proofs.stock.add_primitives.Goals as goal

pub loop-member-init : goal.loop-member-init
loop-member-init c = stocked-first c.args.definitions.now c.args.parts.now c.args.udps.now.items c.requires.stock

pub returns-in_err-add_primitive-clause-refused : goal.returns-in_err-add_primitive-clause-refused
returns-in_err-add_primitive-clause-refused c =
    let lt : c.loop-member.member-index < length c.args.members.now = omega arith in
    refuses _ c.from_residual.result c.in_err-add_primitive.field-0.0 (err_from_is_err_and c.from_residual.result c.from_residual.ensures.1)
    (name-told c.args.definitions.now (map view_member c.args.members.now) (view_member c.member-item.result) c.in-Instance.definition.text.now c.in_err-add_primitive.field-0.0
    (subst (λ y. In (view_member y) (map view_member c.args.members.now)) (sym c.member-item.is) (in-mapped view_member c.member-item.result c.args.members.now c.loop-member.member-index lt))
    (ap (λ m. member_primitive c.args.definitions.now (view_member m)) c.in-Instance.is) c.in_err-add_primitive.ensures.refused)

pub loop-member-preserved : goal.loop-member-preserved
loop-member-preserved c =
    let lt : c.loop-member.member-index < length c.args.members.now = omega arith in
    stocked-next c.args.definitions.now c.member-item.result c.member-item.result c.args.parts.now c.loop-member.parts c.add_primitive.new.parts c.args.udps.now.items c.loop-member.udps.items
    c.add_primitive.new.udps.items c.args.members.now c.loop-member.member-index lt c.member-item.is c.loop-member.invariant c.in_ok-add_primitive.ensures.stock c.in_ok-add_primitive.ensures.keeps
    (subst (λ m. IsUdpReady c.args.definitions.now c.add_primitive.new.parts (view_member m)) (sym c.in-Instance.is) c.in_ok-add_primitive.ensures.named)
    (subst (λ m. AddsFirst c.args.definitions.now c.loop-member.parts c.add_primitive.new.parts c.loop-member.udps.items c.add_primitive.new.udps.items (view_member m)) (sym c.in-Instance.is)
    c.in_ok-add_primitive.ensures.first)

pub loop-member-preserved-in_default : goal.loop-member-preserved-in_default
loop-member-preserved-in_default c =
    let lt : c.loop-member.member-index < length c.args.members.now = omega arith in
    stocked-other c.args.definitions.now c.member-item.result c.member-item.result c.args.parts.now c.loop-member.parts c.args.udps.now.items c.loop-member.udps.items c.args.members.now
    c.loop-member.member-index lt c.member-item.is c.in_default.not-Instance c.loop-member.invariant
