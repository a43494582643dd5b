-- A member more, or all.
use Rattle.std.proofs.Common.{◌<◌, ◌≡◌, length, arith, subst}
use Rattle.elab_model.specs.Hierarchy.{child_of_member}
use Rattle.elab_variables.specs.Seen.{view_member}
use Rattle.elab_hierarchy.specs.Children.{IsChildAnswer}
use Rattle.elab_hierarchy.proofs.Gathered.{one-more, all-gathered}
use Rattle.elab_hierarchy.proofs.children.children_among.Goals as goal

pub loop-number-preserved : goal.loop-number-preserved
loop-number-preserved c =
    let lt : c.loop-number.number < length c.args.members.now = omega arith in
    one-more c.args.definitions.now c.index-members-number.result c.loop-number.children.items _ c.args.members.now c.loop-number.number c.child_of.result lt
    (subst (λ m. IsChildAnswer c.args.definitions.now (child_of_member c.args.definitions.now c.loop-number.number (view_member m)) c.child_of.result) c.index-members-number.is c.child_of.ensures)
    c.in_ok-add_child.ensures c.loop-number.invariant

pub returns-clause-children : goal.returns-clause-children
returns-clause-children c =
    let e : c.loop-number.number ≡ length c.args.members.now = omega arith in
    all-gathered c.args.definitions.now c.loop-number.children.items c.args.members.now c.loop-number.number e c.loop-number.invariant
