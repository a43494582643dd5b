-- A definition more, or all.
use Rattle.std.proofs.Common.{◌<◌, ◌≡◌, length, arith, subst}
use Rattle.vl_tree.specs.Seen.{view_part}
use Rattle.elab_hierarchy.specs.Children.{AreChildren, part_children}
use Rattle.elab_hierarchy.proofs.Gathered.{one-gathered, tree-gathered, within-gathered}
use Rattle.elab_hierarchy.proofs.children.all_children.Goals as goal

pub loop-part-preserved : goal.loop-part-preserved
loop-part-preserved c =
    let lt : c.loop-part.part-index < length c.parts-part-items.result.now = omega arith in
    one-gathered c.args.definitions.now c.part-item.result c.loop-part.all.items c.push.new.self.items c.in_ok-children.children c.parts-part-items.result.now c.loop-part.part-index lt c.in_ok-push.ensures.items
    (subst (λ p. AreChildren c.args.definitions.now c.in_ok-children.children.items (part_children c.args.definitions.now (view_part p))) c.part-item.is c.in_ok-children.ensures.children)
    c.in_ok-children.ensures.within c.loop-part.invariant

pub returns-clause-tree : goal.returns-clause-tree
returns-clause-tree c =
    let e : c.loop-part.part-index ≡ length c.parts-part-items.result.now = omega arith in
    tree-gathered c.args.definitions.now c.loop-part.all.items c.parts-part-items.result.now c.loop-part.part-index e c.parts-part-items.ensures c.len.ensures.once c.loop-part.invariant

pub returns-clause-within : goal.returns-clause-within
returns-clause-within c =
    let e : c.loop-part.part-index ≡ length c.parts-part-items.result.now = omega arith in
    within-gathered c.args.definitions.now c.loop-part.all.items c.parts-part-items.result.now c.loop-part.part-index e c.parts-part-items.ensures c.loop-part.invariant
