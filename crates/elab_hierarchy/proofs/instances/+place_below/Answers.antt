-- A child is refused, or one below it, or it is placed with all below it.
use Rattle.std.proofs.Common.{rules, ◌≡◌, ◌<◌, ◌≤◌, ◌-◌, ◌^◌, ◌==◌, false, length, arith, ap, ◌∙◌, sym, subst, refl}
use Rattle.std.proofs.lemmas.Result.{err_from_is_err_and}
use Rattle.std.specs.List.{list_any}
use Rattle.elab_hierarchy.specs.Growing.{RefusesChild}
use Rattle.elab_hierarchy.proofs.Going.{next-child, code-at-child, one-less, one-longer, longer, code-gone-on, placed_child}
use Rattle.elab_hierarchy.proofs.Done.{all-placed, child-refused, code-below-refused}
use Rattle.elab_hierarchy.proofs.Sizes.{child_instance}
use Rattle.elab_hierarchy.proofs.Whole.{refuses, pop-last, begun-at}
use Rattle.elab_hierarchy.proofs.instances.+place_below.Goals as goal

pub loop-child-init : goal.loop-child-init
loop-child-init t c = record {
  few = c.requires.few;
  more = omega arith;
  chain = refl;
  going = λ source s at.
      begun-at source c.args.children.now c.args.levels c.args.definition c.args.number c.args.chain.now.items s c.deref-child-items.result.now c.index-children-definition.result c.args.list.now.items
      at c.deref-child-items.ensures.value c.index-children-definition.is;
}

pub returns-in_err-check_child-clause-refused : goal.returns-in_err-check_child-clause-refused
returns-in_err-check_child-clause-refused t c =
    let lt : c.loop-child.child-index < length c.deref-child-items.result.now = omega arith in
    let count : c.len.result ≡ length c.loop-child.list.items = search rules in
    refuses _ c.from_residual.result c.in_err-check_child.field-0.0 (err_from_is_err_and c.from_residual.result c.from_residual.ensures.1)
    (λ source s at.
    let h = c.loop-child.invariant.going source s at in
    let n = next-child source c.child-item.result c.child-item.result c.deref-child-items.result.now c.loop-child.child-index h.left lt c.child-item.is h.are in
    child-refused source c.args.children.now c.args.levels c.args.definition c.args.number c.args.chain.now.items (length c.args.list.now.items) s c.child-item.result c.deref-child-items.result.now
    c.loop-child.child-index c.args.list.now.items c.loop-child.list.items c.len.result c.in_err-check_child.field-0.0 at h n at.last count c.loop-child.invariant.few
    (subst (λ ch. RefusesChild c.args.levels c.child-item.result ch c.len.result c.in_err-check_child.field-0.0) (c.deref.ensures.value ∙ c.loop-child.invariant.chain) c.in_err-check_child.ensures.refused))

pub returns-in_err-place_below-clause-refused : goal.returns-in_err-place_below-clause-refused
returns-in_err-place_below-clause-refused t c =
    let lt : c.loop-child.child-index < length c.deref-child-items.result.now = omega arith in
    let own : c.len-own.result ≡ length c.loop-child.list.items = search rules in
    let other : list_any (λ k. k == c.child-item.result.definition) c.args.chain.now.items ≡ false =
    ap (list_any (λ k. k == c.child-item.result.definition)) (sym c.loop-child.invariant.chain ∙ sym c.deref.ensures.value) ∙ c.in_ok-check_child.ensures.passes.other in
    refuses _ c.from_residual-in_err-place_below.result c.in_err-place_below.field-0.0
    (err_from_is_err_and c.from_residual-in_err-place_below.result c.from_residual-in_err-place_below.ensures.1)
    (λ source s at.
    let h = c.loop-child.invariant.going source s at in
    let n = next-child source c.child-item.result c.child-item.result c.deref-child-items.result.now c.loop-child.child-index h.left lt c.child-item.is h.are in
    code-below-refused source c.args.levels (c.args.levels - 1) c.len-own.result c.args.number s c.child-item.result c.deref-child-items.result.now c.loop-child.child-index c.args.list.now.items
    c.loop-child.list.items c.in_err-place_below.field-0.0 (one-less c.args.levels c.in_ok-check_child.ensures.passes.level) own h n at.last at.leveled
    (c.in_err-place_below.ensures.refused source (child_instance (c.args.levels - 1) s n.child c.len-own.result)
    (code-at-child source c.args.children.now c.args.levels c.args.definition c.args.number c.args.chain.now.items c.loop-child.chain.items c.push.new.self.items
    (length c.args.list.now.items) s c.child-item.result n.child c.len-own.result c.loop-child.list.items c.push-in-loop-child.new.self.items (placed_child c.args.number c.child-item.result)
    at n.same other own c.loop-child.invariant.chain c.in_ok-push.ensures.items c.in_ok-push-2.ensures.items)))

pub set_end-requires-clause-within : goal.set_end-requires-clause-within
set_end-requires-clause-within t c =
    let own : c.len-own.result ≡ length c.loop-child.list.items = search rules in
    let one = one-longer c.loop-child.list.items c.push-in-loop-child.new.self.items (placed_child c.args.number c.child-item.result) c.in_ok-push-2.ensures.items in
    let more : length c.push-in-loop-child.new.self.items ≤ length c.place_below.new.list.items = c.in_ok-place_below.ensures.more in
    omega arith

pub loop-child-preserved : goal.loop-child-preserved
loop-child-preserved t c =
    let lt : c.loop-child.child-index < length c.deref-child-items.result.now = omega arith in
    let own : c.len-own.result ≡ length c.loop-child.list.items = search rules in
    let other : list_any (λ k. k == c.child-item.result.definition) c.args.chain.now.items ≡ false =
    ap (list_any (λ k. k == c.child-item.result.definition)) (sym c.loop-child.invariant.chain ∙ sym c.deref.ensures.value) ∙ c.in_ok-check_child.ensures.passes.other in
    let one = one-longer c.loop-child.list.items c.push-in-loop-child.new.self.items (placed_child c.args.number c.child-item.result) c.in_ok-push-2.ensures.items in
    let further : length c.push-in-loop-child.new.self.items ≤ length c.place_below.new.list.items = c.in_ok-place_below.ensures.more in
    let before : length c.args.list.now.items ≤ length c.loop-child.list.items = c.loop-child.invariant.more in
    let same : length c.set_end.new.list.items ≡ length c.place_below.new.list.items = c.set_end.ensures.length in
    record {
      few = subst (λ n. n ≤ 2 ^ 22) (sym same) c.in_ok-place_below.ensures.few;
      more = omega arith;
      chain = pop-last c.loop-child.chain.items c.place_below.new.chain.items c.pop.new.self.items c.child-item.result.definition _ (c.in_ok-place_below.ensures.chain ∙ c.in_ok-push.ensures.items) (search rules) c.pop.ensures.rest
          ∙ c.loop-child.invariant.chain;
      going = λ source s at.
          let h = c.loop-child.invariant.going source s at in
          let n = next-child source c.child-item.result c.child-item.result c.deref-child-items.result.now c.loop-child.child-index h.left lt c.child-item.is h.are in
          let g = c.in_ok-place_below.ensures.grown source (child_instance (c.args.levels - 1) s n.child c.len-own.result)
          (code-at-child source c.args.children.now c.args.levels c.args.definition c.args.number c.args.chain.now.items c.loop-child.chain.items c.push.new.self.items
          (length c.args.list.now.items) s c.child-item.result n.child c.len-own.result c.loop-child.list.items c.push-in-loop-child.new.self.items (placed_child c.args.number c.child-item.result)
          at n.same other own c.loop-child.invariant.chain c.in_ok-push.ensures.items c.in_ok-push-2.ensures.items) in
          code-gone-on source c.args.levels (c.args.levels - 1) c.len-own.result c.args.number s c.child-item.result c.deref-child-items.result.now c.loop-child.child-index c.args.list.now.items
          c.loop-child.list.items c.set_end.new.list.items (length c.place_below.new.list.items) c.args.chain.now.items (one-less c.args.levels c.in_ok-check_child.ensures.passes.level) own h n at.numbered
          at.chained other
          (longer source (c.args.levels - 1) (child_instance (c.args.levels - 1) s n.child c.len-own.result) c.loop-child.list.items c.push-in-loop-child.new.self.items c.place_below.new.list.items
          c.set_end.new.list.items (placed_child c.args.number c.child-item.result) c.in_ok-push-2.ensures.items g
          (λ b f q e is. c.set_end.ensures.ended b f q e (own ∙ is)));
    }

pub returns-clause-grown : goal.returns-clause-grown
returns-clause-grown t c source s at =
    let e : c.loop-child.child-index ≡ length c.deref-child-items.result.now = omega arith in
    all-placed source c.args.levels s c.deref-child-items.result.now c.loop-child.child-index c.args.list.now.items c.loop-child.list.items e at.leveled (c.loop-child.invariant.going source s at)
