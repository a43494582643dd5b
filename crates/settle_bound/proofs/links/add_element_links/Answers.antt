use Rattle.std.proofs.Common.{◌<◌, length, slice_index_or, ap, ◌∙◌, subst}
use Rattle.settle_bound.proofs.LinkedLaws.{links-more}
use Rattle.settle_bound.proofs.links.add_element_links.Goals as goal

pub loop-element-preserved : goal.loop-element-preserved
loop-element-preserved c =
    let i = c.loop-element.element-index in
    let item = c.element-item.result in
    links-more c.args.parts.now i item c.loop-element.links.items c.push.new.self.items c.link_of.result (subst (λ es. i < length es) c.deref-element-items.ensures.value c.loop-element-test.true)
    (c.element-item.is ∙ ap (λ es. slice_index_or es i item) c.deref-element-items.ensures.value) c.link_of.ensures c.loop-element.invariant c.in_ok-push.ensures.items
