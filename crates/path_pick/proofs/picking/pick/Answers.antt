use Rattle.std.specs.Vec.{with_items}
use Rattle.std.proofs.Common.{◌≡◌, ◌∙◌, ap, sym, subst, false, slice_index_or}
use Rattle.std.proofs.lemmas.List.{with_items_is}
use Rattle.path_pick.specs.Marks.{AreMarked}
use Rattle.path_pick.proofs.MarkLaws.{off_again}
use Rattle.path_pick.proofs.picking.pick.Goals as goal

pub invariant_of-marks : goal.invariant_of-marks
invariant_of-marks g c =
    let values = g.N.Nets.values c.args.nets.now in
    let old = c.marks.inside.flags in
    let marked : c.deref_mut-2.result.now ≡ c.mark_inputs.new.flags = c.deref_mut-2.ensures.value ∙ with_items_is old c.mark_inputs.new.flags (c.mark_inputs.auto.flags ∙ c.deref_mut.ensures.len) in
    λ net. ap (λ fs. slice_index_or fs net false) (with_items_is (with_items old c.mark_inputs.new.flags) c.clear_inputs.new.flags (c.clear_inputs.auto.flags ∙ c.deref_mut-2.ensures.len))
    ∙ off_again c.args.paths.now values c.deref_mut-2.result.now c.clear_inputs.new.flags (subst (λ fs. AreMarked c.args.paths.now values fs) (sym marked) c.mark_inputs.ensures) c.clear_inputs.ensures net
