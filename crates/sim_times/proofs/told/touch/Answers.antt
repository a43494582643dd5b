use Rattle.std.specs.Prelude.{length}
use Rattle.std.specs.Vec.{with_items}
use Rattle.std.proofs.lemmas.List.{with_items_is}
use Rattle.std.proofs.Common.{◌≡◌, ◌∙◌, ap, refl, sym, subst, slice_index_or, ◌<◌}
use Rattle.fan_round.specs.Work.{with_marks, AreMarked}
use Rattle.fan_round.proofs.NetLaws.{changed-within}
use Rattle.fan_round.proofs.WorkLaws.{length-with_marks}
use Rattle.sim_times.proofs.ToldLaws.{touched_more}
use Rattle.sim_times.specs.declared.told.Told.{Told}
use Rattle.sim_times.proofs.told.touch.Goals as goal

pub mark_all-requires-clause-readers : goal.mark_all-requires-clause-readers
mark_all-requires-clause-readers c = λ i d l.
    subst (λ n. slice_index_or c.args.changed.now i d < n) (sym (ap length c.deref_mut.ensures.value ∙ c.requires.told.marks)) (changed-within c.args.before.now c.args.values.now c.args.changed.now i d c.requires.changed l)

pub returns-clause-told : goal.returns-clause-told
returns-clause-told c =
    let new : Told = record { values = c.args.told.now.values; touched = record { marks = with_items c.args.told.now.touched.marks c.mark_all.new.marks; list = c.mark_all.new.work } } in
    let marks : c.mark_all.new.marks ≡ with_marks c.args.changed.now c.args.told.now.touched.marks.items = c.mark_all.ensures.marks ∙ ap (with_marks c.args.changed.now) c.deref_mut.ensures.value in
    let back : new.touched.marks.items ≡ c.mark_all.new.marks = with_items_is c.args.told.now.touched.marks c.mark_all.new.marks (ap length marks ∙ (length-with_marks c.args.changed.now c.args.told.now.touched.marks.items ∙ sym c.args.told.now.touched.marks.ok.0)) in
    touched_more c.args.told.now new c.args.before.now c.args.values.now c.args.changed.now c.requires.told c.requires.changed refl (back ∙ marks) (subst (λ ms. AreMarked ms c.mark_all.new.work.items) (sym back) c.mark_all.ensures.marked) c.mark_all.ensures.capacity
