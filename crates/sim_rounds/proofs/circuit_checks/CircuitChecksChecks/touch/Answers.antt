use Rattle.std.specs.Prelude.{length}
use Rattle.std.specs.Vec.{with_items}
use Rattle.std.proofs.lemmas.List.{with_items_is}
use Rattle.std.proofs.Common.{◌≡◌, ◌∙◌, ap, arith, sym, subst, slice_index_or, ◌<◌}
use Rattle.fan_round.specs.declared.work.WorkList.{WorkList}
use Rattle.fan_round.specs.Work.{with_marks, AreMarked}
use Rattle.fan_round.proofs.NetLaws.{changed-within}
use Rattle.fan_round.proofs.WorkLaws.{length-with_marks}
use Rattle.sim_rounds.proofs.TouchedLaws.{touched_leads}
use Rattle.sim_rounds.proofs.circuit_checks.CircuitChecksChecks.touch.Goals as goal

pub mark_all-requires-clause-readers : goal.mark_all-requires-clause-readers
mark_all-requires-clause-readers c = λ i d l.
    subst (λ n. slice_index_or c.args.changed.now i d < n) (sym c.requires.changed.as_many ∙ sym (ap length c.deref_mut.ensures.value ∙ c.requires.over.listed.marks)) (changed-within c.args.before.now c.args.values.now c.args.changed.now i d c.requires.changed l)

pub returns-clause-stands : goal.returns-clause-stands
returns-clause-stands c = λ ss h.
    (let old : WorkList = c.args.self.now.touched in
    let new : WorkList = record { marks = with_items old.marks c.mark_all.new.marks; list = c.mark_all.new.work } in
    let marks : c.mark_all.new.marks ≡ with_marks c.args.changed.now old.marks.items = c.mark_all.ensures.marks ∙ ap (with_marks c.args.changed.now) c.deref_mut.ensures.value in
    let back : new.marks.items ≡ c.mark_all.new.marks = with_items_is old.marks c.mark_all.new.marks (ap length marks ∙ (length-with_marks c.args.changed.now old.marks.items ∙ sym old.marks.ok.0)) in
    record {
      begun = h.begun;
      stands = h.stands;
      leads = touched_leads c.args.before.now c.args.values.now c.args.changed.now old new (length c.args.values.now) c.requires.changed c.requires.over.listed.marks
          (λ i d l. subst (λ n. slice_index_or c.args.changed.now i d < n) (sym c.requires.changed.as_many) (changed-within c.args.before.now c.args.values.now c.args.changed.now i d c.requires.changed l))
          c.requires.over.listed.marked (subst (λ ms. AreMarked ms c.mark_all.new.work.items) (sym back) c.mark_all.ensures.marked) (back ∙ marks) ss h.leads;
    })

pub returns-clause-over : goal.returns-clause-over
returns-clause-over c =
    let old : WorkList = c.args.self.now.touched in
    let over = c.requires.over in
    let marks : c.mark_all.new.marks ≡ with_marks c.args.changed.now old.marks.items = c.mark_all.ensures.marks ∙ ap (with_marks c.args.changed.now) c.deref_mut.ensures.value in
    let back : (with_items old.marks c.mark_all.new.marks).items ≡ c.mark_all.new.marks = with_items_is old.marks c.mark_all.new.marks (ap length marks ∙ (length-with_marks c.args.changed.now old.marks.items ∙ sym old.marks.ok.0)) in
    record {
      last = over.last;
      each_check = over.each_check;
      notifiers = over.notifiers;
      listed = record {
        marks = ap length back ∙ (ap length marks ∙ (length-with_marks c.args.changed.now old.marks.items ∙ over.listed.marks));
        room = omega (arith, over.listed.room, c.mark_all.ensures.capacity);
        marked = subst (λ ms. AreMarked ms c.mark_all.new.work.items) (sym back) c.mark_all.ensures.marked;
      };
      idle = over.idle;
    }
