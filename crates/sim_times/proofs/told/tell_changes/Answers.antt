use Rattle.std.specs.Prelude.{length, map}
use Rattle.std.specs.Vec.{vec_capacity, with_items}
use Rattle.std.proofs.lemmas.List.{with_items_is, length-replicate}
use Rattle.std.proofs.Common.{false, ◌≡◌, ◌≤◌, ◌∙◌, ap, sym, subst, arith}
use Rattle.sim_times.specs.Told.{changes_in}
use Rattle.sim_times.specs.Watching.{AreDifferences, net_change}
use Rattle.sim_times.proofs.ToldLaws.{touched_within, are_differences, differences_within, told_again}
use Rattle.sim_times.specs.declared.told.Told.{Told}
use Rattle.sim_times.proofs.told.tell_changes.Goals as goal

pub note_all-requires-clause-nets : goal.note_all-requires-clause-nets
note_all-requires-clause-nets c = touched_within c.args.told.now.touched.marks.items c.args.told.now.touched.list.items c.deref-2.result.now c.args.values.now c.deref-2.ensures.value c.requires.marked c.requires.marks

pub settle_told-requires-clause-nets : goal.settle_told-requires-clause-nets
settle_told-requires-clause-nets c = touched_within c.args.told.now.touched.marks.items c.args.told.now.touched.list.items c.deref-3.result.now c.args.values.now c.deref-3.ensures.value c.requires.marked c.requires.marks

pub returns-clause-changes : goal.returns-clause-changes
returns-clause-changes c =
    let told = c.args.told.now in
    let is : map net_change c.note_all.new.changes.items ≡ changes_in told.values.items c.args.values.now told.touched.list.items =
    c.in_ok-note_all.ensures ∙ (ap (λ t. changes_in t c.args.values.now c.deref-2.result.now) c.deref.ensures.value ∙ ap (λ ks. changes_in told.values.items c.args.values.now ks) c.deref-2.ensures.value) in
    subst (AreDifferences told.values.items c.args.values.now) (sym is) (are_differences told.values.items c.args.values.now told.touched.marks.items told.touched.list.items c.requires.marked c.requires.each)

pub returns-clause-within : goal.returns-clause-within
returns-clause-within c = differences_within c.args.told.now.values.items c.args.values.now c.note_all.new.changes.items c.requires.as_many (returns-clause-changes c)

pub returns-clause-told : goal.returns-clause-told
returns-clause-told c =
    let told = c.args.told.now in
    let many : length c.deref_mut-2.result.now ≡ length c.args.values.now = ap length c.deref_mut-2.ensures.value ∙ c.requires.marks in
    let room : length c.args.values.now ≤ vec_capacity told.touched.list = c.requires.room in
    let new : Told = record { values = with_items told.values c.settle_told.new.told; touched = record { marks = with_items told.touched.marks c.clear_work.new.marks; list = c.clear_work.new.work } } in
    let values : new.values.items ≡ c.settle_told.new.told = with_items_is told.values c.settle_told.new.told (ap length c.settle_told.ensures ∙ (sym c.requires.as_many ∙ sym told.values.ok.0)) in
    let clear : length c.clear_work.new.marks ≡ length c.deref_mut-2.result.now = ap length c.clear_work.ensures.marks ∙ length-replicate (length c.deref_mut-2.result.now) false in
    let marks : new.touched.marks.items ≡ c.clear_work.new.marks = with_items_is told.touched.marks c.clear_work.new.marks (clear ∙ (ap length c.deref_mut-2.ensures.value ∙ sym told.touched.marks.ok.0)) in
    told_again new c.args.values.now c.deref_mut-2.result.now (values ∙ c.settle_told.ensures) (marks ∙ c.clear_work.ensures.marks) c.clear_work.ensures.work many (omega (arith, c.clear_work.ensures.capacity, room))
