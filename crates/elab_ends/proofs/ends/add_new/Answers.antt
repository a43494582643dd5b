-- Each place in turn.
use Rattle.std.proofs.Common.{◌∙◌, ◌+◌, sym, ap, subst}
use Rattle.elab_ends.proofs.Marking.{Marked, marked-inner, marked-seen, marked-more, all-marked}
use Rattle.elab_ends.proofs.ends.add_new.Goals.{then-not-seen-place+then-is_of_output+in_ok-push, else-not-seen-place, else-not-seen-place-via-then-not-seen-place+else-is_of_output, else-not-seen-place-via-else-not-seen-place}
use Rattle.elab_ends.proofs.ends.add_new.Goals as goal

pub loop-place-preserved : goal.loop-place-preserved
loop-place-preserved c = elim c.if-not-seen-place.branch [
  | then-not-seen-place+then-is_of_output+in_ok-push w ↦
      subst (λ seen. Marked c.args.table.now c.args.places.now c.args.seen.now c.args.bits.now.items (c.loop-place.place-index + 1) seen c.if-not-seen-place.bits.items) (sym w.seen-is)
      (marked-more c.args.table.now c.args.places.now c.args.seen.now c.args.bits.now.items c.loop-place.place-index 0 c.loop-place-test.true c.requires.row c.loop-place.seen c.loop-place.bits.items c.loop-place.invariant
      (sym w.is_of_output.ensures ∙ w.if-is_of_output.true) _ w.if-not-seen-place.true c.if-not-seen-place.bits.items (ap (λ v. v.items) w.bits-is ∙ w.in_ok-push.ensures.items))
  | else-not-seen-place w ↦
      subst (λ seen. Marked c.args.table.now c.args.places.now c.args.seen.now c.args.bits.now.items (c.loop-place.place-index + 1) seen c.if-not-seen-place.bits.items) (sym w.seen-is)
      (subst (λ bits. Marked c.args.table.now c.args.places.now c.args.seen.now c.args.bits.now.items (c.loop-place.place-index + 1) c.loop-place.seen bits.items) (sym w.bits-is)
      (elim w.else-not-seen-place.branch [
        | else-not-seen-place-via-then-not-seen-place+else-is_of_output v ↦
            marked-inner c.args.table.now c.args.places.now c.args.seen.now c.args.bits.now.items c.loop-place.place-index 0 c.loop-place-test.true c.requires.row c.loop-place.seen c.loop-place.bits.items
            c.loop-place.invariant (sym v.is_of_output.ensures ∙ v.if-is_of_output.false)
        | else-not-seen-place-via-else-not-seen-place v ↦
            marked-seen c.args.table.now c.args.places.now c.args.seen.now c.args.bits.now.items c.loop-place.place-index 0 c.loop-place-test.true c.requires.row c.loop-place.seen c.loop-place.bits.items
            c.loop-place.invariant _ v.if-not-seen-place.false
      ]))
]

pub returns-clause-added : goal.returns-clause-added
returns-clause-added c =
    all-marked c.args.table.now c.args.places.now c.args.seen.now c.args.bits.now.items c.loop-place.place-index c.loop-place.seen c.loop-place.bits.items c.loop-place-test.false c.loop-place.invariant
