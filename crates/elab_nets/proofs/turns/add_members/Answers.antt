-- One member after another is seen to.
use Rattle.std.proofs.Common.{◌≡◌, ◌∙◌, ◌++◌, ◌∷◌, [], ap, arith, length, refl, subst, sym}
use Rattle.std.proofs.lemmas.List.{length-map}
use Rattle.std.proofs.lemmas.Result.{err_from_is_err_and}
use Rattle.elab_model.specs.Members.{members}
use Rattle.elab_variables.specs.Seen.{view_member}
use Rattle.elab_nets.specs.Turns.{AreThrough}
use Rattle.elab_nets.proofs.Counts.{handed-on}
use Rattle.elab_nets.proofs.MemberTurns.{none-through, one-through, is-next, turn-later, member-at}
use Rattle.elab_nets.proofs.turns.add_members.Goals as goal

pub loop-index-init : goal.loop-index-init
loop-index-init c = record {
  few = c.requires.few;
  through = λ top corner turn prepared count.
      none-through c.args.definitions.now top corner c.args.library.now c.args.instances.now c.args.rows.now c.args.prepared.now.table c.args.number turn;
}

pub returns-in_err-next-clause-refused : goal.returns-in_err-next-clause-refused
returns-in_err-next-clause-refused c =
    let rows = c.loop-index.rows in
    let source = c.args.definitions.now in
    handed-on c.from_residual-in_err-next.result _ c.in_err-next.field-0.0 (err_from_is_err_and c.from_residual-in_err-next.result c.from_residual-in_err-next.ensures.1)
    (λ top corner turn prepared count.
    let h = c.loop-index.invariant.through top corner turn prepared count in
    let x = member-at c.args.prepared.now turn.s.step.definition c.deref-member-items.result.now c.loop-index.index c.member-item.result prepared c.deref-member-items.ensures.value c.loop-index-test.true
    c.member-item.is in
    c.in_err-next.ensures.refused top corner
    (turn-later source top corner c.args.library.now c.args.instances.now c.args.rows.now _ c.args.prepared.now.table c.args.number turn h.same.0 h.same.1.0 h.outside.same_count)
    prepared
    (is-next source top turn.before turn.s c.loop-index.index c.loop-index.next c.args.rows.now rows (view_member c.member-item.result) count h x))

pub loop-index-preserved : goal.loop-index-preserved
loop-index-preserved c = record {
  few = c.add_member.ensures.few;
  through = λ top corner turn prepared count.
      let rows = c.loop-index.rows in
      let source = c.args.definitions.now in
      let k = c.loop-index.index in
      let h = c.loop-index.invariant.through top corner turn prepared count in
      let x = member-at c.args.prepared.now turn.s.step.definition c.deref-member-items.result.now k c.member-item.result prepared c.deref-member-items.ensures.value c.loop-index-test.true c.member-item.is in
      let made : c.len.result ≡ length rows.nets.items = omega (arith, c.len.ensures, rows.nets.ok.0) in
      one-through source top turn.before turn.after turn.s k c.loop-index.next c.in_ok-next.next c.args.rows.now rows _ c.add_member.new.rows (view_member c.member-item.result) turn.here count h x
      (c.in_ok-push.ensures.items ∙ ap (λ n. rows.firsts.items ++ n ∷ []) made) refl refl refl (refl, (refl, (refl, (refl, refl))))
      (c.in_ok-next.ensures.seen top corner
      (turn-later source top corner c.args.library.now c.args.instances.now c.args.rows.now _ c.args.prepared.now.table c.args.number turn h.same.0 h.same.1.0 h.outside.same_count)
      prepared (is-next source top turn.before turn.s k c.loop-index.next c.args.rows.now rows (view_member c.member-item.result) count h x));
}

pub returns-clause-through : goal.returns-clause-through
returns-clause-through c = λ top corner turn prepared count.
    let items = c.args.prepared.now.members.items in
    let n : length (members turn.s.step.definition) ≡ length items = ap length (sym prepared.members) ∙ length-map items view_member in
    let e : length c.deref-member-items.result.now ≡ length items = ap length c.deref-member-items.ensures.value in
    let k : c.loop-index.index ≡ length (members turn.s.step.definition) = omega arith in (
      c.loop-index.next,
      subst (λ k. AreThrough c.args.definitions.now top turn.before turn.s k c.loop-index.next c.args.rows.now c.loop-index.rows) k
          (c.loop-index.invariant.through top corner turn prepared count),
    )
