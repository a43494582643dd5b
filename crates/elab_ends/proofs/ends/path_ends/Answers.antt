-- Each member in turn.
use Rattle.std.proofs.Common.{◌∙◌, ◌+◌, refl, sym, ap, subst, length, take, arith}
use Rattle.std.specs.Prelude.{flat_map}
use Rattle.elab_model.specs.Ends.{ends}
use Rattle.elab_model.specs.Members.{members}
use Rattle.std.proofs.lemmas.List.{length-map}
use Rattle.elab_variables.specs.Seen.{view_member}
use Rattle.elab_ends.specs.Seen.{AreInRow}
use Rattle.elab_ends.specs.Words.{AreFirst, HasSeen}
use Rattle.elab_ends.proofs.InTurn.{as-ends, lent, member-more}
use Rattle.elab_ends.proofs.ends.path_ends.Goals as goal

pub loop-member-preserved : goal.loop-member-preserved
loop-member-preserved c =
    let whole = lent c.loop-member.seen.len c.add_ends.new.seen c.loop-member.seen.items c.loop-member.seen.ok.0 (c.in_ok-add_ends.ensures.room ∙ sym c.loop-member.invariant.0) in (
      ap length whole ∙ c.in_ok-add_ends.ensures.room,
      c.in_ok-add_ends.ensures.row c.loop-member.invariant.1,
      λ m e is.
          let h = c.loop-member.invariant.2 m e is in
          subst (λ marks. AreFirst m (c.loop-member.member-index + 1) marks c.add_ends.new.bits.items c.push.new.self.items) (sym whole)
          (member-more m c.args.members.now c.loop-member.member-index c.member-item.result c.loop-member.seen.items c.add_ends.new.seen c.loop-member.bits.items c.add_ends.new.bits.items c.loop-member.starts.items
          c.push.new.self.items c.len.result is c.loop-member-test.true c.member-item.is h (c.len.ensures ∙ c.loop-member.bits.ok.0) c.in_ok-push.ensures.items
          (c.in_ok-add_ends.ensures.added m (flat_map (ends m) (take c.loop-member.member-index (members m))) e
          (subst (λ marks. HasSeen m marks (flat_map (ends m) (take c.loop-member.member-index (members m)))) (sym c.deref_mut.ensures.value) h.marked))),
    )

pub returns : goal.returns
returns c = λ m e is.
    as-ends m c.loop-member.member-index c.loop-member.seen.items c.loop-member.bits.items c.loop-member.starts.items _ c.len-2.result
    (sym (ap length is) ∙ length-map c.args.members.now view_member ∙ omega (arith, c.loop-member-test.false, c.loop-member.auto.member-index-end)) (c.loop-member.invariant.2 m e is)
    (subst (λ vs. AreInRow vs c.loop-member.bits.items) e c.loop-member.invariant.1) (c.len-2.ensures ∙ c.loop-member.bits.ok.0) c.in_ok-push-2.ensures.items refl
