-- Each member in turn.
use Rattle.std.proofs.Common.{◌∙◌, refl, sym, ap, length, arith}
use Rattle.std.proofs.lemmas.List.{length-map}
use Rattle.elab_variables.specs.Seen.{view_member}
use Rattle.elab_lates.proofs.InOrder.{asked_by, one-more, all-asked}
use Rattle.elab_lates.proofs.making.module_copies.Goals as goal

pub loop-member-preserved : goal.loop-member-preserved
loop-member-preserved c = λ m e is.
    let h = c.loop-member.invariant m e is in
    one-more m c.args.members.now c.loop-member.member-index c.member-item.result c.loop-member.asked c.add_member.new.asked c.loop-member.starts.items c.push.new.self.items c.len.result is
    c.loop-member-test.true c.member-item.is h (c.len.ensures ∙ c.loop-member.asked.copies.ok.0) c.in_ok-push.ensures.items
    (c.in_ok-add_member.ensures m (asked_by m c.loop-member.member-index) e h.asked)

pub returns : goal.returns
returns c = λ m e is.
    all-asked m c.loop-member.member-index c.loop-member.asked c.loop-member.starts.items _ c.len-2.result
    (sym (ap length is) ∙ length-map c.args.members.now view_member ∙ omega (arith, c.loop-member-test.false, c.loop-member.auto.member-index-end)) (c.loop-member.invariant m e is)
    (c.len-2.ensures ∙ c.loop-member.asked.copies.ok.0) c.in_ok-push-2.ensures.items refl refl c.len-signals.ensures.len
