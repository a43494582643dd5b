use Rattle.std.proofs.Common.{◌≡◌, sym, ◌∙◌, arith}
use Rattle.std.proofs.lemmas.List.{append-nil}
use Rattle.vl_token.proofs.BitLaws.{low_bits_none, low_bits_more}
use Rattle.vl_token.proofs.constants.put_low_bits.Goals as goal

pub loop-left-preserved : goal.loop-left-preserved
loop-left-preserved c =
    let more = low_bits_more c.loop-left.bits.items c.loop-left.left c.args.number (omega arith) in
    record { most = omega arith; bits = rw (c.in_ok-push.ensures.items, c.bit.ensures) (more ∙ c.loop-left.invariant.bits) }

pub returns : goal.returns
returns c =
    let none : c.loop-left.left ≡ 0 = omega arith in
    let h = rw none at c.loop-left.invariant.bits in
    sym (append-nil c.loop-left.bits.items) ∙ rw (low_bits_none c.args.number) at h
