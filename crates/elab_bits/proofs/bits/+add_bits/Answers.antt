-- The loop adds a concatenation part after part.
use Rattle.std.proofs.Common.{map}
use Rattle.std.proofs.lemmas.Result.{on_ok_weaker}
use Rattle.elab_bits.specs.Seen.{view_bit}
use Rattle.elab_bits.proofs.PartsLeft.{part-added, all-added, constant-added}
use Rattle.elab_bits.proofs.bits.+add_bits.Goals as goal

pub loop-part-preserved : goal.loop-part-preserved
loop-part-preserved t c = record {
  bits = part-added c.args.table.now c.deref-part-items.result.now c.loop-part.part-index c.part-item.result (map (view_bit c.args.table.now) c.loop-part.bits.items)
      (map (view_bit c.args.table.now) c.add_bits.new.bits.items) _
      c.loop-part-test.true c.part-item.is c.in_ok-add_bits-in-Concatenation.ensures.bits c.loop-part.invariant.bits;
  row = λ old. c.in_ok-add_bits-in-Concatenation.ensures.row (c.loop-part.invariant.row old);
}

pub returns-in-Sized-clause-bits : goal.returns-in-Sized-clause-bits
returns-in-Sized-clause-bits t c =
    on_ok_weaker c.add_constant.result (constant-added c.args.table.now c.args.expression.now c.in-Sized.place c.in-Sized.value c.args.bits.now.items c.add_constant.new.bits.items c.in-Sized.is)
    c.add_constant.ensures.bits

pub returns-in-Sized-clause-row : goal.returns-in-Sized-clause-row
returns-in-Sized-clause-row t c = c.add_constant.ensures.row c.args.table.now

pub returns-after-loop-part-clause-bits : goal.returns-after-loop-part-clause-bits
returns-after-loop-part-clause-bits t c =
    all-added c.args.table.now c.args.expression.now c.in-Concatenation.place c.in-Concatenation.parts c.deref-part-items.result.now c.loop-part.part-index
    (map (view_bit c.args.table.now) c.loop-part.bits.items) (map (view_bit c.args.table.now) c.args.bits.now.items)
    c.in-Concatenation.is c.deref-part-items.ensures.value c.loop-part-test.false c.loop-part.invariant.bits
