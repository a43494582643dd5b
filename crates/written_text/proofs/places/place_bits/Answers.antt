use Rattle.std.proofs.Common.{◌<◌, length, refl, arith}
use Rattle.written_text.proofs.PlaceLaws.{bits_step}
use Rattle.written_text.proofs.places.place_bits.Goals as goal

pub loop-bit-preserved : goal.loop-bit-preserved
loop-bit-preserved c = record {
  each = λ net l.
      let m : net < length c.loop-bit.places = omega (arith, l, c.place_bit.auto.places) in
      bits_step c.loop-bit.places c.place_bit.new.places c.args.mark c.args.variable c.loop-bit.bit c.args.bits.now _ net _ c.loop-bit-test.true refl m c.place_bit.ensures.more (c.loop-bit.invariant.each net m);
  marks = λ h. c.place_bit.ensures.marks (c.loop-bit.invariant.marks h);
}
