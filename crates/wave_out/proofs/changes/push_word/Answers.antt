use Rattle.std.proofs.Common.{◌≡◌, ◌++◌, arith}
use Rattle.wave_out.specs.Lines.{lines_of}
use Rattle.wave_out.specs.Marks.{bools, trues}
use Rattle.wave_out.proofs.ListingLaws.{left_first, left_none, left_others, left_text}
use Rattle.wave_out.proofs.changes.push_word.Goals as goal

pub overflow_add-first : goal.overflow_add-first
overflow_add-first g c =
    omega (arith, c.requires.few, left_first c.args.variables.now c.args.first c.take_bit-bit.result.0 c.loop-left.left c.take_bit-bit.result.1 (c.take_bit-bit.ensures.first c.args.first) c.loop-left.invariant.within)

pub push_line-requires-clause-k : goal.push_line-requires-clause-k
push_line-requires-clause-k g c = left_first c.args.variables.now c.args.first c.take_bit-bit.result.0 c.loop-left.left c.take_bit-bit.result.1 (c.take_bit-bit.ensures.first c.args.first) c.loop-left.invariant.within

pub loop-left-preserved : goal.loop-left-preserved
loop-left-preserved g c = record {
  within = left_others c.args.variables.now c.args.first c.take_bit-bit.result.0 c.loop-left.left c.take_bit-bit.result.1 (c.take_bit-bit.ensures.first c.args.first) c.loop-left.invariant.within;
  text = left_text c.args.variables.now (g.N.Nets.values c.args.nets.now) c.args.first c.take_bit-bit.result.0 c.loop-left.left c.take_bit-bit.result.1 c.loop-left.text.items c.push_line.new.text.items _
      (c.take_bit-bit.ensures.first c.args.first) c.in_ok-push_line.ensures c.loop-left.invariant.text;
}

pub returns : goal.returns
returns g c =
    let none : c.loop-left.left ≡ 0 = omega arith in
    left_none c.args.variables.now (g.N.Nets.values c.args.nets.now) c.args.first c.loop-left.left c.loop-left.text.items
    (c.args.text.now.items ++ lines_of c.args.variables.now (trues c.args.first (bools 64 c.args.word)) (g.N.Nets.values c.args.nets.now)) none c.loop-left.invariant.text
