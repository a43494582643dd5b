use Rattle.std.proofs.Common.{arith, refl}
use Rattle.wave_out.proofs.MarkLaws.{marks_left, word_taken, word_within}
use Rattle.wave_out.proofs.marks.Marks.take_word.Goals as goal

pub index-marks-requires : goal.index-marks-requires
index-marks-requires c = omega (arith, word_within c.args.self.now c.args.group c.take_bit-bit.result.0 c.index.result.now c.take_bit-bit.ensures.bit c.requires.group c.index.ensures c.take_bit-bit.ensures.set c.requires.marks, c.args.self.now.words.ok.0)

pub index_mut-requires-2 : goal.index_mut-requires-2
index_mut-requires-2 c = omega (arith, word_within c.args.self.now c.args.group c.take_bit-bit.result.0 c.index.result.now c.take_bit-bit.ensures.bit c.requires.group c.index.ensures c.take_bit-bit.ensures.set c.requires.marks, c.args.self.now.words.ok.0)

pub overflow_mul-result : goal.overflow_mul-result
overflow_mul-result c = omega (arith, word_within c.args.self.now c.args.group c.take_bit-bit.result.0 c.index.result.now c.take_bit-bit.ensures.bit c.requires.group c.index.ensures c.take_bit-bit.ensures.set c.requires.marks, c.requires.marks.sized.most)

pub returns-clause-marks : goal.returns-clause-marks
returns-clause-marks c =
    marks_left c.args.self.now _ c.args.group c.take_bit-bit.result.0 c.index.result.now c.take_bit-bit.result.1 c.take_bit-bit.ensures.bit c.requires.group c.index.ensures c.take_bit-bit.ensures.set
    c.take_bit-bit.ensures.others c.take_bit-bit.ensures.gone refl refl c.requires.marks

pub returns-clause-taken : goal.returns-clause-taken
returns-clause-taken c =
    word_taken c.args.self.now.words.items c.args.self.now.groups.items _ c.args.group c.take_bit-bit.result.0 c.index.result.now c.index-marks.result.now c.take_bit-bit.ensures.bit c.requires.group c.index.ensures
    c.take_bit-bit.ensures.set c.take_bit-bit.ensures.lowest c.index-marks.ensures refl c.requires.marks.cover c.requires.marks.inside c.requires.done
