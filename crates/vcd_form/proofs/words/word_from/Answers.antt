-- The next word, or none.
use Rattle.std.proofs.Common.{arith}
use Rattle.vcd_form.proofs.PlaceLaws.{next_word, no_word}
use Rattle.vcd_form.proofs.words.word_from.Goals as goal

pub returns-then-behind-byte : goal.returns-then-behind-byte
returns-then-behind-byte c = no_word c.args.text.now c.args.at c.blank_len.result c.word_len.result c.blank_len.ensures.size c.word_len.ensures.size c.if-behind-byte.true

pub returns : goal.returns
returns c = next_word c.args.text.now c.args.at c.blank_len.result c.word_len.result c.requires c.blank_len.ensures.size c.word_len.ensures.size c.if-behind-byte.false (omega arith)
