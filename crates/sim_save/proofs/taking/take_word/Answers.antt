-- The word behind the blank, up to a break.
use Rattle.sim_save.proofs.NumberLaws.{end_within}
use Rattle.sim_save.proofs.TakeLaws.{word_cut}
use Rattle.sim_save.proofs.taking.take_word.Goals as goal

pub split_at-requires : goal.split_at-requires
split_at-requires c = end_within c.in_ok-words.words.now c.word_end.result c.word_end.ensures

pub returns : goal.returns
returns c =
    word_cut c.args.text.now c.in_ok-words.words.now c.split_at.result.0.now c.split_at.result.1.now c.word_end.result c.in_ok-words.ensures c.word_end.ensures c.split_at.ensures.front c.split_at.ensures.back
