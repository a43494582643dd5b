use Rattle.std.proofs.Common.{string_bytes}
use Rattle.fit_words.specs.Arguments.{is_end}
use Rattle.fit_words.proofs.ArgumentLaws.{cut_before, cut_after}
use Rattle.fit_words.proofs.arguments.cut_at_end.Goals as goal

pub returns-clause-before : goal.returns-clause-before
returns-clause-before c = cut_before string_bytes is_end c.args.words.now c.end_of-end.result c.end_of-end.ensures.place

pub returns-clause-after : goal.returns-clause-after
returns-clause-after c = cut_after string_bytes is_end c.args.words.now c.end_of-end.result c.min-behind.result c.end_of-end.ensures.place c.min-behind.ensures
