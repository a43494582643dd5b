use Rattle.std.proofs.Common.{◌∙◌, sym}
use Rattle.fit_words.proofs.PathLaws.{comes_again, comes_once}
use Rattle.fit_words.proofs.paths.are_distinct.Goals as goal

pub returns-then-is_among : goal.returns-then-is_among
returns-then-is_among c = comes_again c.loop-left.left.now _ c.in-len1-up.len_at_least (sym c.is_among.ensures ∙ c.if-is_among.true) ∙ c.loop-left.invariant

pub loop-left-preserved : goal.loop-left-preserved
loop-left-preserved c = comes_once c.loop-left.left.now _ c.in-len1-up.len_at_least (sym c.is_among.ensures ∙ c.if-is_among.false) ∙ c.loop-left.invariant
