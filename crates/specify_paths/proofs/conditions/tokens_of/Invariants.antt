-- What is there, followed by what is left, is the whole.
use Rattle.std.proofs.Common.{◌≡◌, ◌++◌, map, drop}
use Rattle.vl_tree.specs.Seen.{view_word}
use Rattle.specify_model.specs.Conditions.{tokens}
use Rattle.specify_paths.proofs.conditions.tokens_of.Given as goal

abbrev pub invariant-loop-word : goal.invariant-loop-word
invariant-loop-word l = l.tokens.items ++ tokens (map view_word (drop l.word-index l.words)) ≡ tokens (map view_word l.words)
