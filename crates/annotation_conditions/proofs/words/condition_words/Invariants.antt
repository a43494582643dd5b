-- The words so far are copied.
use Rattle.std.proofs.Common.{◌≡◌, map, take}
use Rattle.sdf_tree.specs.Seen.{view_tok}
use Rattle.annotation_conditions.proofs.words.condition_words.Given as goal

abbrev pub invariant-loop-word : goal.invariant-loop-word
invariant-loop-word l = l.own.items ≡ map view_tok (take l.word-index l.words)
