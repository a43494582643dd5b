-- The first of the words that are left is the first of all.
use Rattle.std.proofs.Common.{◌≡◌, length}
use Rattle.std.specs.Str.{str_to_ascii_lowercase}
use Rattle.sdf_tree.specs.Keywords.{word_in}
use Rattle.sdf_tree.proofs.keywords.word_in.Given as goal

abbrev pub invariant-loop-rest : goal.invariant-loop-rest
invariant-loop-rest l = word_in l.rest (str_to_ascii_lowercase l.text) ≡ word_in l.words (str_to_ascii_lowercase l.text)

abbrev pub decreases-loop-rest : goal.decreases-loop-rest
decreases-loop-rest l = length l.rest
