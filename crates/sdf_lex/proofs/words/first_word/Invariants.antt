use Rattle.std.proofs.Common.{◌≡◌, ◌+◌, length}
use Rattle.std.specs.Prelude.{None}
use Rattle.sdf_lex.specs.PieceBridge.{measured, run_of}
use Rattle.sdf_lex.proofs.words.first_word.Given as goal

-- what is left of the word completes it
abbrev pub invariant-loop-letter : goal.invariant-loop-letter
invariant-loop-letter l = record {
  same : measured l.size l.bracket (run_of l.ends l.rest) ≡ measured 0 None (run_of None l.text);
  place : l.size + length l.rest ≡ length l.text;
}

abbrev pub decreases-loop-letter : goal.decreases-loop-letter
decreases-loop-letter l = length l.rest
