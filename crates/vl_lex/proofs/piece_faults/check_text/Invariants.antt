use Rattle.std.proofs.Common.{◌≡◌, ◌+◌, length}
use Rattle.std.specs.Prelude.{Option}
use Rattle.vl_lex.specs.State.{Fault}
use Rattle.vl_lex.specs.Lexes.{Checks}
use Rattle.vl_lex.proofs.piece_faults.check_text.Given as goal

-- what stands of the rest stands of the whole
abbrev pub invariant-loop-rest : goal.invariant-loop-rest
invariant-loop-rest l = record {
  place : l.at + length l.rest ≡ l.start + length l.text;
  so_far : (found : Option Fault) → Checks l.origin l.at l.rest found → Checks l.origin l.start l.text found;
}

abbrev pub decreases-loop-rest : goal.decreases-loop-rest
decreases-loop-rest l = length l.rest
