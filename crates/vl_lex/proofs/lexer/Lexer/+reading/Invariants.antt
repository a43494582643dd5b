use Rattle.std.proofs.Common.{◌≡◌, ◌+◌, ◌*◌, length}
use Rattle.vl_lex.specs.State.{Outcome}
use Rattle.vl_lex.specs.Lexes.{IsRead, Expands}
use Rattle.vl_lex.specs.StateBridge.{state}
use Rattle.vl_lex.proofs.lexer.Lexer.+reading.Given as goal

abbrev pub decreases-advance : goal.decreases-advance
decreases-advance l = 3 * l.left + 1

abbrev pub decreases-expand : goal.decreases-expand
decreases-expand l = 3 * l.left

abbrev pub decreases-read : goal.decreases-read
decreases-read l = 3 * l.left + 2

-- what comes of the rest comes of the whole
abbrev pub invariant-read-loop-rest : goal.invariant-read-loop-rest
invariant-read-loop-rest l = record {
  place : l.at + length l.rest ≡ length l.text;
  so_far : (o : Outcome) → IsRead (Expands l.left) l.origin l.at l.rest (state l.self) o → IsRead (Expands l.left) l.origin 0 l.text (state l.fn.self) o;
}

abbrev pub decreases-read-loop-rest : goal.decreases-read-loop-rest
decreases-read-loop-rest l = length l.rest
