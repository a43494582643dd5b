use Rattle.std.proofs.Common.{◌≡◌, ◌+◌, length, map, []}
use Rattle.sdf_lex.specs.Seen.{lexeme}
use Rattle.sdf_lex.specs.Lexes.{Outcome, LexesFrom}
use Rattle.sdf_lex.proofs.reading.lex_small.Given as goal

-- what comes of the rest comes of the whole
abbrev pub invariant-loop-rest : goal.invariant-loop-rest
invariant-loop-rest l = record {
  place : l.at + length l.rest ≡ length l.bytes;
  so_far : (o : Outcome) → LexesFrom (map lexeme l.tokens.items) l.at l.rest o → LexesFrom [] 0 l.bytes o;
}

abbrev pub decreases-loop-rest : goal.decreases-loop-rest
decreases-loop-rest l = length l.rest
