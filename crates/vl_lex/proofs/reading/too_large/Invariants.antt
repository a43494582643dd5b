use Rattle.std.proofs.Common.{◌≡◌, ◌+◌, ◌^◌, length}
use Rattle.vl_lex.specs.Lexes.{too_large}
use Rattle.vl_lex.specs.Seen.{texts}
use Rattle.vl_lex.proofs.reading.too_large.Given as goal

abbrev pub invariant-loop-rest : goal.invariant-loop-rest
invariant-loop-rest l = record {
  place : l.file + length l.rest ≡ length l.files;
  same : too_large (2 ^ 28) l.file (texts l.rest) ≡ too_large (2 ^ 28) 0 (texts l.files);
}

abbrev pub decreases-loop-rest : goal.decreases-loop-rest
decreases-loop-rest l = length l.rest
