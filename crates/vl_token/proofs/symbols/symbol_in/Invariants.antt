use Rattle.std.proofs.Common.{◌≡◌, length, map}
use Rattle.vl_token.specs.Symbols.{symbol_in}
use Rattle.vl_token.specs.Seen.{row}
use Rattle.vl_token.proofs.symbols.symbol_in.Given as goal

abbrev pub invariant-loop-rest : goal.invariant-loop-rest
invariant-loop-rest l = symbol_in l.bytes (map row l.rest) ≡ symbol_in l.bytes (map row l.rows)

abbrev pub decreases-loop-rest : goal.decreases-loop-rest
decreases-loop-rest l = length l.rest
