-- Each round takes a token.
use Rattle.std.specs.Prelude.{length}
use Rattle.fit_checks.proofs.reading.terminal_of.Given as goal

abbrev pub decreases-loop-ahead : goal.decreases-loop-ahead
decreases-loop-ahead l = length l.ahead
