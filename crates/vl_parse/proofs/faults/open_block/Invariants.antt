-- No block begins or ends from the position on that was looked at last.
use Rattle.std.proofs.Common.{◌≤◌, map}
use Rattle.vl_token.specs.Seen.{lexeme}
use Rattle.vl_parse.specs.Opened.{NoneFrom}
use Rattle.vl_parse.proofs.faults.open_block.Given as goal

abbrev pub invariant-loop-start : goal.invariant-loop-start
invariant-loop-start l = (l.start ≤ l.at) × NoneFrom (map lexeme l.tokens) l.start l.at

abbrev pub decreases-loop-start : goal.decreases-loop-start
decreases-loop-start l = l.start
