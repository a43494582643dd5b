-- So many parentheses are open after the tokens so far.
use Rattle.std.proofs.Common.{◌≡◌, ℕ, ◌+◌, ◌≤◌, take}
use Rattle.cond_expr.specs.Same.{lefts, rights}
use Rattle.written_entries.proofs.conditions.is_balanced.Given as goal

abbrev pub invariant-loop-token : goal.invariant-loop-token
invariant-loop-token l = record {
  open_ones : l.unclosed + rights (take l.token-index l.tokens) ≡ lefts (take l.token-index l.tokens);
  fronts : (k : ℕ) → k ≤ l.token-index → rights (take k l.tokens) ≤ lefts (take k l.tokens);
  few : l.unclosed ≤ l.token-index;
}
