-- The tokens that are left, with so many parentheses open, end where all do.
use Rattle.std.proofs.Common.{◌≡◌, ◌-◌, ◌≤◌, length, map}
use Rattle.sdf_lex.specs.Seen.{lexeme}
use Rattle.sdf_tree.specs.Values as values
use Rattle.sdf_terms.proofs.BalancedTokens.{left_over}
use Rattle.sdf_terms.proofs.balanced.balanced.Given as goal

abbrev pub invariant-more : goal.invariant-more
invariant-more l = record {
  rest : left_over (map lexeme l.tokens) l.unclosed l.next ≡ values.balanced.read (map lexeme l.tokens) l.at;
  few : l.unclosed ≤ l.next;
  within : l.unclosed ≤ length (map lexeme l.tokens);
}

abbrev pub decreases-more : goal.decreases-more
decreases-more l = length (map lexeme l.tokens) - l.next
