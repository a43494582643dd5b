-- What is read from the state on, after the words so far, is the whole condition.
use Rattle.std.proofs.Common.{◌≡◌, ◌-◌, ◌≤◌, length, map, Some}
use Rattle.cond_expr.proofs.WordReading.{rest_of_words}
use Rattle.vl_token.specs.Seen.{lexeme}
use Rattle.vl_tree.specs.Conditions.{condition, vocabulary}
use Rattle.vl_tree.specs.Seen.{view_word}
use Rattle.vl_terms.proofs.conditions.condition.Given as goal

abbrev pub invariant-more : goal.invariant-more
invariant-more l = record {
  rest : rest_of_words vocabulary view_word (map lexeme l.tokens) l.words.items (Some (l.unclosed, l.phase)) l.next ≡ condition.read (map lexeme l.tokens) l.at;
  few : l.unclosed ≤ l.next;
  within : l.unclosed ≤ length (map lexeme l.tokens);
}

abbrev pub decreases-more : goal.decreases-more
decreases-more l = length (map lexeme l.tokens) - l.next
