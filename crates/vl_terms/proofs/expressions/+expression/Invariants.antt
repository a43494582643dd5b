-- Each brace takes a level of depth. The expressions so far with those that are left are all of a list.
use Rattle.std.proofs.Common.{◌≡◌, ◌-◌, ◌+◌, ◌*◌, length, map}
use Rattle.grammar.proofs.Loops.{rest_of_list}
use Rattle.vl_token.specs.declared.symbols.Symbol.TheVariants as symbol
use Rattle.vl_token.specs.Seen.{lexeme}
use Rattle.vl_tree.specs.Expressions.{expression_to}
use Rattle.vl_tree.specs.Kinds.{kind_of, is_symbol}
use Rattle.vl_tree.specs.Rules.{listed}
use Rattle.vl_tree.specs.Seen.{view_expression}
use Rattle.vl_terms.proofs.expressions.+expression.Given as goal

abbrev pub decreases-expression_to : goal.decreases-expression_to
decreases-expression_to l = 2 * l.depth

abbrev pub decreases-expressions_to : goal.decreases-expressions_to
decreases-expressions_to l = 2 * l.depth + 1

abbrev pub invariant-expressions_to-more : goal.invariant-expressions_to-more
invariant-expressions_to-more l = rest_of_list kind_of (expression_to l.depth) (is_symbol symbol.Comma) (map lexeme l.tokens) view_expression l.parts.items l.next ≡ (listed (expression_to l.depth)).read (map lexeme l.tokens) l.at

abbrev pub decreases-expressions_to-more : goal.decreases-expressions_to-more
decreases-expressions_to-more l = length (map lexeme l.tokens) - l.next
