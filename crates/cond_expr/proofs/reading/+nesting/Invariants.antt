-- Each parenthesis or unary operator takes one of the depth.
use Rattle.std.proofs.Common.{◌≡◌, ◌+◌, ◌-◌, ◌*◌, length, reverse}
use Rattle.cond_expr.specs.Begun.{completed}
use Rattle.cond_expr.specs.Tree.{view}
use Rattle.cond_expr.specs.Grammar.{primary, level_parts}
use Rattle.cond_expr.proofs.reading.+nesting.Given as goal

abbrev pub decreases-expression : goal.decreases-expression
decreases-expression l = 2 * l.depth + 1

abbrev pub decreases-primary : goal.decreases-primary
decreases-primary l = 2 * l.depth

-- the tokens that are left make of the chains and the last part what is read of the whole
abbrev pub invariant-expression-more : goal.invariant-expression-more
invariant-expression-more l = completed (reverse l.begun.items) 0 l.depth l.tokens (view l.last) l.next ≡ (level_parts 6 (primary l.depth)).read l.tokens l.at

abbrev pub decreases-expression-more : goal.decreases-expression-more
decreases-expression-more l = length l.tokens - l.next
