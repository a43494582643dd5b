-- The loop reads a list of expressions as its rule does.
use Rattle.std.proofs.Common.{sym, map}
use Rattle.std.proofs.lemmas.Result.{err_from_is_err_and}
use Rattle.grammar.proofs.Loops.{list_goes_on, list_ends, list_fails, list_advances}
use Rattle.vl_token.specs.declared.symbols.Symbol.TheVariants as symbol
use Rattle.vl_token.specs.Seen.{lexeme}
use Rattle.vl_tree.specs.Expressions.{expression_to}
use Rattle.vl_tree.specs.Kinds.{kind_of, is_symbol}
use Rattle.vl_tree.specs.Seen.{view_expression}
use Rattle.vl_tree.proofs.Lists.{comma_expression}
use Rattle.vl_terms.proofs.expressions.+expression.Goals as goal

pub expressions_to-returns-in_err-part : goal.expressions_to-returns-in_err-part
expressions_to-returns-in_err-part t c =
    let e = err_from_is_err_and c.from_residual-in_err-part.result c.from_residual-in_err-part.ensures.1 in
    rw (e.1, e.2) (list_fails kind_of (expression_to c.args.depth) (is_symbol symbol.Comma) (comma_expression c.args.depth) (map lexeme c.args.tokens.now) view_expression _ c.more.parts.items c.more.next _ (sym c.more-test.ensures) c.in_err-part.ensures c.more.invariant)

pub expressions_to-more-smaller : goal.expressions_to-more-smaller
expressions_to-more-smaller t c = list_advances kind_of (expression_to c.args.depth) (is_symbol symbol.Comma) (comma_expression c.args.depth) (map lexeme c.args.tokens.now) view_expression c.more.next _ c.in_ok-part.after (sym c.more-test.ensures) c.in_ok-part.ensures

pub expressions_to-more-preserved : goal.expressions_to-more-preserved
expressions_to-more-preserved t c =
    rw c.in_ok-push-2.ensures.items
    (list_goes_on kind_of (expression_to c.args.depth) (is_symbol symbol.Comma) (comma_expression c.args.depth) (map lexeme c.args.tokens.now) view_expression _ c.more.parts.items c.more.next c.in_ok-part.part c.in_ok-part.after (sym c.more-test.ensures) c.in_ok-part.ensures c.more.invariant)

pub expressions_to-returns : goal.expressions_to-returns
expressions_to-returns t c =
    rw c.shrink_to_fit.ensures.items
    (list_ends kind_of (expression_to c.args.depth) (is_symbol symbol.Comma) (comma_expression c.args.depth) (map lexeme c.args.tokens.now) view_expression _ c.more.parts.items c.more.next (sym c.more-test.ensures) c.more.invariant)
