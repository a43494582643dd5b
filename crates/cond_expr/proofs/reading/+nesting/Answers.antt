-- An expression is its first part, and the loop's parts after it.
use Rattle.std.proofs.Common.{arith}
use Rattle.std.proofs.lemmas.Result.{err_from_is_err_and}
use Rattle.std.proofs.lemmas.Option.{slice_get_within}
use Rattle.cond_expr.proofs.BegunLaws.{first_read, first_fails, next_behind, all_read}
use Rattle.cond_expr.proofs.reading.+nesting.Goals as goal

pub expression-more-init : goal.expression-more-init
expression-more-init t c = first_read _ _ _ _ _ _ c.new-begun.ensures.items c.in_ok-last.ensures

pub expression-returns-in_err-last : goal.expression-returns-in_err-last
expression-returns-in_err-last t c =
    let p = err_from_is_err_and c.from_residual.result c.from_residual.ensures.1 in
    rw (p.1, p.2) (first_fails _ _ _ _ c.in_err-last.ensures)

pub expression-overflow_add-next : goal.expression-overflow_add-next
expression-overflow_add-next t c = omega (arith, slice_get_within c.args.tokens.now c.more.next _ c.in-Some.ensures.some.0)

pub expression-more-smaller : goal.expression-more-smaller
expression-more-smaller t c =
    let within = slice_get_within c.args.tokens.now c.more.next _ c.in-Some.ensures.some.0 in
    let more = next_behind _ _ _ _ _ c.in_ok-part.ensures in
    omega (arith, within, more.0)

pub expression-returns : goal.expression-returns
expression-returns t c = all_read _ _ _ _ _ _ _ _ c.in_ok-joined.ensures.same c.in_ok-joined.ensures.none c.in_default.ensures.none c.more.invariant
