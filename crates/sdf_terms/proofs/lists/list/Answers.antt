-- One more delay, or the end.
use Rattle.std.proofs.Common.{map, sym, ◌∙◌, arith}
use Rattle.std.proofs.lemmas.Result.{err_from_is_err_and}
use Rattle.sdf_lex.specs.Seen.{lexeme}
use Rattle.sdf_tree.specs.Seen.{view_delay}
use Rattle.sdf_terms.proofs.DelayLists.{delays_begin, delays_go_on, delays_fail, delays_advance, delays_end, delays_refused}
use Rattle.sdf_terms.proofs.lists.list.Goals as goal

pub more-init : goal.more-init
more-init c = rw c.new-delays.ensures.items (delays_begin c.args.limited (map lexeme c.args.tokens.now) view_delay c.args.at)

pub returns-in_err-next : goal.returns-in_err-next
returns-in_err-next c =
    let p = err_from_is_err_and c.from_residual.result c.from_residual.ensures.1 in
    rw (p.1, p.2) (delays_fail c.args.limited (map lexeme c.args.tokens.now) view_delay c.more.next c.len.result c.more.delays.items (omega (arith, c.len.ensures, c.more.delays.ok.0)) _ _ (sym c.delay_comes.ensures ∙ c.more-test.true) c.in_err-next.ensures c.more.invariant)

pub more-smaller : goal.more-smaller
more-smaller c = delays_advance c.args.limited (map lexeme c.args.tokens.now) view_delay c.more.next c.len.result c.more.delays.items (omega (arith, c.len.ensures, c.more.delays.ok.0)) _ _ (sym c.delay_comes.ensures ∙ c.more-test.true) c.in_ok-next.ensures.2

pub more-preserved : goal.more-preserved
more-preserved c = rw c.in_ok-next.ensures.1 (delays_go_on c.args.limited (map lexeme c.args.tokens.now) view_delay c.more.next c.len.result c.more.delays.items (omega (arith, c.len.ensures, c.more.delays.ok.0)) _ _ _ (sym c.delay_comes.ensures ∙ c.more-test.true) c.in_ok-next.ensures.2 c.more.invariant)

pub returns-then-not-may_end : goal.returns-then-not-may_end
returns-then-not-may_end c = delays_refused c.args.limited (map lexeme c.args.tokens.now) view_delay c.more.next c.len.result c.more.delays.items (omega (arith, c.len.ensures, c.more.delays.ok.0)) _ c.len-2.result (omega (arith, c.len-2.ensures, c.more.delays.ok.0)) (sym c.delay_comes.ensures ∙ c.more-test.false) c.more.invariant (sym c.may_end.ensures ∙ c.if-not-may_end.true)

pub returns : goal.returns
returns c =
    rw c.shrink_to_fit.ensures.items
    (delays_end c.args.limited (map lexeme c.args.tokens.now) view_delay c.more.next c.len.result c.more.delays.items (omega (arith, c.len.ensures, c.more.delays.ok.0)) _ c.len-2.result (omega (arith, c.len-2.ensures, c.more.delays.ok.0)) (sym c.delay_comes.ensures ∙ c.more-test.false) c.more.invariant (sym c.may_end.ensures ∙ c.if-not-may_end.false))
