-- One more part, or the end.
use Rattle.std.proofs.Common.{length, map, sym, ◌∙◌, arith}
use Rattle.std.proofs.lemmas.List.{length-map}
use Rattle.std.proofs.lemmas.Result.{err_from_is_err_and}
use Rattle.sdf_lex.specs.Seen.{lexeme}
use Rattle.sdf_tree.specs.Seen.{view_delay}
use Rattle.sdf_read.specs.Tails.{view_tail}
use Rattle.sdf_read.proofs.PathTails.{none_kept, still, kept_fails, part_goes_on, part_fails, part_advances, parts_end, parts_refused}
use Rattle.sdf_read.proofs.tails.tail.Goals as goal

pub more-init : goal.more-init
more-init c = rw (c.new-retains.ensures.items, c.new-delays.ensures.items) (none_kept c.args.limited (map lexeme c.args.tokens.now) c.args.at)

pub returns-in_err-next : goal.returns-in_err-next
returns-in_err-next c =
    let p = err_from_is_err_and c.from_residual.result c.from_residual.ensures.1 in
    rw (p.1, p.2) (kept_fails _ _ (part_fails c.args.limited (map lexeme c.args.tokens.now) _ (view_tail c.more.tail) c.more.next (length c.more.tail.delays.items) (omega (arith, length-map c.more.tail.delays.items view_delay)) c.more.invariant _ (still c.args.limited (map lexeme c.args.tokens.now) c.more.next (omega (arith, c.len.ensures, c.more.tail.delays.ok.0)) (sym c.part_comes.ensures ∙ c.more-test.true)) c.in_err-next.ensures))

pub more-smaller : goal.more-smaller
more-smaller c = part_advances c.args.limited (map lexeme c.args.tokens.now) _ (view_tail c.more.tail) c.more.next (length c.more.tail.delays.items) (omega (arith, length-map c.more.tail.delays.items view_delay)) c.more.invariant _ _ (still c.args.limited (map lexeme c.args.tokens.now) c.more.next (omega (arith, c.len.ensures, c.more.tail.delays.ok.0)) (sym c.part_comes.ensures ∙ c.more-test.true)) c.in_ok-next.ensures.2

pub more-preserved : goal.more-preserved
more-preserved c = part_goes_on c.args.limited (map lexeme c.args.tokens.now) _ (view_tail c.more.tail) c.more.next (length c.more.tail.delays.items) (omega (arith, length-map c.more.tail.delays.items view_delay)) c.more.invariant _ _ _ (still c.args.limited (map lexeme c.args.tokens.now) c.more.next (omega (arith, c.len.ensures, c.more.tail.delays.ok.0)) (sym c.part_comes.ensures ∙ c.more-test.true)) c.in_ok-next.ensures.1 c.in_ok-next.ensures.2

pub returns-then-not-may_end : goal.returns-then-not-may_end
returns-then-not-may_end c = parts_refused c.args.limited (map lexeme c.args.tokens.now) _ (view_tail c.more.tail) c.more.next c.len.result (omega (arith, c.len.ensures, c.more.tail.delays.ok.0, length-map c.more.tail.delays.items view_delay)) c.more.invariant c.len-2.result (omega (arith, c.len-2.ensures, c.more.tail.delays.ok.0, length-map c.more.tail.delays.items view_delay)) (sym c.part_comes.ensures ∙ c.more-test.false) (sym c.may_end.ensures ∙ c.if-not-may_end.true)

pub returns : goal.returns
returns c = rw (c.shrink_to_fit.ensures.items, c.shrink_to_fit-2.ensures.items) (parts_end c.args.limited (map lexeme c.args.tokens.now) _ (view_tail c.more.tail) c.more.next c.len.result (omega (arith, c.len.ensures, c.more.tail.delays.ok.0, length-map c.more.tail.delays.items view_delay)) c.more.invariant c.len-2.result (omega (arith, c.len-2.ensures, c.more.tail.delays.ok.0, length-map c.more.tail.delays.items view_delay)) (sym c.part_comes.ensures ∙ c.more-test.false) (sym c.may_end.ensures ∙ c.if-not-may_end.false))
