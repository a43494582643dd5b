-- The loop reads a list as its rule does.
use Rattle.std.proofs.Common.{sym, map}
use Rattle.std.proofs.lemmas.Result.{err_from_is_err_and}
use Rattle.grammar.proofs.Loops.{list_goes_on, list_ends, list_fails, list_advances}
use Rattle.vl_token.specs.declared.symbols.Symbol.TheVariants as symbol
use Rattle.vl_token.specs.Seen.{lexeme}
use Rattle.vl_tree.specs.Kinds.{kind_of, is_symbol}
use Rattle.vl_terms.proofs.lists.listed.Goals as goal

pub returns-in_err-part : goal.returns-in_err-part
returns-in_err-part g c =
    let p = g.P.ListPart in
    let e = err_from_is_err_and c.from_residual-in_err-part.result c.from_residual-in_err-part.ensures.1 in
    rw (e.1, e.2) (list_fails kind_of p.rule (is_symbol symbol.Comma) c.requires (map lexeme c.args.tokens.now) p.view _ c.more.parts.items c.more.next _ (sym c.more-test.ensures) c.in_err-part.ensures c.more.invariant)

pub more-smaller : goal.more-smaller
more-smaller g c =
    let p = g.P.ListPart in
    list_advances kind_of p.rule (is_symbol symbol.Comma) c.requires (map lexeme c.args.tokens.now) p.view c.more.next _ c.in_ok-part.after (sym c.more-test.ensures) c.in_ok-part.ensures

pub more-preserved : goal.more-preserved
more-preserved g c =
    let p = g.P.ListPart in
    rw c.in_ok-push-2.ensures.items
    (list_goes_on kind_of p.rule (is_symbol symbol.Comma) c.requires (map lexeme c.args.tokens.now) p.view _ c.more.parts.items c.more.next c.in_ok-part.part c.in_ok-part.after (sym c.more-test.ensures) c.in_ok-part.ensures c.more.invariant)

pub returns : goal.returns
returns g c =
    let p = g.P.ListPart in
    rw c.shrink_to_fit.ensures.items
    (list_ends kind_of p.rule (is_symbol symbol.Comma) c.requires (map lexeme c.args.tokens.now) p.view _ c.more.parts.items c.more.next (sym c.more-test.ensures) c.more.invariant)
