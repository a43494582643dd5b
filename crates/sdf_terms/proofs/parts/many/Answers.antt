-- The loop reads a repetition as its rule does.
use Rattle.std.proofs.Common.{sym, map}
use Rattle.std.proofs.lemmas.Result.{err_from_is_err_and}
use Rattle.grammar.proofs.Loops.{many_begins, many_goes_on, many_ends, many_fails, many_advances}
use Rattle.sdf_lex.specs.Seen.{lexeme}
use Rattle.sdf_tree.specs.Kinds.{kind_of}
use Rattle.sdf_terms.proofs.Starts.{starts_there}
use Rattle.sdf_terms.proofs.parts.many.Goals as goal

pub more-init : goal.more-init
more-init g c =
    let p = g.P.Part in
    rw c.new-parts.ensures.items (many_begins kind_of (p.rule c.args.form) c.requires.exact c.requires.full (map lexeme c.args.tokens.now) p.view c.args.at)

pub returns-in_err-part : goal.returns-in_err-part
returns-in_err-part g c =
    let p = g.P.Part in
    let e = err_from_is_err_and c.from_residual.result c.from_residual.ensures.1 in
    rw (e.1, e.2)
    (many_fails kind_of (p.rule c.args.form) c.requires.exact c.requires.full (map lexeme c.args.tokens.now) p.view _ c.more.parts.items c.more.next _ (starts_there (p.rule c.args.form) c.requires.begins (map lexeme c.args.tokens.now) c.more.next (sym c.more-test.ensures)) c.in_err-part.ensures c.more.invariant)

pub more-smaller : goal.more-smaller
more-smaller g c =
    let p = g.P.Part in
    many_advances kind_of (p.rule c.args.form) c.requires.exact c.requires.full (map lexeme c.args.tokens.now) p.view c.more.next _ c.in_ok-part.after (starts_there (p.rule c.args.form) c.requires.begins (map lexeme c.args.tokens.now) c.more.next (sym c.more-test.ensures)) c.in_ok-part.ensures

pub more-preserved : goal.more-preserved
more-preserved g c =
    let p = g.P.Part in
    rw c.in_ok-push.ensures.items
    (many_goes_on kind_of (p.rule c.args.form) c.requires.exact c.requires.full (map lexeme c.args.tokens.now) p.view _ c.more.parts.items c.more.next c.in_ok-part.part c.in_ok-part.after (starts_there (p.rule c.args.form) c.requires.begins (map lexeme c.args.tokens.now) c.more.next (sym c.more-test.ensures)) c.in_ok-part.ensures c.more.invariant)

pub returns : goal.returns
returns g c =
    let p = g.P.Part in
    rw c.shrink_to_fit.ensures.items
    (many_ends kind_of (p.rule c.args.form) c.requires.exact c.requires.full (map lexeme c.args.tokens.now) p.view _ c.more.parts.items c.more.next (starts_there (p.rule c.args.form) c.requires.begins (map lexeme c.args.tokens.now) c.more.next (sym c.more-test.ensures)) c.more.invariant)
