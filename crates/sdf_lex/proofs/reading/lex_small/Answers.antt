use Rattle.std.proofs.Common.{map}
use Rattle.std.proofs.lemmas.Result.{err_from_is_err_and}
use Rattle.sdf_lex.specs.Seen.{lexeme}
use Rattle.sdf_lex.proofs.OneReading.{refused_so}
use Rattle.sdf_lex.proofs.reading.lex_small.Goals as goal

pub returns-in_err-size : goal.returns-in_err-size
returns-in_err-size c =
    let l = c.loop-rest in
    let before = map lexeme l.tokens.items in
    let p = err_from_is_err_and c.from_residual.result c.from_residual.ensures.1 in
    rw (p.1, p.2) (refused_so c.args.bytes.now l.rest.now before l.at c.in_err-size.field-0.0 l.invariant.so_far (c.in_err-size.ensures.refused before))
