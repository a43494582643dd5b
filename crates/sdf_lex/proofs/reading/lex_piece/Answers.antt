use Rattle.std.proofs.Common.{◌∙◌, sym, refl, take, drop, ◌++◌, map}
use Rattle.sdf_lex.specs.Seen.{lexeme}
use Rattle.sdf_lex.specs.PieceBridge.{kind_tokens}
use Rattle.sdf_lex.proofs.OneReading.{step_on, step_bad}
use Rattle.sdf_lex.proofs.reading.lex_piece.Goals as goal

pub returns-then-is_bad-clause-refused : goal.returns-then-is_bad-clause-refused
returns-then-is_bad-clause-refused c before =
    let p = c.first_piece-kind in
    rw c.fault.ensures (step_bad before c.args.at p.result.0 c.args.rest.now c.requires.some p.ensures.kind (sym c.is_bad.ensures ∙ c.if-is_bad.true))

pub returns-clause-found : goal.returns-clause-found
returns-clause-found c =
    let p = c.first_piece-kind in
    let front = take p.result.1 c.args.rest.now in
    let more = kind_tokens c.args.at p.result.0 front in
    record {
      more = more;
      added = c.in_ok-push_piece.ensures;
      goes_on = λ others o h.
          step_on others (others ++ more) c.args.at p.result.1 p.result.0 c.args.rest.now front (drop p.result.1 c.args.rest.now) o
          c.requires.some p.ensures.kind p.ensures.size (sym c.is_bad.ensures ∙ c.if-is_bad.false) refl refl refl h;
    }
