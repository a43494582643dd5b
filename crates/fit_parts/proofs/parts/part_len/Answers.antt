-- Up to the first token that ends a part, or all.
use Rattle.std.proofs.Common.{◌∙◌, ap, sym, length}
use Rattle.vl_token.specs.Seen.{lexeme}
use Rattle.fit_parts.specs.Parts.{is_end}
use Rattle.fit_parts.proofs.CutLaws.{front-is, len_behind}
use Rattle.fit_parts.proofs.parts.part_len.Goals as goal

pub returns-in-Some-clause-len : goal.returns-in-Some-clause-len
returns-in-Some-clause-len c =
    ap (λ o. len_behind o (length c.args.tokens.now)) (sym c.in-Some.is) ∙ front-is (λ t. is_end (lexeme t)) c.args.tokens.now c.end_place.result c.end_place.ensures.place

pub returns-in-None-clause-len : goal.returns-in-None-clause-len
returns-in-None-clause-len c =
    ap (λ o. len_behind o (length c.args.tokens.now)) (sym c.in-None.is) ∙ front-is (λ t. is_end (lexeme t)) c.args.tokens.now c.end_place.result c.end_place.ensures.place
