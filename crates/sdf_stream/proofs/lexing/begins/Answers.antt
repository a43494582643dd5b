-- Two tokens, each of its kind.
use Rattle.std.proofs.Common.{◌∙◌, arith, map, sym}
use Rattle.std.proofs.lemmas.List.{length-map}
use Rattle.sdf_lex.specs.Seen.{lexeme}
use Rattle.sdf_stream.proofs.Wholes.{two_begin}
use Rattle.sdf_stream.proofs.lexing.begins.Goals as goal

pub returns : goal.returns
returns c = λ t.
    two_begin c.args.word (map lexeme c.args.tokens.now) (omega (arith, c.if-tokens-ne2.false, length-map c.args.tokens.now lexeme)) (sym c.is_left.ensures ∙ c.if-not-is_left.false) (sym c.is_word.ensures ∙ t)
