-- A piece's tokens, and how deep they stand.
use Rattle.std.proofs.Common.{◌∙◌, ap, drop, refl}
use Rattle.std.proofs.lemmas.List.{take_rest}
use Rattle.sdf_stream.proofs.Passing.{stepped}
use Rattle.sdf_stream.proofs.lexing.step.Goals as goal

pub returns : goal.returns
returns c =
    let a = c.args.window.now in
    let size = c.in-Ok.size in
    let count = c.len-before.result in
    let d = c.in_ok-depth.ensures in
    stepped a _ size count c.lex_piece.new.tokens.items _ c.in-Ok.ensures.found refl refl (take_rest a.rest.now size) c.in-Ok.ensures.size (c.len-before.ensures ∙ a.tokens.ok.0) (take_rest c.deref.result.now count ∙ ap (drop count) c.deref.ensures.value) d.1 d.2
