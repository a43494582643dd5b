use Rattle.std.proofs.Common.{◌∙◌, ◌+◌, ◌<◌, ◌≡◌, sym, ap, map, take, length, w64, to_z, of_z, arith}
use Rattle.std.proofs.lemmas.Int.{to_z-of_z}
use Rattle.std.proofs.lemmas.List.{take_rest}
use Rattle.std.proofs.lemmas.Result.{on_ok_weaker}
use Rattle.sdf_lex.specs.Tokens.{selected_token, select_token}
use Rattle.sdf_lex.specs.Words.{index_of}
use Rattle.sdf_lex.specs.Pieces.{here}
use Rattle.sdf_lex.specs.Seen.{lexeme}
use Rattle.sdf_lex.specs.PieceBridge.{bracket_tokens}
use Rattle.sdf_lex.proofs.PushLaws.{no_select, some_select, two_pushed}
use Rattle.sdf_lex.proofs.reading.push_word.Goals as goal

pub returns-in_default-index_of : goal.returns-in_default-index_of
returns-in_default-index_of c =
    rw (no_select c.args.at c.in-Some.n c.args.bytes.now c.args.bracket c.in-Some.is (ap (λ xs. index_of xs) (sym (take_rest c.args.bytes.now (c.in-Some.n + 1))) ∙ sym c.index_of.ensures ∙ c.in_default-index_of.is)) c.push-in_default-index_of.ensures

pub returns : goal.returns
returns c =
    let a = c.args in
    let n = c.in-Some.n in
    let whole : to_z w64 (of_z w64 c.in-Some-index_of.index) ≡ c.in-Some-index_of.index = grind (arith, to_z-of_z) in
    let lt : n < length a.bytes.now = rw c.in-Some.is at c.requires.inside in
    on_ok_weaker c.push-3.result
    (λ last. two_pushed (map lexeme a.tokens.now.items) (map lexeme c.push-2.new.tokens.items) (map lexeme c.push-3.new.tokens.items) (bracket_tokens a.at a.bytes.now a.bracket)
    (here (selected_token a.bytes.now (take n a.bytes.now)) a.at) (here (select_token c.in-Some-index_of.index) (a.at + n)) c.in_ok-push.ensures last
    (some_select a.at n a.bytes.now a.bracket c.in-Some-index_of.index c.in-Some.is lt (ap (λ xs. index_of xs) (sym (take_rest a.bytes.now (n + 1))) ∙ sym c.index_of.ensures ∙ c.in-Some-index_of.is)))
    (rw whole at c.push-3.ensures)
