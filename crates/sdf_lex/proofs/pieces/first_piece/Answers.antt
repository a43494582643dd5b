use Rattle.std.proofs.Common.{◌∙◌, sym, ℕ, ◌<◌, ◌≤◌, length, subst}
use Rattle.sdf_lex.specs.PieceBridge.{first_piece}
use Rattle.sdf_lex.proofs.CutLaws.{kind_is, size_is, piece_within}
use Rattle.sdf_lex.proofs.OneReading.{found_some, found_within}
use Rattle.sdf_lex.proofs.pieces.first_piece.Goals as goal

pub returns-clause-kind : goal.returns-clause-kind
returns-clause-kind c = c.first_cut.ensures.kind ∙ kind_is c.args.text.now c.requires

pub returns-clause-size : goal.returns-clause-size
returns-clause-size c = c.first_cut.ensures.size ∙ size_is c.args.text.now c.requires

pub returns-clause-some : goal.returns-clause-some
returns-clause-some c = subst (λ (n : ℕ). 0 < n) (sym (c.first_cut.ensures.size ∙ size_is c.args.text.now c.requires)) (found_some c.args.text.now c.requires)

pub returns-clause-within : goal.returns-clause-within
returns-clause-within c = subst (λ (n : ℕ). n ≤ length c.args.text.now) (sym (c.first_cut.ensures.size ∙ size_is c.args.text.now c.requires)) (found_within c.args.text.now c.requires)

pub returns-clause-bracket : goal.returns-clause-bracket
returns-clause-bracket c =
    let kind = c.first_cut.ensures.kind ∙ kind_is c.args.text.now c.requires in
    let size = c.first_cut.ensures.size ∙ size_is c.args.text.now c.requires in
    rw (kind, size) (piece_within (first_piece c.args.text.now))
