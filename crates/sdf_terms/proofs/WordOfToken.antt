-- The word of a condition that a token is alone.
use Rattle.std.proofs.Common.{◌≡◌, ℕ, Bool, true, false, List, Option, Some, None, Result, Ok, Err, refl, sym}
use Rattle.std.specs.Prelude.{IfOk, slice_get, if◌then◌else◌}
use Rattle.std.specs.Borrow.{Bor}
use Rattle.cond_expr.specs.Vocabulary.{is_word}
use Rattle.cond_expr.specs.WordReading.{IsWordAlone}
use Rattle.cond_expr.specs.declared.tokens.Tok as over
use Rattle.sdf_lex.specs.Tokens.{Lexeme}
use Rattle.sdf_tree.specs.Conditions.{vocabulary, tok_of}
use Rattle.sdf_tree.specs.Kinds.{kind_of}
use Rattle.sdf_tree.specs.Seen.{view_tok}
use Rattle.sdf_terms.specs.Conditions.{seen, word_alone}

module _ (ts : List Lexeme) (i : ℕ) where
  pub no_token : (E : Type 0) → slice_get ts i ≡ None → IsWordAlone {E = E} vocabulary view_tok ts i (Ok None)
  no_token E at = rw at refl

  pub token_there : (E : Type 0) (t : Lexeme) (o : Option (over.Tok (Bor (List ℕ)))) → slice_get ts i ≡ Some t → seen o ≡ word_alone t.meaning → IsWordAlone {E = E} vocabulary view_tok ts i (Ok o)
  token_there E t None at e = go (is_word vocabulary (kind_of t)) refl (sym e)
    where
      go : (b : Bool) → is_word vocabulary (kind_of t) ≡ b → (if b then Some (tok_of t.meaning) else None) ≡ None → IsWordAlone {E = E} vocabulary view_tok ts i (Ok None)
      go true b e = absurd cc
      go false b e = rw (at, b) refl
  token_there E t (Some w) at e = go (is_word vocabulary (kind_of t)) refl (sym e)
    where
      go : (b : Bool) → is_word vocabulary (kind_of t) ≡ b → (if b then Some (tok_of t.meaning) else None) ≡ Some (view_tok w) → IsWordAlone {E = E} vocabulary view_tok ts i (Ok (Some w))
      go true b e = (rw (at, b) refl, rw at e)
      go false b e = absurd cc

  -- what the token there is found to be
  pub word_is : {E : Type 0} (t : Lexeme) (found : Result (Option (over.Tok (Bor (List ℕ)))) E) → slice_get ts i ≡ Some t → IfOk found (λ o. seen o ≡ word_alone t.meaning) → IsWordAlone vocabulary view_tok ts i found
  word_is {E} t (Ok o) at e = token_there E t o at e
  word_is {E} t (Err f) at e = tt
