-- The tokens of a word, one after another.
use Rattle.std.proofs.Common.{◌≡◌, ℕ, ◌+◌, ◌<◌, List, [], ◌∷◌, ◌++◌, length, take, drop, sym, ap, ◌∙◌, arith}
use Rattle.std.specs.Prelude.{ℤ, Option, Some, None}
use Rattle.std.proofs.lemmas.List.{length-take, append_assoc}
use Rattle.sdf_lex.specs.Tokens.{Lexeme, word_token, selected_token, select_token}
use Rattle.sdf_lex.specs.Words.{index_of}
use Rattle.sdf_lex.specs.Pieces.{here, select_tokens}
use Rattle.sdf_lex.specs.PieceBridge.{bracket_tokens}

pub no_select : (at n : ℕ) (bytes : List ℕ) (bracket : Option ℕ) → bracket ≡ Some n → index_of (drop (n + 1) bytes) ≡ None → bracket_tokens at bytes bracket ≡ here (word_token bytes) at ∷ []
no_select at n bytes bracket b h = ap (λ o. bracket_tokens at bytes o) b ∙ ap (λ o. select_tokens at bytes (take n bytes) o) h

pub some_select : (at n : ℕ) (bytes : List ℕ) (bracket : Option ℕ) (index : ℤ) → bracket ≡ Some n → n < length bytes → index_of (drop (n + 1) bytes) ≡ Some index
    → bracket_tokens at bytes bracket ≡ here (selected_token bytes (take n bytes)) at ∷ here (select_token index) (at + n) ∷ []
some_select at n bytes bracket index b lt h =
    let size : length (take n bytes) ≡ n = omega (arith, length-take n bytes) in
    ap (λ o. bracket_tokens at bytes o) b ∙ ap (λ o. select_tokens at bytes (take n bytes) o) h
    ∙ ap (λ k. here (selected_token bytes (take n bytes)) at ∷ here (select_token index) (at + k) ∷ []) size

pub two_pushed : (old two three ts : List Lexeme) (a b : Lexeme) → two ≡ old ++ a ∷ [] → three ≡ two ++ b ∷ [] → ts ≡ a ∷ b ∷ [] → three ≡ old ++ ts
two_pushed old two three ts a b first last both = last ∙ ap (λ xs. xs ++ b ∷ []) first ∙ append_assoc old (a ∷ []) (b ∷ []) ∙ ap (λ xs. old ++ xs) (sym both)
