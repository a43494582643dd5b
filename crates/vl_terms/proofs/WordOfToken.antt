-- The word of a condition that a token is alone.
use Rattle.std.proofs.Common.{◌≡◌, ℕ, Bool, true, false, List, [], ◌∷◌, Option, Some, None, Ok, refl}
use Rattle.std.specs.Prelude.{slice_get, if◌then◌else◌}
use Rattle.std.specs.Option.{option_map}
use Rattle.cond_expr.specs.Token.{Tok}
use Rattle.cond_expr.specs.Vocabulary.{is_word}
use Rattle.cond_expr.specs.WordReading.{IsWordAlone}
use Rattle.cond_expr.specs.declared.tokens.Tok.TheVariants as tok
use Rattle.sg_logic.specs.declared.values.Value.{Value}
use Rattle.sg_logic.specs.declared.values.Value.TheVariants.{Zero, One, X, Z}
use Rattle.vl_token.specs.declared.symbols.Symbol.{Symbol}
use Rattle.vl_token.specs.declared.symbols.Symbol.TheVariants as symbol
use Rattle.vl_token.specs.Tokens.{Lexeme, symbol_token, sized_token, unsized_token}
use Rattle.vl_tree.specs.declared.specify.Word as code
use Rattle.vl_tree.specs.Conditions.{vocabulary, tok_of, word_of_symbol}
use Rattle.vl_tree.specs.Kinds.{kind_of}
use Rattle.vl_tree.specs.Seen.{view_word}
use Rattle.vl_terms.specs.Words.{seen, single_bit, word_alone}

pub symbol_alone : (s : Symbol) → word_alone (symbol_token s) ≡ word_of_symbol s
symbol_alone symbol.Parallel = refl
symbol_alone symbol.Full = refl
symbol_alone symbol.AndAndAnd = refl
symbol_alone symbol.AndAnd = refl
symbol_alone symbol.And = refl
symbol_alone symbol.OrOr = refl
symbol_alone symbol.Or = refl
symbol_alone symbol.CaseEqual = refl
symbol_alone symbol.Equal = refl
symbol_alone symbol.Assign = refl
symbol_alone symbol.CaseUnequal = refl
symbol_alone symbol.Unequal = refl
symbol_alone symbol.Bang = refl
symbol_alone symbol.TildeXor = refl
symbol_alone symbol.XorTilde = refl
symbol_alone symbol.Xor = refl
symbol_alone symbol.Tilde = refl
symbol_alone symbol.LeftParen = refl
symbol_alone symbol.RightParen = refl
symbol_alone symbol.LeftBracket = refl
symbol_alone symbol.RightBracket = refl
symbol_alone symbol.LeftBrace = refl
symbol_alone symbol.RightBrace = refl
symbol_alone symbol.Comma = refl
symbol_alone symbol.Semicolon = refl
symbol_alone symbol.Colon = refl
symbol_alone symbol.Point = refl
symbol_alone symbol.Hash = refl
symbol_alone symbol.Plus = refl
symbol_alone symbol.Minus = refl

abbrev constant : Value → Tok
constant v = tok.Const v

pub sized_alone : (bits : List Value) → word_alone (sized_token bits) ≡ option_map (λ v. tok.Const v) (single_bit bits)
sized_alone [] = refl
sized_alone (Zero ∷ []) = refl
sized_alone (One ∷ []) = refl
sized_alone (X ∷ []) = refl
sized_alone (Z ∷ []) = refl
sized_alone (Zero ∷ w ∷ vs) = refl
sized_alone (One ∷ w ∷ vs) = refl
sized_alone (X ∷ w ∷ vs) = refl
sized_alone (Z ∷ w ∷ vs) = refl

pub unsized_alone : (bits : List Value) → word_alone (unsized_token bits) ≡ option_map (λ v. tok.Const v) (single_bit bits)
unsized_alone [] = refl
unsized_alone (Zero ∷ []) = refl
unsized_alone (One ∷ []) = refl
unsized_alone (X ∷ []) = refl
unsized_alone (Z ∷ []) = refl
unsized_alone (Zero ∷ w ∷ vs) = refl
unsized_alone (One ∷ w ∷ vs) = refl
unsized_alone (X ∷ w ∷ vs) = refl
unsized_alone (Z ∷ w ∷ vs) = refl

abbrev chosen : Bool → Tok → Option Tok
chosen b t = if b then Some t else None

is_chosen : (b : Bool) (t u : Tok) → chosen b t ≡ Some u → (b ≡ true) × (t ≡ u)
is_chosen true t u h = (refl, cc)
is_chosen false t u h = absurd cc

module _ (ts : List Lexeme) (i : ℕ) (t : Lexeme) (at : slice_get ts i ≡ Some t) where
  pub word_there : (E : Type 0) (w : code.Word) → word_alone t.meaning ≡ Some (seen w.token) → w.place ≡ t.place → IsWordAlone {E = E} vocabulary view_word ts i (Ok (Some w))
  word_there E w h p =
      let f = is_chosen (is_word vocabulary (kind_of t)) (tok_of t.meaning) (seen w.token) h in
      (rw (at, f.0) refl, rw (at, f.1, p) refl)
