-- Conditions among other tokens, as those of a netlist: a token may begin a word of a condition, and its class says which. The
-- value is the list of the words, as a tree keeps them with their places; of each word a condition's own token is known, and
-- these may nest as deep as they do.
use Rattle.std.specs.Prelude.{◌≡◌, ℕ, Bool, not, List, [], ◌∷◌, ◌++◌, length, map, Option, Some, ◌⊎◌, pos}
use Rattle.grammar.specs.Language.{Language, SpellsMany}
use Rattle.grammar.specs.Rule.{Rule, holds, one, mapped, either}
use Rattle.cond_expr.specs.Token.{Tok}
use Rattle.cond_expr.specs.declared.tokens.Tok.TheVariants as tok
use Rattle.cond_expr.specs.Kinds.{Kind, kind_of, is_index}
use Rattle.cond_expr.specs.Grammar.{condition, IsCondition}

-- What tokens of a type T are as words of conditions, words being of a type W.
pub record Vocabulary (T K W : Type 0) : Type 1 where
  pub kind : T → K
  -- the word that a token of a kind begins, if it begins one
  pub class : K → Option Kind
  -- the word that a token is alone
  pub word : T → W
  -- an index, of one token or of several
  pub index : Rule T K W
  -- the token of a condition that a word is
  pub tok : W → Tok

-- a token that is a word alone
abbrev pub is_word : {T K W : Type 0} → Vocabulary T K W → K → Bool
is_word v k = holds (λ c. not (is_index c)) (v.class k)

-- one word
abbrev pub any_word : {T K W : Type 0} → Vocabulary T K W → Rule T K W
any_word v = either v.kind (mapped v.word (one v.kind (is_word v))) v.index

-- the tokens of a condition that words are
abbrev pub toks : {T K W : Type 0} → Vocabulary T K W → List W → List Tok
toks v xs = map v.tok xs

-- all of these tokens of a condition begin one
abbrev pub BeginsCondition : List Tok → Type 0
BeginsCondition xs = condition.language.Begins xs 0 (length xs)

-- The words of a condition, one after another. What begins one is words that begin a condition and, where an index may stand
-- behind them, what begins an index.
abbrev pub words_of_condition : {T K W : Type 0} → Vocabulary T K W → Language T (List W)
words_of_condition {T} {K} {W} v = record {
  Spells = λ ts i xs j. SpellsMany (any_word v).language ts i xs j × IsCondition (toks v xs);
  Begins = λ ts i j. (xs : List W) × (m : ℕ) × SpellsMany (any_word v).language ts i xs m × BeginsCondition (toks v xs)
      × ((j ≡ m) ⊎ (BeginsCondition (toks v xs ++ tok.Index (pos 0) ∷ []) × v.index.language.Begins ts m j));
}

-- a condition's own tokens: an index is one of them
abbrev pub own_words : Vocabulary Tok Kind Tok
own_words = record { kind = kind_of; class = λ k. Some k; word = λ t. t; index = one kind_of is_index; tok = λ t. t }
