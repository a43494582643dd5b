-- A condition among the tokens of netlists is read exactly.
use Rattle.std.proofs.Common.{◌≡◌, ℕ, Bool, true, false, List, Some, None, refl, ap, ◌∙◌}
use Rattle.std.specs.Prelude.{◌==◌, unwrap_or}
use Rattle.cond_expr.specs.declared.tokens.Tok.TheVariants as tok
use Rattle.cond_expr.specs.Kinds as words
use Rattle.cond_expr.specs.WordStates.{IsVocabulary}
use Rattle.cond_expr.proofs.Words.{worded-exact}
use Rattle.vl_token.specs.declared.symbols.Symbol.{Symbol}
use Rattle.vl_token.specs.declared.symbols.Symbol.TheVariants as symbol
use Rattle.vl_token.specs.Symbols.{symbol_number}
use Rattle.vl_token.specs.Tokens.{Lexeme, Meaning, module_word, word_token, left_out_token, name_token, system_token, other_token, number_token, sized_token, unsized_token, pair_token, symbol_token, byte_token}
use Rattle.vl_tree.specs.Conditions.{word_of_symbol, class_of_symbol, class_of, tok_of, index_parts, index, vocabulary, condition_parts, condition}
use Rattle.vl_tree.specs.Kinds.{Kind, BitsKind, one_bit, z_bit, other_bits, name_kind, symbol_kind, number_kind, sized_kind, unsized_kind, kind_of_meaning, is_symbol}
use Rattle.vl_tree.specs.Tree.{Word}
use Rattle.vl_tree.proofs.AllKinds.{apart, is_within}
use Rattle.vl_tree.proofs.Building.{IsExact, the_mark, made, behind, before, called, with_place}
use Rattle.vl_tree.proofs.ExpressionsExact.{int-exact}

pub index-exact : IsExact index
unfolding index_parts
index-exact =
    called _ _ (made _ (with_place (behind (the_mark symbol.LeftBracket) (before int-exact (the_mark symbol.RightBracket) (apart _ _ refl)) (apart _ _ refl)) refl)) refl (is_within _ _ refl) (is_within _ _ refl)

-- ---- the class of a token is the class of its word

no_class : (c : words.Kind) → None ≡ Some c → ⊥
no_class c e = cc

only_class : (c d : words.Kind) → Some c ≡ Some d → c ≡ d
only_class c d e = cc

not_index : (c : words.Kind) → Some words.index_kind ≡ Some c → words.is_index c ≡ false → ⊥
not_index c e h = let f : true ≡ false = ap words.is_index (only_class words.index_kind c e) ∙ h in cc

class_of_name : (pulse : Bool) (c : words.Kind) → class_of (name_kind pulse) ≡ Some c → words.name_kind ≡ c
class_of_name false c e = only_class words.name_kind c e
class_of_name true c e = absurd (no_class c e)

class_of_number : (whole bit : Bool) (c : words.Kind) → class_of (number_kind whole bit) ≡ Some c → words.constant_kind ≡ c
class_of_number true true c e = only_class words.constant_kind c e
class_of_number true false c e = absurd (no_class c e)
class_of_number false true c e = absurd (no_class c e)
class_of_number false false c e = absurd (no_class c e)

class_of_sized : (bits : BitsKind) (c : words.Kind) → class_of (sized_kind bits) ≡ Some c → words.constant_kind ≡ c
class_of_sized one_bit c e = only_class words.constant_kind c e
class_of_sized z_bit c e = only_class words.constant_kind c e
class_of_sized other_bits c e = absurd (no_class c e)

class_of_unsized : (bits : BitsKind) (c : words.Kind) → class_of (unsized_kind bits) ≡ Some c → words.constant_kind ≡ c
class_of_unsized one_bit c e = only_class words.constant_kind c e
class_of_unsized z_bit c e = only_class words.constant_kind c e
class_of_unsized other_bits c e = absurd (no_class c e)

class_of_mark : (s : Symbol) (c : words.Kind) → class_of_symbol s ≡ Some c → words.is_index c ≡ false → words.kind_of (unwrap_or (word_of_symbol s) tok.Left) ≡ c
class_of_mark symbol.Parallel c e h = absurd (no_class c e)
class_of_mark symbol.Full c e h = absurd (no_class c e)
class_of_mark symbol.AndAndAnd c e h = absurd (no_class c e)
class_of_mark symbol.AndAnd c e h = only_class _ c e
class_of_mark symbol.And c e h = only_class _ c e
class_of_mark symbol.OrOr c e h = only_class _ c e
class_of_mark symbol.Or c e h = only_class _ c e
class_of_mark symbol.CaseEqual c e h = only_class _ c e
class_of_mark symbol.Equal c e h = only_class _ c e
class_of_mark symbol.Assign c e h = absurd (no_class c e)
class_of_mark symbol.CaseUnequal c e h = only_class _ c e
class_of_mark symbol.Unequal c e h = only_class _ c e
class_of_mark symbol.Bang c e h = only_class _ c e
class_of_mark symbol.TildeXor c e h = only_class _ c e
class_of_mark symbol.XorTilde c e h = only_class _ c e
class_of_mark symbol.Xor c e h = only_class _ c e
class_of_mark symbol.Tilde c e h = only_class _ c e
class_of_mark symbol.LeftParen c e h = only_class _ c e
class_of_mark symbol.RightParen c e h = only_class _ c e
class_of_mark symbol.LeftBracket c e h = absurd (not_index c e h)
class_of_mark symbol.RightBracket c e h = absurd (no_class c e)
class_of_mark symbol.LeftBrace c e h = absurd (no_class c e)
class_of_mark symbol.RightBrace c e h = absurd (no_class c e)
class_of_mark symbol.Comma c e h = absurd (no_class c e)
class_of_mark symbol.Semicolon c e h = absurd (no_class c e)
class_of_mark symbol.Colon c e h = absurd (no_class c e)
class_of_mark symbol.Point c e h = absurd (no_class c e)
class_of_mark symbol.Hash c e h = absurd (no_class c e)
class_of_mark symbol.Plus c e h = absurd (no_class c e)
class_of_mark symbol.Minus c e h = absurd (no_class c e)

class_of_tok : (m : Meaning) (c : words.Kind) → class_of (kind_of_meaning m) ≡ Some c → words.is_index c ≡ false → words.kind_of (tok_of m) ≡ c
class_of_tok (name_token text) c e h = class_of_name _ c e
class_of_tok (symbol_token s) c e h = class_of_mark s c e h
class_of_tok (number_token n whole) c e h = class_of_number _ _ c e
class_of_tok (sized_token bits) c e h = class_of_sized _ c e
class_of_tok (unsized_token bits) c e h = class_of_unsized _ c e
class_of_tok (module_word s) c e h = absurd (no_class c e)
class_of_tok (word_token w) c e h = absurd (no_class c e)
class_of_tok (left_out_token text) c e h = absurd (no_class c e)
class_of_tok (system_token text) c e h = absurd (no_class c e)
class_of_tok (other_token text) c e h = absurd (no_class c e)
class_of_tok (pair_token from to) c e h = absurd (no_class c e)
class_of_tok (byte_token b) c e h = absurd (no_class c e)

index_is : (ts : List Lexeme) (i : ℕ) (x : Word) (j : ℕ) → index.language.Spells ts i x j → words.kind_of x.token ≡ words.index_kind
unfolding index_parts
index_is ts i x j s = rw (← s.1) refl

bracket_starts : (s : Symbol) → (symbol_number symbol.LeftBracket == symbol_number s) ≡ true → class_of_symbol s ≡ Some words.index_kind
bracket_starts symbol.Parallel h = absurd cc
bracket_starts symbol.Full h = absurd cc
bracket_starts symbol.AndAndAnd h = absurd cc
bracket_starts symbol.AndAnd h = absurd cc
bracket_starts symbol.And h = absurd cc
bracket_starts symbol.OrOr h = absurd cc
bracket_starts symbol.Or h = absurd cc
bracket_starts symbol.CaseEqual h = absurd cc
bracket_starts symbol.Equal h = absurd cc
bracket_starts symbol.Assign h = absurd cc
bracket_starts symbol.CaseUnequal h = absurd cc
bracket_starts symbol.Unequal h = absurd cc
bracket_starts symbol.Bang h = absurd cc
bracket_starts symbol.TildeXor h = absurd cc
bracket_starts symbol.XorTilde h = absurd cc
bracket_starts symbol.Xor h = absurd cc
bracket_starts symbol.Tilde h = absurd cc
bracket_starts symbol.LeftParen h = absurd cc
bracket_starts symbol.RightParen h = absurd cc
bracket_starts symbol.LeftBracket h = refl
bracket_starts symbol.RightBracket h = absurd cc
bracket_starts symbol.LeftBrace h = absurd cc
bracket_starts symbol.RightBrace h = absurd cc
bracket_starts symbol.Comma h = absurd cc
bracket_starts symbol.Semicolon h = absurd cc
bracket_starts symbol.Colon h = absurd cc
bracket_starts symbol.Point h = absurd cc
bracket_starts symbol.Hash h = absurd cc
bracket_starts symbol.Plus h = absurd cc
bracket_starts symbol.Minus h = absurd cc

index_starts : (k : Kind) → is_symbol symbol.LeftBracket k ≡ true → class_of k ≡ Some words.index_kind
index_starts (symbol_kind s) h = bracket_starts s h
index_starts _ h = absurd cc

pub is_vocabulary : IsVocabulary vocabulary
is_vocabulary = record {
  class_of_word = λ t c e h. class_of_tok t.meaning c e h;
  class_of_index = index_is;
  index_exact = index-exact;
  index_full = refl;
  index_starts = index_starts;
  index_closed = λ k. refl;
}

pub condition-exact : IsExact condition
unfolding condition_parts
condition-exact = called _ _ (worded-exact vocabulary is_vocabulary) refl (is_within _ _ refl) (is_within _ _ refl)
