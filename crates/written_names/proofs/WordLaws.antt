-- What the lexer takes for names and indexes is so in SDF files too: names are texts of names, and indexes are short.
use Rattle.std.specs.Prelude.{◌≡◌, ℕ, zero, suc, ◌<◌, ◌^◌, true, List, [], ◌∷◌, Option, Some, None, Ok, IfSome, slice_get}
use Rattle.std.specs.List.{AllByRecursion}
use Rattle.std.proofs.Common.{subst}
use Rattle.grammar.specs.Rule.{◌∙∙◌, one as one_of}
use Rattle.vl_lex.specs.Lexes.{Lexes}
use Rattle.vl_token.specs.declared.symbols.Symbol.TheVariants.{Minus}
use Rattle.vl_token.specs.Tokens.{Lexeme, Meaning, byte_token, left_out_token, module_word, name_token, number_token, other_token, pair_token, sized_token, symbol_token, system_token, unsized_token, word_token}
use Rattle.vl_tree.specs.Expressions.{int, int_parts, name, name_parts, signed, whole}
use Rattle.vl_tree.specs.Kinds.{is_name, is_whole, kind_of, kind_of_meaning, number_of, text_of}
use Rattle.vl_tree.specs.Rules.{mark, optional}
use Rattle.vl_tree.specs.Tree.{Named}
use Rattle.written_reading.specs.Named.{IsIndex, IsNameText}
use Rattle.written_names.proofs.NamedMeanings.{IsGood, IsGoodMeaning}
use Rattle.written_names.proofs.NamedTokens.{good_tokens}
use Rattle.written_names.proofs.Yields.{Yields, any, in_turn, made_of}

-- each token is good
abbrev pub AreGood : List Lexeme → Type 0
AreGood ts = (i : ℕ) (t : Lexeme) → slice_get ts i ≡ Some t → IsGood t

each_good : (ts : List Lexeme) → AllByRecursion IsGood ts → AreGood ts
each_good [] h i t e = absurd (none i t e)
  where
    none : (i : ℕ) (t : Lexeme) → slice_get [] i ≡ Some t → ⊥
    none i t e = cc
each_good (x ∷ xs) h zero t e = subst (λ o. IfSome o IsGood) e h.0
each_good (x ∷ xs) h (suc i) t e = each_good xs h.1 i t e

-- the tokens of files are good
pub tokens_are_good : (texts : List (List ℕ)) (tokens : List Lexeme) → Lexes texts (Ok tokens) → AreGood tokens
tokens_are_good texts tokens k = each_good tokens (good_tokens texts tokens k)

pub name_of_token : (m : Meaning) → IsGoodMeaning m → is_name (kind_of_meaning m) ≡ true → IsNameText (text_of m)
name_of_token (name_token text) g t = g
name_of_token (module_word s) g t = absurd cc
name_of_token (number_token n w) g t = absurd cc
name_of_token (word_token w) g t = absurd cc
name_of_token (left_out_token text) g t = absurd cc
name_of_token (system_token text) g t = absurd cc
name_of_token (other_token text) g t = absurd cc
name_of_token (sized_token bits) g t = absurd cc
name_of_token (unsized_token bits) g t = absurd cc
name_of_token (pair_token from to) g t = absurd cc
name_of_token (symbol_token s) g t = absurd cc
name_of_token (byte_token b) g t = absurd cc

pub short_of_token : (m : Meaning) → IsGoodMeaning m → is_whole (kind_of_meaning m) ≡ true → (number_of m).digits < 10 ^ 18
short_of_token (number_token n w) g t = g t
short_of_token (module_word s) g t = absurd cc
short_of_token (word_token w) g t = absurd cc
short_of_token (left_out_token text) g t = absurd cc
short_of_token (name_token text) g t = absurd cc
short_of_token (system_token text) g t = absurd cc
short_of_token (other_token text) g t = absurd cc
short_of_token (sized_token bits) g t = absurd cc
short_of_token (unsized_token bits) g t = absurd cc
short_of_token (pair_token from to) g t = absurd cc
short_of_token (symbol_token s) g t = absurd cc
short_of_token (byte_token b) g t = absurd cc

-- ---- where they stand in trees

abbrev pub IsNamed : Named → Type 0
IsNamed n = IsNameText n.text

pub name_is : (ts : List Lexeme) → AreGood ts → Yields ts IsNamed name
unfolding name_parts
name_is ts good = made_of ts IsNamed (λ t. record { text = text_of t.meaning; place = t.place }) (one_of kind_of is_name) (λ i j t h. name_of_token t.meaning (good i t h.0) h.1)

short_signed : (o : Option (Unit {0})) (n : ℕ) → n < 10 ^ 18 → IsIndex (signed o n)
short_signed None n l = l
short_signed (Some m) zero l = l
short_signed (Some m) (suc n) l = l

whole_is : (ts : List Lexeme) → AreGood ts → Yields ts (λ n. n < 10 ^ 18) whole
whole_is ts good = made_of ts (λ n. n < 10 ^ 18) (λ t. (number_of t.meaning).digits) (one_of kind_of is_whole) (λ i j t h. short_of_token t.meaning (good i t h.0) h.1)

-- an end of a range, or an index
pub int_is : (ts : List Lexeme) → AreGood ts → Yields ts IsIndex int
unfolding int_parts
int_is ts good =
    made_of ts IsIndex (λ (x : Option (Unit {0}) × ℕ). signed x.0 x.1) (optional (mark Minus) ∙∙ whole)
    (λ i j x h. short_signed x.0 x.1 (in_turn ts (λ o. Unit {0}) (λ n. n < 10 ^ 18) (optional (mark Minus)) whole (any ts (optional (mark Minus))) (whole_is ts good) i j x h).1)
