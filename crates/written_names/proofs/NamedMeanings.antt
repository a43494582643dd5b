-- Tokens of pieces: names are good, and numbers short.
use Rattle.std.specs.Prelude.{◌≡◌, ◌<◌, ◌≤◌, ◌^◌, ◌*◌, ◌+◌, ℕ, nat_lt, Bool, true, false, IfSome, List, [], ◌∷◌, ◌++◌, length, Option, Some, None, unwrap_or, Ok, Err, if◌then◌else◌, refl}
use Rattle.std.specs.List.{AllByRecursion, list_all}
use Rattle.std.specs.Char.{is_ascii_digit}
use Rattle.std.proofs.Common.{subst, arith, inl, inr}
use Rattle.std.proofs.Math.Nat.{pow-le-pow_right}
use Rattle.std.proofs.lemmas.Bool.{cases_lt, lt-ltb}
use Rattle.sg_logic.specs.declared.values.Value.{Value}
use Rattle.sg_logic.specs.declared.values.Value.TheVariants.{Zero, One, X, Z}
use Rattle.sg_text.specs.Words.{use_of}
use Rattle.sg_text.specs.declared.places.Place.{Place}
use Rattle.sg_text.specs.declared.words.Reserved.{Reserved}
use Rattle.sg_text.specs.declared.words.Reserved.TheVariants as reserved
use Rattle.sg_time.proofs.Digits.{all_digits-filter, significant_digits-digits, significant_digits-number, upper}
use Rattle.sg_time.specs.Reading.{parts_of, said_of}
use Rattle.sg_time.specs.Spelling.{Spelling, digits_of, number_from, number_of, significant_digits}
use Rattle.sg_time.specs.declared.decimal.TimeError.TheVariants as error
use Rattle.vl_pieces.specs.Meanings.{cell_meaning, edge_value, meaning_of, number_meaning, pair_from, pair_meaning, sized_meaning, symbol_meaning, with_bits, word_meaning}
use Rattle.vl_pieces.specs.Sized.{Sized, sized_of, width_of}
use Rattle.vl_pieces.specs.declared.pieces.Class.{Class}
use Rattle.vl_pieces.specs.declared.pieces.Class.TheVariants as class
use Rattle.vl_token.specs.Constants.{own_bits}
use Rattle.vl_token.specs.Symbols.{symbol_of}
use Rattle.vl_token.specs.Tokens.{Lexeme, Meaning, Settings, byte_token, left_out_token, module_word, name_token, number_token, other_token, pair_token, sized_token, symbol_token, system_token, unsized_token, word_token}
use Rattle.vl_token.specs.declared.symbols.Symbol.{Symbol}
use Rattle.vl_lex.specs.Effects.{tokens_at}
use Rattle.written_reading.specs.Named.{IsNameText}
use Rattle.written_names.proofs.NamedPieces.{IsNamedPiece}

-- a name is good, and a whole number has at most 18 digits
abbrev pub IsGoodMeaning : Meaning → Type 0
IsGoodMeaning (name_token text) = IsNameText text
IsGoodMeaning (number_token n whole) = whole ≡ true → n.digits < 10 ^ 18
IsGoodMeaning (module_word s) = Unit {0}
IsGoodMeaning (word_token w) = Unit {0}
IsGoodMeaning (left_out_token text) = Unit {0}
IsGoodMeaning (system_token text) = Unit {0}
IsGoodMeaning (other_token text) = Unit {0}
IsGoodMeaning (sized_token bits) = Unit {0}
IsGoodMeaning (unsized_token bits) = Unit {0}
IsGoodMeaning (pair_token from to) = Unit {0}
IsGoodMeaning (symbol_token s) = Unit {0}
IsGoodMeaning (byte_token b) = Unit {0}

abbrev pub IsGood : Lexeme → Type 0
IsGood t = IsGoodMeaning t.meaning

-- ---- numbers

-- so few digits spell a small number
small : (ds : List ℕ) → list_all is_ascii_digit ds ≡ true → nat_lt 18 (length (significant_digits ds)) ≡ false → number_from 0 ds < 10 ^ 18
small ds h few = subst (λ n. n < 10 ^ 18) (significant_digits-number ds) (below (number_from 0 (significant_digits ds)) (length (significant_digits ds)) (at_most (length (significant_digits ds)) few) (upper 0 (significant_digits ds) (significant_digits-digits ds h)))
  where
    at_most : (n : ℕ) → nat_lt 18 n ≡ false → n ≤ 18
    at_most n e = elim (cases_lt 18 n) [
      | inl l ↦ absurd (let q : nat_lt 18 n ≡ true = lt-ltb 18 n l in cc)
      | inr l ↦ l
    ]

    below : (m n : ℕ) → n ≤ 18 → m < (0 + 1) * 10 ^ n → m < 10 ^ 18
    below m n l h = let p : 10 ^ n ≤ 10 ^ 18 = pow-le-pow_right (omega arith) l in omega (arith, h, p)

good_number : (bytes : List ℕ) (o : Option Spelling) → IsGoodMeaning (number_meaning bytes (said_of o))
good_number bytes None = tt
good_number bytes (Some s) = at (nat_lt 18 (length (significant_digits (digits_of s)))) refl
  where
    at : (t : Bool) → nat_lt 18 (length (significant_digits (digits_of s))) ≡ t → IsGoodMeaning (number_meaning bytes (if t then Err error.TooManyDigits else Ok (number_of s)))
    at true e = tt
    at false e = λ w. small (digits_of s) (all_digits-filter (s.whole ++ unwrap_or s.fraction [])) e

-- ---- other tokens

good_word : (settings : Settings) (bytes : List ℕ) (o : Option Reserved) → IsNamedPiece class.Name bytes → IsGoodMeaning (word_meaning settings bytes o)
good_word settings bytes None k = k
good_word settings bytes (Some reserved.Module) k = tt
good_word settings bytes (Some (reserved.Keyword word)) k = tt
good_word settings bytes (Some reserved.LeftOut) k = tt

good_symbol : (bytes : List ℕ) (o : Option Symbol) → IsGoodMeaning (symbol_meaning bytes o)
good_symbol bytes None = tt
good_symbol bytes (Some s) = tt

good_bits : (bytes : List ℕ) (w : Option (Option ℕ)) (bits : Option (List Value)) → IsGoodMeaning (with_bits bytes w bits)
good_bits bytes None bits = tt
good_bits bytes (Some w) None = tt
good_bits bytes (Some None) (Some bits) = tt
good_bits bytes (Some (Some w)) (Some bits) = tt

good_sized : (bytes : List ℕ) (o : Option Sized) → IsGoodMeaning (sized_meaning bytes o)
good_sized bytes None = tt
good_sized bytes (Some s) = good_bits bytes (width_of s.width) (own_bits s.base s.digits)

good_cell : (bytes : List ℕ) → IsGoodMeaning (cell_meaning bytes)
good_cell [] = tt
good_cell (b ∷ []) = tt
good_cell (b ∷ c ∷ bs) = tt

good_change : (bytes : List ℕ) (v w : Value) → IsGoodMeaning (pair_from bytes v w)
good_change bytes Zero Zero = tt
good_change bytes Zero One = tt
good_change bytes Zero X = tt
good_change bytes Zero Z = tt
good_change bytes One Zero = tt
good_change bytes One One = tt
good_change bytes One X = tt
good_change bytes One Z = tt
good_change bytes X Zero = tt
good_change bytes X One = tt
good_change bytes X X = tt
good_change bytes X Z = tt
good_change bytes Z w = tt

good_pair : (bytes : List ℕ) → IsGoodMeaning (pair_meaning bytes)
good_pair [] = tt
good_pair (a ∷ []) = tt
good_pair (a ∷ b ∷ []) = good_change (a ∷ b ∷ []) (edge_value a) (edge_value b)
good_pair (a ∷ b ∷ c ∷ bs) = tt

good_meaning : (c : Class) (bytes : List ℕ) (settings : Settings) → IsNamedPiece c bytes → IfSome (meaning_of c bytes settings) IsGoodMeaning
good_meaning class.Gap bytes settings k = tt
good_meaning class.Attribute bytes settings k = tt
good_meaning class.Name bytes settings k = good_word settings bytes (use_of bytes) k
good_meaning class.Escaped bytes settings k = k
good_meaning class.System bytes settings k = tt
good_meaning class.Number bytes settings k = good_number bytes (parts_of bytes)
good_meaning class.Sized bytes settings k = good_sized bytes (sized_of bytes)
good_meaning class.Symbol bytes settings k = good_symbol bytes (symbol_of bytes)
good_meaning class.Quoted bytes settings k = tt
good_meaning class.Use bytes settings k = tt
good_meaning class.Other bytes settings k = tt
good_meaning class.BadByte bytes settings k = tt
good_meaning class.UnendedComment bytes settings k = tt
good_meaning class.UnendedText bytes settings k = tt
good_meaning class.Cell bytes settings k = good_cell bytes
good_meaning class.Pair bytes settings k = good_pair bytes
good_meaning class.Line bytes settings k = tt

-- the token of a piece, if it gives one
pub good_piece : (place : Place) (c : Class) (bytes : List ℕ) (settings : Settings) → IsNamedPiece c bytes → AllByRecursion IsGood (tokens_at place (meaning_of c bytes settings))
good_piece place c bytes settings k = at (meaning_of c bytes settings) (good_meaning c bytes settings k)
  where
    at : (o : Option Meaning) → IfSome o IsGoodMeaning → AllByRecursion IsGood (tokens_at place o)
    at None g = tt
    at (Some m) g = (g, tt)
