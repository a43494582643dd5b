-- Tokens of pieces are good: names are words, numbers are short, modules have scales.
use Rattle.std.specs.Prelude.{◌≡◌, ◌<◌, ◌≤◌, ◌^◌, ◌*◌, ◌+◌, ℕ, ℤ, pos, negsuc, ◌-ℤ◌, int_lt, nat_lt, Bool, true, false, IfSome, codes, List, [], ◌∷◌, ◌++◌, length, Option, Some, None, unwrap_or, Ok, Err, if◌then◌else◌, refl}
use Rattle.std.specs.List.{AllByRecursion, list_all}
use Rattle.std.specs.Char.{is_ascii_digit}
use Rattle.std.proofs.Common.{subst, arith, inl, inr}
use Rattle.std.proofs.Math.Nat.{pow-le-pow_right}
use Rattle.std.proofs.lemmas.Bool.{cases_lt, lt-ltb}
use Rattle.sg_logic.specs.declared.values.Value.{Value}
use Rattle.sg_logic.specs.declared.values.Value.TheVariants.{Zero, One, X, Z}
use Rattle.sg_text.specs.Words.{use_of}
use Rattle.sg_text.specs.declared.places.Place.{Place}
use Rattle.sg_text.specs.declared.words.Reserved.{Reserved}
use Rattle.sg_text.specs.declared.words.Reserved.TheVariants as reserved
use Rattle.sg_time.proofs.Digits.{all_digits-filter, significant_digits-digits, significant_digits-number, upper}
use Rattle.sg_time.specs.Reading.{parts_of, said_of}
use Rattle.sg_time.specs.Spelling.{Spelling, digits_of, number_from, number_of, significant_digits}
use Rattle.sg_time.specs.declared.decimal.TimeError.TheVariants as error
use Rattle.vl_pieces.specs.Bytes.{same_bytes}
use Rattle.vl_pieces.specs.Meanings.{cell_meaning, edge_value, meaning_of, number_meaning, pair_from, pair_meaning, sized_meaning, symbol_meaning, with_bits, word_meaning}
use Rattle.vl_pieces.specs.Sized.{Sized, sized_of, width_of}
use Rattle.vl_pieces.specs.declared.pieces.Class.{Class}
use Rattle.vl_pieces.specs.declared.pieces.Class.TheVariants as class
use Rattle.vl_token.specs.Constants.{own_bits}
use Rattle.vl_token.specs.Symbols.{symbol_of}
use Rattle.vl_token.specs.Tokens.{Meaning, Settings, Timescale}
use Rattle.vl_token.specs.declared.symbols.Symbol.{Symbol}
use Rattle.vl_lex.specs.Directives.{power_of, scale_from, scale_of, tens_of, unit_of}
use Rattle.vl_lex.specs.Effects.{tokens_at}
use Rattle.vl_lex.specs.State.{Word}
use Rattle.vcd_laws.proofs.Named.{IsGood, IsGoodMeaning, IsScale}
use Rattle.vcd_laws.proofs.Worded.{IsWorded}

-- ---- numbers

-- so few digits spell a small number
small : (ds : List ℕ) → list_all is_ascii_digit ds ≡ true → nat_lt 18 (length (significant_digits ds)) ≡ false → number_from 0 ds < 10 ^ 18
small ds h few = subst (λ n. n < 10 ^ 18) (significant_digits-number ds) (below (number_from 0 (significant_digits ds)) (length (significant_digits ds)) (at_most (length (significant_digits ds)) few) (upper 0 (significant_digits ds) (significant_digits-digits ds h)))
  where
    at_most : (n : ℕ) → nat_lt 18 n ≡ false → n ≤ 18
    at_most n e = elim (cases_lt 18 n) [
      | inl l ↦ absurd (let q : nat_lt 18 n ≡ true = lt-ltb 18 n l in cc)
      | inr l ↦ l
    ]

    below : (m n : ℕ) → n ≤ 18 → m < (0 + 1) * 10 ^ n → m < 10 ^ 18
    below m n l h = let p : 10 ^ n ≤ 10 ^ 18 = pow-le-pow_right (omega arith) l in omega (arith, h, p)

good_number : (bytes : List ℕ) (o : Option Spelling) → IsGoodMeaning (number_meaning bytes (said_of o))
good_number bytes None = tt
good_number bytes (Some s) = at (nat_lt 18 (length (significant_digits (digits_of s)))) refl
  where
    at : (t : Bool) → nat_lt 18 (length (significant_digits (digits_of s))) ≡ t → IsGoodMeaning (number_meaning bytes (if t then Err error.TooManyDigits else Ok (number_of s)))
    at true e = tt
    at false e = λ w. small (digits_of s) (all_digits-filter (s.whole ++ unwrap_or s.fraction [])) e

-- ---- other tokens

good_word : (settings : Settings) (bytes : List ℕ) (o : Option Reserved) → IsScale settings.scale.precision → IsWorded class.Name bytes → IsGoodMeaning (word_meaning settings bytes o)
good_word settings bytes None h k = k
good_word settings bytes (Some reserved.Module) h k = h
good_word settings bytes (Some (reserved.Keyword word)) h k = tt
good_word settings bytes (Some reserved.LeftOut) h k = tt

good_symbol : (bytes : List ℕ) (o : Option Symbol) → IsGoodMeaning (symbol_meaning bytes o)
good_symbol bytes None = tt
good_symbol bytes (Some s) = tt

good_bits : (bytes : List ℕ) (w : Option (Option ℕ)) (bits : Option (List Value)) → IsGoodMeaning (with_bits bytes w bits)
good_bits bytes None bits = tt
good_bits bytes (Some w) None = tt
good_bits bytes (Some None) (Some bits) = tt
good_bits bytes (Some (Some w)) (Some bits) = tt

good_sized : (bytes : List ℕ) (o : Option Sized) → IsGoodMeaning (sized_meaning bytes o)
good_sized bytes None = tt
good_sized bytes (Some s) = good_bits bytes (width_of s.width) (own_bits s.base s.digits)

good_cell : (bytes : List ℕ) → IsGoodMeaning (cell_meaning bytes)
good_cell [] = tt
good_cell (b ∷ []) = tt
good_cell (b ∷ c ∷ bs) = tt

good_change : (bytes : List ℕ) (v w : Value) → IsGoodMeaning (pair_from bytes v w)
good_change bytes Zero Zero = tt
good_change bytes Zero One = tt
good_change bytes Zero X = tt
good_change bytes Zero Z = tt
good_change bytes One Zero = tt
good_change bytes One One = tt
good_change bytes One X = tt
good_change bytes One Z = tt
good_change bytes X Zero = tt
good_change bytes X One = tt
good_change bytes X X = tt
good_change bytes X Z = tt
good_change bytes Z w = tt

good_pair : (bytes : List ℕ) → IsGoodMeaning (pair_meaning bytes)
good_pair [] = tt
good_pair (a ∷ []) = tt
good_pair (a ∷ b ∷ []) = good_change (a ∷ b ∷ []) (edge_value a) (edge_value b)
good_pair (a ∷ b ∷ c ∷ bs) = tt

good_meaning : (c : Class) (bytes : List ℕ) (settings : Settings) → IsScale settings.scale.precision → IsWorded c bytes → IfSome (meaning_of c bytes settings) IsGoodMeaning
good_meaning class.Gap bytes settings h k = tt
good_meaning class.Attribute bytes settings h k = tt
good_meaning class.Name bytes settings h k = good_word settings bytes (use_of bytes) h k
good_meaning class.Escaped bytes settings h k = k
good_meaning class.System bytes settings h k = tt
good_meaning class.Number bytes settings h k = good_number bytes (parts_of bytes)
good_meaning class.Sized bytes settings h k = good_sized bytes (sized_of bytes)
good_meaning class.Symbol bytes settings h k = good_symbol bytes (symbol_of bytes)
good_meaning class.Quoted bytes settings h k = tt
good_meaning class.Use bytes settings h k = tt
good_meaning class.Other bytes settings h k = tt
good_meaning class.BadByte bytes settings h k = tt
good_meaning class.UnendedComment bytes settings h k = tt
good_meaning class.UnendedText bytes settings h k = tt
good_meaning class.Cell bytes settings h k = good_cell bytes
good_meaning class.Pair bytes settings h k = good_pair bytes
good_meaning class.Line bytes settings h k = tt

-- the token of a piece, if it gives one
pub good_piece : (place : Place) (c : Class) (bytes : List ℕ) (settings : Settings) → IsScale settings.scale.precision → IsWorded c bytes → AllByRecursion IsGood (tokens_at place (meaning_of c bytes settings))
good_piece place c bytes settings h k = at (meaning_of c bytes settings) (good_meaning c bytes settings h k)
  where
    at : (o : Option Meaning) → IfSome o IsGoodMeaning → AllByRecursion IsGood (tokens_at place o)
    at None g = tt
    at (Some m) g = (g, tt)

-- ---- scales

if_some : {A : Type 0} (P : A → Type 0) (t : Bool) (o p : Option A) → IfSome o P → IfSome p P → IfSome (if t then o else p) P
if_some P true o p h k = h
if_some P false o p h k = k

at_tick : (power : ℤ) (tick : ℕ) → tick < 18 → power ≡ pos 2 -ℤ pos tick → IsScale power
at_tick power tick l e = record { tick = tick; small = l; is = e }

-- one, ten and a hundred of a unit
abbrev IsUnit : ℤ → Type 0
IsUnit u = IsScale (pos 0 -ℤ u) × IsScale (pos 1 -ℤ u) × IsScale (pos 2 -ℤ u)

abbrev AreTens : ℤ → Type 0
AreTens t = (u : ℤ) → IsUnit u → IsScale (t -ℤ u)

tens_are : (bytes : List ℕ) → IfSome (tens_of bytes) AreTens
tens_are bytes =
    if_some AreTens (same_bytes bytes (codes "1")) (Some (pos 0)) (if same_bytes bytes (codes "10") then Some (pos 1) else if same_bytes bytes (codes "100") then Some (pos 2) else None) (λ u h. h.0)
    (if_some AreTens (same_bytes bytes (codes "10")) (Some (pos 1)) (if same_bytes bytes (codes "100") then Some (pos 2) else None) (λ u h. h.1)
    (if_some AreTens (same_bytes bytes (codes "100")) (Some (pos 2)) None (λ u h. h.2) tt))

second : IsUnit (pos 0)
second = (at_tick (pos 0) 2 (omega arith) refl, at_tick (pos 1) 1 (omega arith) refl, at_tick (pos 2) 0 (omega arith) refl)

milli : IsUnit (pos 3)
milli = (at_tick (negsuc 2) 5 (omega arith) refl, at_tick (negsuc 1) 4 (omega arith) refl, at_tick (negsuc 0) 3 (omega arith) refl)

micro : IsUnit (pos 6)
micro = (at_tick (negsuc 5) 8 (omega arith) refl, at_tick (negsuc 4) 7 (omega arith) refl, at_tick (negsuc 3) 6 (omega arith) refl)

nano : IsUnit (pos 9)
nano = (at_tick (negsuc 8) 11 (omega arith) refl, at_tick (negsuc 7) 10 (omega arith) refl, at_tick (negsuc 6) 9 (omega arith) refl)

pico : IsUnit (pos 12)
pico = (at_tick (negsuc 11) 14 (omega arith) refl, at_tick (negsuc 10) 13 (omega arith) refl, at_tick (negsuc 9) 12 (omega arith) refl)

femto : IsUnit (pos 15)
femto = (at_tick (negsuc 14) 17 (omega arith) refl, at_tick (negsuc 13) 16 (omega arith) refl, at_tick (negsuc 12) 15 (omega arith) refl)

unit_is : (bytes : List ℕ) → IfSome (unit_of bytes) IsUnit
unit_is bytes =
    if_some IsUnit (same_bytes bytes (codes "s")) (Some (pos 0)) _ second
    (if_some IsUnit (same_bytes bytes (codes "ms")) (Some (pos 3)) _ milli
    (if_some IsUnit (same_bytes bytes (codes "us")) (Some (pos 6)) _ micro
    (if_some IsUnit (same_bytes bytes (codes "ns")) (Some (pos 9)) _ nano
    (if_some IsUnit (same_bytes bytes (codes "ps")) (Some (pos 12)) _ pico
    (if_some IsUnit (same_bytes bytes (codes "fs")) (Some (pos 15)) None femto tt)))))

power_is : (tens unit : Option ℤ) → IfSome tens AreTens → IfSome unit IsUnit → IfSome (power_of tens unit) IsScale
power_is (Some t) (Some u) h k = h u k
power_is (Some t) None h k = tt
power_is None unit h k = tt

abbrev pub HasScale : Timescale → Type 0
HasScale s = IsScale s.precision

from_powers : (unit precision : Option ℤ) → IfSome precision IsScale → IfSome (scale_from unit precision) HasScale
from_powers (Some u) (Some p) h = if_some HasScale (int_lt u p) None (Some (record { unit = u; precision = p })) tt h
from_powers (Some u) None h = tt
from_powers None p h = tt

-- what a timescale says
pub scale_is : (ws : List Word) → IfSome (scale_of ws) HasScale
scale_is [] = tt
scale_is (n ∷ []) = tt
scale_is (n ∷ u ∷ []) = tt
scale_is (n ∷ u ∷ slash ∷ []) = tt
scale_is (n ∷ u ∷ slash ∷ m ∷ []) = tt
scale_is (n ∷ u ∷ slash ∷ m ∷ v ∷ []) =
    if_some HasScale (same_bytes slash.bytes (codes "/")) (scale_from (power_of (tens_of n.bytes) (unit_of u.bytes)) (power_of (tens_of m.bytes) (unit_of v.bytes))) None
    (from_powers (power_of (tens_of n.bytes) (unit_of u.bytes)) (power_of (tens_of m.bytes) (unit_of v.bytes)) (power_is (tens_of m.bytes) (unit_of v.bytes) (tens_are m.bytes) (unit_is v.bytes))) tt
scale_is (n ∷ u ∷ slash ∷ m ∷ v ∷ w ∷ ws) = tt

pub first_scale : IsScale (negsuc 11)
first_scale = pico.0
