-- What the pieces of a text are as tokens (IEEE 1364-2005, the clause on lexical conventions).
use Rattle.std.specs.Prelude.{ℕ, ◌==◌, ◌&&◌, nat_le, List, [], ◌∷◌, length, drop, Bool, Option, Some, None, Result, Ok, Err, if◌then◌else◌}
use Rattle.std.specs.List.{list_all}
use Rattle.std.specs.Char.{is_ascii_digit}
use Rattle.sg_text.specs.Words.{use_of}
use Rattle.sg_text.specs.declared.words.Reserved.{Reserved}
use Rattle.sg_text.specs.declared.words.Reserved.TheVariants as reserved
use Rattle.sg_logic.specs.declared.values.Value.{Value}
use Rattle.sg_logic.specs.declared.values.Value.TheVariants.{Zero, One, X}
use Rattle.sg_time.specs.Spelling.{Number}
use Rattle.sg_time.specs.declared.decimal.TimeError.{TimeError}
use Rattle.sg_time.specs.Reading.{parts_of, said_of}
use Rattle.vl_token.specs.Constants.{own_bits, to_width}
use Rattle.vl_token.specs.Symbols.{symbol_of}
use Rattle.vl_token.specs.declared.symbols.Symbol.{Symbol}
use Rattle.vl_pieces.specs.Sized.{Sized, sized_of, width_of}
use Rattle.vl_token.specs.Tokens.{Settings, Meaning, module_word, word_token, left_out_token, name_token, system_token, symbol_token, other_token, number_token, sized_token, unsized_token, pair_token, byte_token}
use Rattle.vl_pieces.specs.declared.pieces.Class.{Class}
use Rattle.vl_pieces.specs.declared.pieces.Class.TheVariants as class

-- a reserved word, or else a name
abbrev pub word_meaning : Settings → List ℕ → Option Reserved → Meaning
word_meaning settings bytes None = name_token bytes
word_meaning settings bytes (Some reserved.Module) = module_word settings
word_meaning settings bytes (Some (reserved.Keyword word)) = word_token word
word_meaning settings bytes (Some reserved.LeftOut) = left_out_token bytes

abbrev pub name_meaning : Settings → List ℕ → Meaning
name_meaning settings bytes = word_meaning settings bytes (use_of bytes)

abbrev pub symbol_meaning : List ℕ → Option Symbol → Meaning
symbol_meaning bytes None = other_token bytes
symbol_meaning bytes (Some symbol) = symbol_token symbol

-- 1 to 18 digits and nothing else
abbrev pub is_whole : List ℕ → Bool
is_whole bytes = list_all is_ascii_digit bytes && nat_le (length bytes) 18

-- a decimal with too many digits is a token that no rule takes
abbrev pub number_meaning : List ℕ → Result Number TimeError → Meaning
number_meaning bytes (Ok n) = number_token n (is_whole bytes)
number_meaning bytes (Err e) = other_token bytes

-- a constant whose width or value is too large is a token that no rule takes
abbrev pub with_bits : List ℕ → Option (Option ℕ) → Option (List Value) → Meaning
with_bits bytes None bits = other_token bytes
with_bits bytes (Some width) None = other_token bytes
with_bits bytes (Some None) (Some bits) = unsized_token bits
with_bits bytes (Some (Some width)) (Some bits) = sized_token (to_width width bits)

abbrev pub sized_meaning : List ℕ → Option Sized → Meaning
sized_meaning bytes None = other_token bytes
sized_meaning bytes (Some s) = with_bits bytes (width_of s.width) (own_bits s.base s.digits)

-- the value that a byte of an edge list stands for: z is read as x
abbrev pub edge_value : ℕ → Value
edge_value b = if b == 48 then Zero else if b == 49 then One else X

-- two different values are a change
abbrev pub pair_from : List ℕ → Value → Value → Meaning
pair_from bytes Zero Zero = other_token bytes
pair_from bytes One One = other_token bytes
pair_from bytes X X = other_token bytes
pair_from bytes from to = pair_token from to

abbrev pub pair_meaning : List ℕ → Meaning
pair_meaning (a ∷ b ∷ []) = pair_from (a ∷ b ∷ []) (edge_value a) (edge_value b)
pair_meaning bytes = other_token bytes

abbrev pub cell_meaning : List ℕ → Meaning
cell_meaning (b ∷ []) = byte_token b
cell_meaning bytes = other_token bytes

-- the token that a piece gives
abbrev pub meaning_of : Class → List ℕ → Settings → Option Meaning
meaning_of class.Gap bytes settings = None
meaning_of class.Attribute bytes settings = None
meaning_of class.Name bytes settings = Some (name_meaning settings bytes)
meaning_of class.Escaped bytes settings = Some (name_token (drop 1 bytes))
meaning_of class.System bytes settings = Some (system_token bytes)
meaning_of class.Number bytes settings = Some (number_meaning bytes (said_of (parts_of bytes)))
meaning_of class.Sized bytes settings = Some (sized_meaning bytes (sized_of bytes))
meaning_of class.Symbol bytes settings = Some (symbol_meaning bytes (symbol_of bytes))
meaning_of class.Cell bytes settings = Some (cell_meaning bytes)
meaning_of class.Pair bytes settings = Some (pair_meaning bytes)
meaning_of _ bytes settings = Some (other_token bytes)
