-- The kinds of token that the grammar tells apart.
use Rattle.std.specs.Prelude.{ℕ, Bool, true, false, List, [], ◌∷◌, Option, Some, ◌==◌, ◌||◌, ◌&&◌, not, codes, nat_eq, unwrap_or, if◌then◌else◌, pos}
use Rattle.std.specs.List.{starts_with}
use Rattle.sg_logic.specs.declared.values.Value.{Value}
use Rattle.sg_logic.specs.declared.values.Value.TheVariants.{Zero, One, X, Z}
use Rattle.sg_text.specs.declared.words.Keyword.{Keyword}
use Rattle.sg_text.specs.Words.{keyword_number}
use Rattle.sg_time.specs.Spelling.{Number}
use Rattle.vl_token.specs.declared.symbols.Symbol.{Symbol}
use Rattle.vl_token.specs.Symbols.{symbol_number}
use Rattle.vl_token.specs.Tokens.{Lexeme, Settings, Meaning, module_word, word_token, left_out_token, name_token, system_token, other_token, number_token, sized_token, unsized_token, pair_token, symbol_token, byte_token}
use Rattle.vl_tree.specs.declared.check_names.CheckName.{CheckName}
use Rattle.vl_tree.specs.declared.check_names.CheckName.TheVariants.{Period}
use Rattle.vl_tree.specs.declared.paths.EdgePair.{EdgePair}
use Rattle.vl_tree.specs.CheckNames.{check_of}

-- a byte of a table: what a row is cut by, and a symbol of a cell
pub data ByteKind : Type 0 where
  colon_byte semicolon_byte left_byte right_byte cell_byte : ByteKind

-- the bits of a constant: one that isn't z, one z, or another number of bits
pub data BitsKind : Type 0 where
  one_bit z_bit other_bits : BitsKind

pub data Kind : Type 0 where
  module_kind pair_kind other_kind : Kind
  -- whether the name is one of pulse limits
  name_kind : (pulse : Bool) → Kind
  -- the timing check that a system name names, if it names one
  system_kind : Option CheckName → Kind
  word_kind : Keyword → Kind
  symbol_kind : Symbol → Kind
  -- whether the number is whole, and whether it is 0 or 1
  number_kind : (whole : Bool) → (bit : Bool) → Kind
  -- a constant with a width, and one without
  sized_kind unsized_kind : BitsKind → Kind
  byte_kind : ByteKind → Kind

-- : ; ( )
abbrev pub kind_of_byte : ℕ → ByteKind
kind_of_byte b = if b == 58 then colon_byte else if b == 59 then semicolon_byte else if b == 40 then left_byte else if b == 41 then right_byte else cell_byte

abbrev pub bits_kind : List Value → BitsKind
bits_kind [] = other_bits
bits_kind (Zero ∷ []) = one_bit
bits_kind (One ∷ []) = one_bit
bits_kind (X ∷ []) = one_bit
bits_kind (Z ∷ []) = z_bit
bits_kind (v ∷ w ∷ vs) = other_bits

-- the names of pulse limits (IEEE 1364-2005, 14.6.1) begin so, also where they are escaped
unfoldable pub pulse_front : List ℕ
pulse_front = codes "PATHPULSE$"

abbrev pub is_pulse_text : List ℕ → Bool
is_pulse_text text = starts_with nat_eq text pulse_front

abbrev pub kind_of_meaning : Meaning → Kind
kind_of_meaning (module_word s) = module_kind
kind_of_meaning (word_token w) = word_kind w
kind_of_meaning (name_token text) = name_kind (is_pulse_text text)
kind_of_meaning (symbol_token s) = symbol_kind s
kind_of_meaning (number_token n whole) = number_kind whole ((n.digits == 0) || (n.digits == 1))
kind_of_meaning (sized_token bits) = sized_kind (bits_kind bits)
kind_of_meaning (unsized_token bits) = unsized_kind (bits_kind bits)
kind_of_meaning (pair_token from to) = pair_kind
kind_of_meaning (system_token text) = system_kind (check_of text)
kind_of_meaning (byte_token b) = byte_kind (kind_of_byte b)
kind_of_meaning (left_out_token text) = other_kind
kind_of_meaning (other_token text) = other_kind

abbrev pub kind_of : Lexeme → Kind
kind_of t = kind_of_meaning t.meaning

-- ---- tests

abbrev pub is_module : Kind → Bool
is_module module_kind = true
is_module _ = false

abbrev pub is_name : Kind → Bool
is_name (name_kind pulse) = not pulse
is_name _ = false

-- a name of pulse limits, which is a name nowhere else
abbrev pub is_pulse_name : Kind → Bool
is_pulse_name (name_kind pulse) = pulse
is_pulse_name _ = false

abbrev pub is_pair : Kind → Bool
is_pair pair_kind = true
is_pair _ = false

-- a timing check's name
abbrev pub is_check : Kind → Bool
is_check (system_kind (Some name)) = true
is_check _ = false

abbrev pub is_word : Keyword → Kind → Bool
is_word w (word_kind v) = keyword_number w == keyword_number v
is_word w _ = false

abbrev pub is_symbol : Symbol → Kind → Bool
is_symbol s (symbol_kind r) = symbol_number s == symbol_number r
is_symbol s _ = false

abbrev pub is_number : Kind → Bool
is_number (number_kind whole bit) = true
is_number _ = false

abbrev pub is_whole : Kind → Bool
is_whole (number_kind whole bit) = whole
is_whole _ = false

abbrev pub is_sized : Kind → Bool
is_sized (sized_kind bits) = true
is_sized _ = false

-- 0, 1, or one bit with its width that isn't z
abbrev pub is_initial_value : Kind → Bool
is_initial_value (number_kind whole bit) = whole && bit
is_initial_value (sized_kind one_bit) = true
is_initial_value _ = false

abbrev pub byte_number : ByteKind → ℕ
byte_number colon_byte = 0
byte_number semicolon_byte = 1
byte_number left_byte = 2
byte_number right_byte = 3
byte_number cell_byte = 4

abbrev pub is_byte : ByteKind → Kind → Bool
is_byte b (byte_kind c) = byte_number b == byte_number c
is_byte b _ = false

-- ---- what a token carries, which no rule asks of another kind

abbrev no_settings : Settings
no_settings = record { scale = record { unit = pos 0; precision = pos 0 }; cell = false; implicit = false }

abbrev no_number : Number
no_number = record { negative = false; digits = 0; exponent = pos 0 }

abbrev pub settings_of : Meaning → Settings
settings_of (module_word s) = s
settings_of _ = no_settings

abbrev pub text_of : Meaning → List ℕ
text_of (name_token text) = text
text_of _ = []

abbrev pub number_of : Meaning → Number
number_of (number_token n whole) = n
number_of _ = no_number

abbrev pub bits_of : Meaning → List Value
bits_of (sized_token bits) = bits
bits_of _ = []

abbrev pub first_bit : List Value → Value
first_bit [] = X
first_bit (v ∷ vs) = v

abbrev pub value_of : Meaning → Value
value_of (number_token n whole) = if n.digits == 0 then Zero else One
value_of (sized_token bits) = first_bit bits
value_of (unsized_token bits) = first_bit bits
value_of _ = X

-- the check that a token names, and the change that a pair is
abbrev pub no_check : CheckName
no_check = Period

abbrev pub check_of_meaning : Meaning → CheckName
check_of_meaning (system_token text) = unwrap_or (check_of text) no_check
check_of_meaning _ = no_check

abbrev pub pair_of : Meaning → EdgePair
pair_of (pair_token from to) = record { from = from; to = to }
pair_of _ = record { from = X; to = X }

abbrev pub byte_of : Meaning → ℕ
byte_of (byte_token b) = b
byte_of _ = 0
