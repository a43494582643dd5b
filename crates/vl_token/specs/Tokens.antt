-- Tokens, as definitions see them.
use Rattle.std.specs.Prelude.{ℕ, ℤ, Bool, List}
use Rattle.sg_text.specs.declared.places.Place.{Place}
use Rattle.sg_text.specs.declared.words.Keyword.{Keyword}
use Rattle.sg_logic.specs.declared.values.Value.{Value}
use Rattle.sg_time.specs.Spelling.{Number}
use Rattle.vl_token.specs.declared.symbols.Symbol.{Symbol}

-- the powers of ten of seconds that a module counts in and rounds to
pub record Timescale : Type 0 where
  pub unit : ℤ
  pub precision : ℤ

-- what a module takes from the directives before it
pub record Settings : Type 0 where
  pub scale : Timescale
  pub cell : Bool
  pub implicit : Bool

pub data Meaning : Type 0 where
  module_word : Settings → Meaning
  word_token : Keyword → Meaning
  -- left_out_token is a reserved word of a construct that is left out, and other_token what no rule takes
  left_out_token name_token system_token other_token : List ℕ → Meaning
  number_token : Number → (whole : Bool) → Meaning
  -- a constant with a width, which is the number of its bits, and one without
  sized_token unsized_token : (bits : List Value) → Meaning
  pair_token : (from to : Value) → Meaning
  symbol_token : Symbol → Meaning
  byte_token : ℕ → Meaning

-- a token, and where it stands
pub record Lexeme : Type 0 where
  pub meaning : Meaning
  pub place : Place
