-- The tokens of SDF files (IEEE 1497-2001, the clause on lexical elements), as definitions see them.
use Rattle.std.specs.Prelude.{ℕ, ℤ, List}
use Rattle.sg_text.specs.declared.places.Place.{Place}
use Rattle.cond_expr.specs.declared.tokens.Op.{Op}

pub data Meaning : Type 0 where
  -- a word without a bit select at its end, as it is written
  word_token : List ℕ → Meaning
  -- a word with one, and what stands before the select
  selected_token : (whole name : List ℕ) → Meaning
  -- the bit select
  select_token : ℤ → Meaning
  -- what stands between quotes
  text_token : List ℕ → Meaning
  unended_token : Meaning
  operator_token : Op → Meaning
  left_token right_token colon_token star_token : Meaning
  other_token : ℕ → Meaning

-- a token, and the byte of the file at which it stands
pub record Lexeme : Type 0 where
  pub meaning : Meaning
  pub place : Place
