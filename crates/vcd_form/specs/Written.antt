-- A dump as it is written.
use Rattle.std.specs.Prelude.{ℕ, ℤ, List, Option}

-- `$var`: its place, the width, the code, the name, and the range where it stands apart
pub record Declaration : Type 0 where
  pub byte : ℕ
  pub width : ℕ
  pub code : List ℕ
  pub name : List ℕ
  pub range : Option (List ℕ)

pub data Section : Type 0 where
  -- `$date`, `$version` or `$comment`
  remark : Section
  -- the power of ten of a second
  timescale : (power : ℤ) → Section
  enters : (name : List ℕ) → Section
  leaves : Section
  declares : Declaration → Section

pub data Item : Type 0 where
  -- a comment, or a word without effect
  nothing : Item
  instant : (byte : ℕ) (digits : List ℕ) → Item
  -- the places of the value and of its code, the value's bits, the code
  value : (byte code_byte : ℕ) (bits code : List ℕ) → Item
  real : (byte code_byte : ℕ) (code : List ℕ) → Item

-- the sections of the header, and, where these end, the place of `$enddefinitions` and the items behind it
pub record Front : Type 0 where
  pub sections : List Section
  pub body : Option (ℕ × List Item)
