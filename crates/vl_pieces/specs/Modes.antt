-- How a text is split, also where a table, an edge list or the line of a macro stands.
use Rattle.std.specs.Prelude.{ℕ, ◌≡◌, ◌<◌, ◌≤◌, ◌==◌, ◌&&◌, ◌||◌, not, nat_eq, List, [], ◌∷◌, length, take, drop, Bool, false, Option, Some, None, if◌then◌else◌, codes}
use Rattle.std.specs.List.{list_all}
use lib.Pointwise.{pointwise}
use Rattle.sg_text.specs.Names.{is_name_byte}
use Rattle.vl_pieces.specs.Bytes.{is_inline, first_of}
use Rattle.vl_pieces.specs.Pieces.{class_of, where_so, is_alone, slash_class}
use Rattle.vl_pieces.specs.declared.bytes.First.{First}
use Rattle.vl_pieces.specs.declared.bytes.First.TheVariants.{Blank, Slash, Bad}
use Rattle.vl_pieces.specs.declared.pieces.Class.{Class}
use Rattle.vl_pieces.specs.declared.pieces.Class.TheVariants as class
use Rattle.vl_pieces.specs.declared.modes.Mode.{Mode}
use Rattle.vl_pieces.specs.declared.modes.Mode.TheVariants.{Plain, AfterEdge, Edges, Table, EdgesTable, Line}

-- 0 1 x X z Z
abbrev pub is_value_byte : ℕ → Bool
is_value_byte b = (b == 48) || (b == 49) || (b == 120) || (b == 88) || (b == 122) || (b == 90)

-- in an edge list two neighbouring values are one token, and all else is as elsewhere
abbrev pub edge_class : List ℕ → List ℕ → Option Class
edge_class (a ∷ b ∷ []) after = if is_value_byte a && is_value_byte b then Some class.Pair else class_of (a ∷ b ∷ []) after
edge_class (a ∷ b ∷ c ∷ bs) after = if is_value_byte a && is_value_byte b then None else class_of (a ∷ b ∷ c ∷ bs) after
edge_class bs after = class_of bs after

abbrev pub begins_name_byte : List ℕ → Bool
begins_name_byte [] = false
begins_name_byte (b ∷ bs) = is_name_byte b

-- the word endtable, which no name byte goes on
abbrev pub is_endtable : List ℕ → List ℕ → Bool
is_endtable bytes after = pointwise nat_eq bytes (codes "endtable") && not (begins_name_byte after)

-- a slash alone is a byte as any other
abbrev pub cell_of : Class → Class
cell_of class.Other = class.Cell
cell_of c = c

abbrev pub cell_or : Option Class → Option Class
cell_or None = None
cell_or (Some c) = Some (cell_of c)

abbrev pub cell_from : First → List ℕ → List ℕ → Option Class
cell_from Blank bs after = where_so (is_alone bs) class.Gap
cell_from Slash bs after = cell_or (slash_class bs after)
cell_from Bad bs after = where_so (is_alone bs) class.BadByte
cell_from _ bs after = where_so (is_alone bs) class.Cell

-- in a table each byte that is neither a blank nor in a comment is a token, and so is the word endtable
abbrev pub table_class : List ℕ → List ℕ → Option Class
table_class [] after = None
table_class (b ∷ bs) after = if is_endtable (b ∷ bs) after then Some class.Name else cell_from (first_of b) bs after

-- the rest of a line
abbrev pub line_class : List ℕ → Option Class
line_class [] = None
line_class (b ∷ bs) = if b == 10 then where_so (is_alone bs) class.Gap else where_so (list_all is_inline bs) class.Line

abbrev pub class_in : Mode → List ℕ → List ℕ → Option Class
class_in Plain bs after = class_of bs after
class_in AfterEdge bs after = class_of bs after
class_in Edges bs after = edge_class bs after
class_in Table bs after = table_class bs after
class_in EdgesTable bs after = table_class bs after
class_in Line bs after = line_class bs

-- The first n bytes of the text are a piece: they have a form, and no longer front of the text has one.
pub record IsPiece (mode : Mode) (text : List ℕ) (n : ℕ) (c : Class) : Type 0 where
  pub within : n ≤ length text
  pub form : class_in mode (take n text) (drop n text) ≡ Some c
  pub longest : (m : ℕ) → n < m → m ≤ length text → class_in mode (take m text) (drop m text) ≡ None

-- a piece of a text, of so many bytes
pub record Piece : Type 0 where
  pub class : Class
  pub size : ℕ

-- These are the pieces of a text, one after another to its end, where no table and no edge list stands.
abbrev pub ArePieces : List ℕ → List Piece → Type 0
ArePieces text [] = text ≡ []
ArePieces text (p ∷ ps) = IsPiece Plain text p.size p.class × ArePieces (drop p.size text) ps
