-- The symbols of a table's rows (IEEE 1364-2005, 8.1.6). Letters stand in either case, and no symbol covers z.
use Rattle.std.specs.Prelude.{ℕ, ◌==◌, Bool, ◌&&◌, ◌||◌, not, if◌then◌else◌, List, [], ◌∷◌, codes}
use Rattle.std.specs.List.{list_any}
use Rattle.sg_logic.specs.declared.values.Value.{Value}
use Rattle.sg_logic.specs.declared.values.Value.TheVariants.{Zero, One, X}
use Rattle.sg_logic.specs.Values.{is_same}
use Rattle.sg_logic.specs.Edges.{edge_changes}
use Rattle.udp_rows.specs.declared.cells.Cell.{Cell}

-- the level symbols in classes, each with the values that it covers
abbrev pub level_symbols : List (List ℕ × List Value)
level_symbols =
    (codes "0", Zero ∷ []) ∷
    (codes "1", One ∷ []) ∷
    (codes "xX", X ∷ []) ∷
    (codes "?", Zero ∷ One ∷ X ∷ []) ∷
    (codes "bB", Zero ∷ One ∷ []) ∷ []

-- the edge symbols of one byte in classes, each with the changes that it covers
abbrev pub edge_symbols : List (List ℕ × List (Value × Value))
edge_symbols =
    (codes "*", edge_changes) ∷
    (codes "rR", (Zero, One) ∷ []) ∷
    (codes "fF", (One, Zero) ∷ []) ∷
    (codes "pP", (Zero, One) ∷ (Zero, X) ∷ (X, One) ∷ []) ∷
    (codes "nN", (One, Zero) ∷ (One, X) ∷ (X, Zero) ∷ []) ∷ []

-- whether a byte is one of some bytes
abbrev pub is_among : ℕ → List ℕ → Bool
is_among s bytes = list_any (λ b. s == b) bytes

-- whether a byte is a level symbol
abbrev pub is_level : ℕ → Bool
is_level s = list_any (λ class. is_among s class.0) level_symbols

-- whether a level symbol covers a value
abbrev pub level_covers : ℕ → Value → Bool
level_covers s v = list_any (λ class. is_among s class.0 && list_any (is_same v) class.1) level_symbols

-- whether the change from v to w is one of some changes
abbrev pub is_change_of : Value → Value → List (Value × Value) → Bool
is_change_of v w changes = list_any (λ change. is_same v change.0 && is_same w change.1) changes

-- whether a byte is an edge symbol
abbrev pub is_letter : ℕ → Bool
is_letter s = list_any (λ class. is_among s class.0) edge_symbols

-- whether an edge symbol of one byte covers the change from v to w
abbrev pub letter_covers : ℕ → Value → Value → Bool
letter_covers s v w = list_any (λ class. is_among s class.0 && is_change_of v w class.1) edge_symbols

-- whether a pair in parentheses covers the change from v to w
abbrev pub pair_covers : Cell → Value → Value → Bool
pair_covers c v w = not (is_same v w) && level_covers c.first v && level_covers c.second w

-- whether a cell has an edge symbol
abbrev pub has_edge : Cell → Bool
has_edge c = not (c.second == 0) || is_letter c.first

-- whether a cell with an edge symbol covers the change from v to w
abbrev pub edge_covers : Cell → Value → Value → Bool
edge_covers c v w = if c.second == 0 then letter_covers c.first v w else pair_covers c v w
