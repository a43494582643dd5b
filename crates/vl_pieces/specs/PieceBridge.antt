-- A bridge, on which no public clause rests: the first piece of a text, its class and its size, as the code finds it. That it is the
-- definition's is proved (`proofs/PieceLaws.antt`, `proofs/ModeLaws.antt`).
use Rattle.std.specs.Prelude.{ℕ, zero, suc, ◌+◌, nat_le, nat_lt, ◌==◌, ◌&&◌, List, [], ◌∷◌, length, take, drop, Option, Some, None, if◌then◌else◌}
use Rattle.std.specs.List.{prefix_len}
use Rattle.sg_text.specs.Names.{is_name_start, is_name_byte}
use Rattle.vl_pieces.specs.Bytes.{is_graphic, is_inline, first_of}
use Rattle.vl_pieces.specs.Ends.{end_of, quote_end}
use Rattle.vl_pieces.specs.declared.bytes.First.{First}
use Rattle.vl_pieces.specs.declared.bytes.First.TheVariants.{Blank, Letter, Backslash, Dollar, Quote, Tick, Apostrophe, Slash, Paren, Mark, Bad}
use Rattle.vl_pieces.specs.declared.pieces.Class.{Class}
use Rattle.vl_pieces.specs.declared.pieces.Class.TheVariants as class
use Rattle.vl_pieces.specs.Pieces.{is_symbol}
use Rattle.vl_pieces.specs.Modes.{is_value_byte, is_endtable, cell_of}
use Rattle.vl_pieces.specs.declared.modes.Mode.{Mode}
use Rattle.vl_pieces.specs.declared.modes.Mode.TheVariants.{Plain, AfterEdge, Edges, Table, EdgesTable, Line}
use Rattle.vl_pieces.specs.NumberBridge.{number_len, sized_len}
use Rattle.std.specs.Char.{is_ascii_digit}

abbrev pub ended_piece : Class → Class → ℕ → Option ℕ → List ℕ → Class × ℕ
ended_piece c unended n None rest = (unended, n + length rest)
ended_piece c unended n (Some end) rest = (c, n + end)

abbrev pub slash_piece : List ℕ → Class × ℕ
slash_piece [] = (class.Other, 1)
slash_piece (b ∷ bs) =
    if b == 47 then (class.Gap, 2 + prefix_len is_inline bs)
    else if b == 42 then ended_piece class.Gap class.UnendedComment 2 (end_of 42 47 bs) bs
    else (class.Other, 1)

abbrev pub attribute_piece : List ℕ → Class × ℕ
attribute_piece [] = ended_piece class.Attribute class.UnendedComment 2 (end_of 42 41 []) []
attribute_piece (b ∷ bs) = if b == 41 then (class.Symbol, 1) else ended_piece class.Attribute class.UnendedComment 2 (end_of 42 41 (b ∷ bs)) (b ∷ bs)

abbrev pub paren_piece : List ℕ → Class × ℕ
paren_piece [] = (class.Symbol, 1)
paren_piece (b ∷ bs) = if b == 42 then attribute_piece bs else (class.Symbol, 1)

abbrev pub quote_piece : List ℕ → Class × ℕ
quote_piece rest = ended_piece class.Quoted class.UnendedText 1 (quote_end rest) rest

abbrev pub tick_piece : List ℕ → Class × ℕ
tick_piece [] = (class.Other, 1)
tick_piece (b ∷ bs) = if is_name_start b then (class.Use, 2 + prefix_len is_name_byte bs) else (class.Other, 1)

abbrev pub symbol_len : List ℕ → ℕ
symbol_len text =
    if nat_le 3 (length text) && is_symbol (take 3 text) then 3
    else if nat_le 2 (length text) && is_symbol (take 2 text) then 2
    else if nat_le 1 (length text) && is_symbol (take 1 text) then 1
    else 0

abbrev pub long_piece : Class → ℕ → Class × ℕ
long_piece c zero = (class.Other, 1)
long_piece c (suc n) = (c, 1 + suc n)

abbrev pub mark_piece : ℕ → Class × ℕ
mark_piece n = if n == 0 then (class.Other, 1) else (class.Symbol, n)

abbrev pub point_piece : ℕ → Class × ℕ
point_piece n = if n == 0 then (class.Symbol, 1) else (class.Number, n)

abbrev pub apostrophe_piece : ℕ → Class × ℕ
apostrophe_piece n = if n == 0 then (class.Other, 1) else (class.Sized, n)

-- the longer of a number and a sized constant
abbrev pub digit_piece : ℕ → ℕ → Class × ℕ
digit_piece number sized = if nat_lt number sized then (class.Sized, sized) else (class.Number, number)

abbrev pub piece_from : First → ℕ → List ℕ → Class × ℕ
piece_from Blank b bs = (class.Gap, 1)
piece_from Letter b bs = (class.Name, 1 + prefix_len is_name_byte bs)
piece_from Backslash b bs = long_piece class.Escaped (prefix_len is_graphic bs)
piece_from Dollar b bs = long_piece class.System (prefix_len is_name_byte bs)
piece_from Quote b bs = quote_piece bs
piece_from Tick b bs = tick_piece bs
piece_from Apostrophe b bs = apostrophe_piece (sized_len (b ∷ bs))
piece_from Slash b bs = slash_piece bs
piece_from Paren b bs = paren_piece bs
piece_from Mark b bs = mark_piece (symbol_len (b ∷ bs))
piece_from Bad b bs = (class.BadByte, 1)

abbrev pub piece_of : List ℕ → Class × ℕ
piece_of [] = (class.Other, 0)
piece_of (b ∷ bs) =
    if is_ascii_digit b then digit_piece (number_len (b ∷ bs)) (sized_len (b ∷ bs))
    else if b == 46 then point_piece (number_len (b ∷ bs))
    else piece_from (first_of b) b bs

-- ---- the same where a table, an edge list or the line of a macro stands

abbrev pub edge_piece : List ℕ → Class × ℕ
edge_piece [] = piece_of []
edge_piece (a ∷ []) = piece_of (a ∷ [])
edge_piece (a ∷ b ∷ bs) = if is_value_byte a && is_value_byte b then (class.Pair, 2) else piece_of (a ∷ b ∷ bs)

abbrev pub cell_piece : First → List ℕ → Class × ℕ
cell_piece Blank bs = (class.Gap, 1)
cell_piece Slash bs = (cell_of (slash_piece bs).0, (slash_piece bs).1)
cell_piece Bad bs = (class.BadByte, 1)
cell_piece _ bs = (class.Cell, 1)

abbrev pub table_piece : List ℕ → Class × ℕ
table_piece [] = (class.Other, 0)
table_piece (b ∷ bs) = if is_endtable (take 8 (b ∷ bs)) (drop 8 (b ∷ bs)) then (class.Name, 8) else cell_piece (first_of b) bs

abbrev pub line_piece : List ℕ → Class × ℕ
line_piece [] = (class.Other, 0)
line_piece (b ∷ bs) = if b == 10 then (class.Gap, 1) else (class.Line, 1 + prefix_len is_inline bs)

abbrev pub piece_in : Mode → List ℕ → Class × ℕ
piece_in Plain text = piece_of text
piece_in AfterEdge text = piece_of text
piece_in Edges text = edge_piece text
piece_in Table text = table_piece text
piece_in EdgesTable text = table_piece text
piece_in Line text = line_piece text
