-- The forms of the pieces of a text (IEEE 1364-2005, the clause on lexical conventions), outside tables and edge lists.
use Rattle.std.specs.Prelude.{ℕ, ◌==◌, ◌&&◌, List, [], ◌∷◌, length, Bool, true, false, Option, Some, None, is_some, if◌then◌else◌}
use Rattle.std.specs.List.{list_all}
use Rattle.std.specs.Char.{is_ascii_digit}
use Rattle.sg_time.specs.Reading.{parts_of}
use Rattle.sg_time.specs.Spelling.{Sign, none, plus, minus, Spelling}
use Rattle.vl_token.specs.Symbols.{symbol_of}
use Rattle.sg_text.specs.Names.{is_name_start, is_name_byte}
use Rattle.vl_pieces.specs.Bytes.{is_graphic, is_inline, first_of}
use Rattle.vl_pieces.specs.Ends.{end_of, quote_end}
use Rattle.vl_pieces.specs.Sized.{sized_of}
use Rattle.vl_pieces.specs.declared.bytes.First.{First}
use Rattle.vl_pieces.specs.declared.bytes.First.TheVariants.{Blank, Letter, Backslash, Dollar, Quote, Tick, Apostrophe, Slash, Paren, Mark, Bad}
use Rattle.vl_pieces.specs.declared.pieces.Class.{Class}
use Rattle.vl_pieces.specs.declared.pieces.Class.TheVariants as class

unfoldable pub is_symbol : List ℕ → Bool
is_symbol bytes = is_some (symbol_of bytes)

-- a class where a test holds
abbrev pub where_so : Bool → Class → Option Class
where_so true c = Some c
where_so false c = None

-- nothing but the first byte
abbrev pub is_alone : List ℕ → Bool
is_alone [] = true
is_alone (b ∷ bs) = false

-- the end stands at the end of these bytes, and not before
abbrev pub ends_here : Option ℕ → List ℕ → Bool
ends_here None bs = false
ends_here (Some n) bs = n == length bs

-- nothing follows, and there is no end
abbrev pub is_unended : Option ℕ → List ℕ → Bool
is_unended None after = is_alone after
is_unended (Some n) after = false

abbrev pub ended_or : Class → Class → Option ℕ → List ℕ → List ℕ → Option Class
ended_or c unended end bs after = if ends_here end bs then Some c else where_so (is_unended end after) unended

-- behind a slash: a comment to the end of the line, or to its end
abbrev pub slash_class : List ℕ → List ℕ → Option Class
slash_class [] after = Some class.Other
slash_class (b ∷ bs) after =
    if b == 47 then where_so (list_all is_inline bs) class.Gap
    else if b == 42 then ended_or class.Gap class.UnendedComment (end_of 42 47 bs) bs after
    else None

abbrev pub begins_paren : List ℕ → List ℕ → Bool
begins_paren [] [] = false
begins_paren [] (b ∷ bs) = b == 41
begins_paren (b ∷ bs) after = b == 41

-- behind a parenthesis: an attribute, but `(*)` is none
abbrev pub paren_class : List ℕ → List ℕ → Option Class
paren_class [] after = Some class.Symbol
paren_class (b ∷ bs) after =
    if b == 42 then (if begins_paren bs after then None else ended_or class.Attribute class.UnendedComment (end_of 42 41 bs) bs after)
    else None

-- behind a backquote
abbrev pub tick_class : List ℕ → Option Class
tick_class [] = Some class.Other
tick_class (b ∷ bs) = where_so (is_name_start b && list_all is_name_byte bs) class.Use

abbrev pub long_class : Class → (ℕ → Bool) → List ℕ → Option Class
long_class c p [] = Some class.Other
long_class c p (b ∷ bs) = where_so (list_all p (b ∷ bs)) c

abbrev pub mark_class : ℕ → List ℕ → Option Class
mark_class b bs = if is_symbol (b ∷ bs) then Some class.Symbol else where_so (is_alone bs) class.Other

abbrev pub is_unsigned : Sign → Bool
is_unsigned none = true
is_unsigned plus = false
is_unsigned minus = false

-- whether the parts of a decimal were found, without a sign
abbrev pub has_number : Option Spelling → Bool
has_number None = false
has_number (Some s) = is_unsigned s.sign

-- an unsigned decimal, or a sized constant with its width
abbrev pub digit_class : List ℕ → Option Class
digit_class bytes = if has_number (parts_of bytes) then Some class.Number else where_so (is_some (sized_of bytes)) class.Sized

-- a point that begins no decimal is a symbol
abbrev pub point_class : List ℕ → List ℕ → Option Class
point_class bytes bs = if has_number (parts_of bytes) then Some class.Number else where_so (is_alone bs) class.Symbol

-- a sized constant without width
abbrev pub apostrophe_class : List ℕ → List ℕ → Option Class
apostrophe_class bytes bs = if is_some (sized_of bytes) then Some class.Sized else where_so (is_alone bs) class.Other

-- what the bytes b and bs are, with these after them
abbrev pub class_from : First → ℕ → List ℕ → List ℕ → Option Class
class_from Blank b bs after = where_so (is_alone bs) class.Gap
class_from Letter b bs after = where_so (list_all is_name_byte bs) class.Name
class_from Backslash b bs after = long_class class.Escaped is_graphic bs
class_from Dollar b bs after = long_class class.System is_name_byte bs
class_from Quote b bs after = ended_or class.Quoted class.UnendedText (quote_end bs) bs after
class_from Tick b bs after = tick_class bs
class_from Apostrophe b bs after = apostrophe_class (b ∷ bs) bs
class_from Slash b bs after = slash_class bs after
class_from Paren b bs after = paren_class bs after
class_from Mark b bs after = mark_class b bs
class_from Bad b bs after = where_so (is_alone bs) class.BadByte

-- The form that bytes have, where others come after them.
abbrev pub class_of : List ℕ → List ℕ → Option Class
class_of [] after = None
class_of (b ∷ bs) after =
    if is_ascii_digit b then digit_class (b ∷ bs)
    else if b == 46 then point_class (b ∷ bs) bs
    else class_from (first_of b) b bs after
