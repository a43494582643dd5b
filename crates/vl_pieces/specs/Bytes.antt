-- The bytes of a netlist's text by what they begin (IEEE 1364-2005, the clause on lexical conventions).
use Rattle.std.specs.Prelude.{ℕ, List, nat_eq, Bool, ◌==◌, ◌||◌, not, if◌then◌else◌}
use Rattle.std.specs.Char.{is_ascii_graphic}
use lib.Pointwise.{pointwise}
use Rattle.sg_text.specs.Names.{is_name_start}
use Rattle.vl_pieces.specs.declared.bytes.First.{First}
use Rattle.vl_pieces.specs.declared.bytes.First.TheVariants.{Blank, Letter, Backslash, Dollar, Quote, Tick, Apostrophe, Slash, Paren, Mark, Bad}

-- space, tab, LF, CR and FF
abbrev pub is_blank : ℕ → Bool
is_blank b = (b == 32) || (b == 9) || (b == 10) || (b == 13) || (b == 12)

-- a printable byte that is no blank
abbrev pub is_graphic : ℕ → Bool
is_graphic b = is_ascii_graphic b

-- any byte but LF
abbrev pub is_inline : ℕ → Bool
is_inline b = not (b == 10)

-- what a byte begins that is neither a digit nor a point (IEEE 1364-2005, the clause on lexical conventions)
abbrev pub first_of : ℕ → First
first_of b =
    if is_blank b then Blank
    else if is_name_start b then Letter
    else if b == 92 then Backslash
    else if b == 36 then Dollar
    else if b == 34 then Quote
    else if b == 96 then Tick
    else if b == 39 then Apostrophe
    else if b == 47 then Slash
    else if b == 40 then Paren
    else if is_graphic b then Mark
    else Bad

-- whether bytes are a text
abbrev pub same_bytes : List ℕ → List ℕ → Bool
same_bytes = pointwise nat_eq
