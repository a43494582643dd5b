-- The bytes of SDF files by what they begin (IEEE 1497-2001, the clause on lexical elements).
use Rattle.std.specs.Prelude.{ℕ, Bool, true, false, ◌==◌, ◌||◌, not, List, [], ◌∷◌, if◌then◌else◌}
use Rattle.std.specs.Char.{is_ascii_graphic, is_ascii_digit}
use Rattle.sg_text.specs.Names.{is_name_byte}
use Rattle.vl_pieces.specs.Bytes.{is_blank}
use Rattle.sdf_lex.specs.declared.bytes.ByteClass.{ByteClass}
use Rattle.sdf_lex.specs.declared.bytes.ByteClass.TheVariants as class

-- . [ ] and '
abbrev pub is_word_mark : ℕ → Bool
is_word_mark b = (b == 46) || (b == 91) || (b == 93) || (b == 39)

abbrev pub is_sign : ℕ → Bool
is_sign b = (b == 43) || (b == 45)

-- ~ ! & | ^ and =
abbrev pub is_operator_byte : ℕ → Bool
is_operator_byte b = (b == 126) || (b == 33) || (b == 38) || (b == 124) || (b == 94) || (b == 61)

-- letters, digits and _ $ . [ ] ' are plain
unfoldable pub class_of : ℕ → ByteClass
class_of b =
    if is_blank b then class.Blank
    else if is_name_byte b || is_word_mark b then class.Plain
    else if b == 47 then class.Slash
    else if is_sign b then class.Sign
    else if b == 92 then class.Backslash
    else if b == 34 then class.Quote
    else if is_operator_byte b then class.Operator
    else if is_ascii_graphic b then class.Mark
    else class.Bad

-- a control byte that is no blank, or a byte above 126, is bad
abbrev pub is_good : ByteClass → Bool
is_good class.Bad = false
is_good _ = true

abbrev pub is_unquoted : ℕ → Bool
is_unquoted b = not (b == 34)

-- a digit or a point
abbrev pub is_number_start : ℕ → Bool
is_number_start b = is_ascii_digit b || (b == 46)

abbrev pub begins_number : List ℕ → Bool
begins_number [] = false
begins_number (b ∷ bs) = is_number_start b

-- behind a slash: whether both begin a comment
abbrev pub begins_comment : List ℕ → Bool
begins_comment [] = false
begins_comment (b ∷ bs) = (b == 47) || (b == 42)

-- behind a backslash: whether there is a byte that it takes
abbrev pub begins_good : List ℕ → Bool
begins_good [] = false
begins_good (b ∷ bs) = is_good (class_of b)
