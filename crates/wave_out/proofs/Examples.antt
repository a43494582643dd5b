-- Small worked examples of the texts.
use Rattle.std.specs.Prelude.{◌≡◌, pos, negsuc, [], ◌∷◌, ◌++◌, codes, refl}
use Rattle.std.specs.Fmt.{digits}
use Rattle.sg_text.specs.Words.{reserved_rows, reserved_words}
use Rattle.sg_logic.specs.declared.values.Value.TheVariants.{Zero, One, X, Z}
use Rattle.wave_out.specs.Texts.{line, written_name}
use Rattle.wave_out.specs.Vcd.{code, tick_text, value_text, header}
use Rattle.wave_out.specs.Writing.{text_after}
use Rattle.wave_out.specs.Nested.{nested, nested_header, nested_calls, nested_dump}

-- the codes of the variables 0, 93, 94, 95 and of one with three bytes
pub code_0 : code 0 ≡ codes "!"
unfolding code
code_0 = refl

pub code_93 : code 93 ≡ codes "~"
unfolding code
code_93 = refl

pub code_94 : code 94 ≡ codes "!!"
unfolding code
code_94 = refl

pub code_95 : code 95 ≡ codes "\"!"
unfolding code
code_95 = refl

pub code_8930 : code 8930 ≡ codes "!!!"
unfolding code
code_8930 = refl

-- ticks
pub tick_100s : tick_text (pos 2) ≡ codes "100 s"
tick_100s = refl

pub tick_1s : tick_text (pos 0) ≡ codes "1 s"
tick_1s = refl

pub tick_100ms : tick_text (negsuc 0) ≡ codes "100 ms"
tick_100ms = refl

pub tick_1ns : tick_text (negsuc 8) ≡ codes "1 ns"
tick_1ns = refl

pub tick_10fs : tick_text (negsuc 13) ≡ codes "10 fs"
tick_10fs = refl

pub tick_1fs : tick_text (negsuc 14) ≡ codes "1 fs"
tick_1fs = refl

-- names: simple, reserved, and none of both
pub simple_name : written_name (codes "a_1$") ≡ codes "a_1$"
unfolding reserved_words reserved_rows
simple_name = refl

pub reserved_name : written_name (codes "wire") ≡ codes "\\wire"
unfolding reserved_words reserved_rows
reserved_name = refl

pub other_name : written_name (codes "a+b") ≡ codes "\\a+b"
other_name = refl

-- values: of one bit, and of a vector with all its bits, left first
pub one_bit : value_text (X ∷ []) ≡ codes "x"
one_bit = refl

pub four_bits : value_text (Zero ∷ One ∷ X ∷ Z ∷ []) ≡ codes "b01xz "
four_bits = refl

-- scopes in scopes: variables first, then the child scopes in order
pub header_of_nested : header nested ≡ nested_header
unfolding header code digits reserved_words reserved_rows
header_of_nested = refl

-- the calls of a run, with an end
pub dump_of_nested : text_after nested nested_calls ≡ nested_dump
unfolding header code digits reserved_words reserved_rows
dump_of_nested = refl
