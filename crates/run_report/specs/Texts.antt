-- Small texts that a report is made of.
use Rattle.std.specs.Prelude.{ℕ, ℤ, List, [], ◌++◌, ◌+◌, ◌==◌, Option, Some, None, codes, count_by, take}
use Rattle.std.specs.Fmt.{signed_decimal}

-- the line of a byte of a text, counted from 1: one more than the line feeds (byte 10) before it
abbrev pub line_of : List ℕ → ℕ → ℕ
line_of text byte = 1 + count_by (λ b. b == 10) (take byte text)

-- the index of a bit, if there is one
abbrev pub bit_text : Option ℤ → List ℕ
bit_text None = []
bit_text (Some i) = codes "[" ++ signed_decimal i ++ codes "]"
