-- The bytes of decimals, by name.
use Rattle.std.specs.Prelude.{ℕ}

-- +
abbrev pub plus_byte : ℕ
plus_byte = 43

-- -
abbrev pub minus_byte : ℕ
minus_byte = 45

-- .
abbrev pub point_byte : ℕ
point_byte = 46

-- 0
abbrev pub zero_byte : ℕ
zero_byte = 48

-- E
abbrev pub upper_e_byte : ℕ
upper_e_byte = 69

-- _
abbrev pub underscore_byte : ℕ
underscore_byte = 95

-- e
abbrev pub lower_e_byte : ℕ
lower_e_byte = 101
