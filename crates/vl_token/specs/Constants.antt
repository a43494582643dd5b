-- The digits of constants with a base, and their bits, left first (IEEE 1364-2005, the clause on integer constants).
use Rattle.std.specs.Prelude.{ℕ, zero, suc, ◌-◌, ◌/◌, ◌%◌, ◌^◌, ◌==◌, ◌&&◌, ◌||◌, nat_lt, nat_le, List, [], ◌∷◌, ◌++◌, length, drop, replicate, Bool, true, false, Option, Some, None, unwrap_or, if◌then◌else◌}
use Rattle.std.specs.List.{flat_map}
use Rattle.std.specs.Char.{is_ascii_digit}
use Rattle.sg_time.specs.Spelling.{number_from}
use Rattle.sg_logic.specs.declared.values.Value.{Value}
use Rattle.sg_logic.specs.declared.values.Value.TheVariants.{Zero, One, X, Z}
use Rattle.vl_token.specs.declared.bases.Base.{Base}
use Rattle.vl_token.specs.declared.bases.Base.TheVariants.{Binary, Octal, Decimal, Hexadecimal}

-- the base that a letter names
abbrev pub base_of : ℕ → Option Base
base_of b =
    if (b == 98) || (b == 66) then Some Binary
    else if (b == 111) || (b == 79) then Some Octal
    else if (b == 100) || (b == 68) then Some Decimal
    else if (b == 104) || (b == 72) then Some Hexadecimal
    else None

-- the value of a hexadecimal digit; 16 where it is none
abbrev pub hex_value : ℕ → ℕ
hex_value b =
    if nat_le 48 b && nat_le b 57 then b - 48
    else if nat_le 97 b && nat_le b 102 then b - 87
    else if nat_le 65 b && nat_le b 70 then b - 55
    else 16

abbrev pub is_x : ℕ → Bool
is_x b = (b == 120) || (b == 88)

abbrev pub is_z : ℕ → Bool
is_z b = (b == 122) || (b == 90)

-- x, z, or a digit below the base
abbrev pub is_bits_digit : ℕ → ℕ → Bool
is_bits_digit base b = is_x b || is_z b || nat_lt (hex_value b) base

abbrev pub is_digit_of : Base → ℕ → Bool
is_digit_of Binary b = is_bits_digit 2 b
is_digit_of Octal b = is_bits_digit 8 b
is_digit_of Decimal b = is_ascii_digit b
is_digit_of Hexadecimal b = is_bits_digit 16 b

abbrev pub bit : ℕ → Value
bit n = if n == 0 then Zero else One

-- the lowest bits of a number, so many of them
unfoldable pub low_bits : ℕ → ℕ → List Value
low_bits zero n = []
low_bits (suc k) n = bit (n / 2 ^ k % 2) ∷ low_bits k n

abbrev pub is_zero : Value → Bool
is_zero Zero = true
is_zero _ = false

-- without the zeros on the left, but for a last one
abbrev pub fewest : List Value → List Value
fewest [] = []
fewest (b ∷ []) = b ∷ []
fewest (b ∷ c ∷ bs) = if is_zero b then fewest (c ∷ bs) else b ∷ c ∷ bs

abbrev pub digit_bits : ℕ → ℕ → List Value
digit_bits width d = if is_x d then replicate width X else if is_z d then replicate width Z else low_bits width (hex_value d)

-- the fewest bits that hold a decimal number, if it is below 2 ^ 64
abbrev pub decimal_bits : ℕ → Option (List Value)
decimal_bits n = if nat_lt n (2 ^ 64) then Some (fewest (low_bits 64 n)) else None

-- the bits that the digits spell
abbrev pub own_bits : Base → List ℕ → Option (List Value)
own_bits Binary digits = Some (flat_map (digit_bits 1) digits)
own_bits Octal digits = Some (flat_map (digit_bits 3) digits)
own_bits Decimal digits = decimal_bits (number_from 0 digits)
own_bits Hexadecimal digits = Some (flat_map (digit_bits 4) digits)

-- what bits are extended with on the left: x or z where the leftmost one is that, and else 0
abbrev pub extension : List Value → Value
extension [] = Zero
extension (Zero ∷ bits) = Zero
extension (One ∷ bits) = Zero
extension (X ∷ bits) = X
extension (Z ∷ bits) = Z

-- surplus bits on the left are dropped
abbrev pub to_width : ℕ → List Value → List Value
to_width width bits = replicate (width - length bits) (extension bits) ++ drop (length bits - width) bits

-- The bits of a constant without width, and of one with a width. No token has a decimal number of 2 ^ 64 or more, which
-- has none here.
abbrev pub unsized_bits : Base → List ℕ → List Value
unsized_bits base digits = unwrap_or (own_bits base digits) []

abbrev pub sized_bits : ℕ → Base → List ℕ → List Value
sized_bits width base digits = to_width width (unsized_bits base digits)
