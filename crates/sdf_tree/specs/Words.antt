-- What words are by what stands in them (IEEE 1497-2001, the clause on lexical elements).
use Rattle.std.specs.Prelude.{ℕ, ℤ, pos, neg_ℤ, ◌+ℤ◌, ◌==◌, ◌||◌, ◌&&◌, Bool, true, false, List, [], ◌∷◌, take, drop, Option, Some, None, bytes_eq, codes, if◌then◌else◌}
use Rattle.std.specs.Char.{is_ascii_digit}
use Rattle.std.specs.List.{list_all, prefix_len}
use Rattle.sg_time.specs.Spelling.{number_from}
use Rattle.sg_logic.specs.declared.values.Value.{Value}
use Rattle.sg_logic.specs.declared.values.Value.TheVariants as value
use Rattle.vl_token.specs.declared.bases.Base.{Base}
use Rattle.vl_token.specs.Constants.{base_of, is_digit_of, own_bits, to_width}
use Rattle.sdf_lex.specs.Names.{is_name, is_instance_name, path_parts}
use Rattle.sdf_tree.specs.declared.words.Divider.{Divider}
use Rattle.sdf_tree.specs.declared.words.Divider.TheVariants.{Point, Slash}

-- ---- names

-- the byte that joins the names of a path
abbrev pub divider_byte : Divider → ℕ
divider_byte Point = 46
divider_byte Slash = 47

-- an instance below the top is a name, or several that are joined, in which brackets may stand
unfoldable pub is_instance_path : Divider → List ℕ → Bool
is_instance_path divider text = list_all is_instance_name (path_parts (divider_byte divider) text)

-- the parts of a path before its last, which lead to it, and the last
abbrev pub leading : List (List ℕ) → List (List ℕ)
leading [] = []
leading (p ∷ []) = []
leading (p ∷ q ∷ ps) = p ∷ leading (q ∷ ps)

abbrev pub last_part : List (List ℕ) → List ℕ
last_part [] = []
last_part (p ∷ []) = p
last_part (p ∷ q ∷ ps) = last_part (q ∷ ps)

-- names of instances, and behind them one without brackets
abbrev pub is_port_of : List (List ℕ) → Bool
is_port_of parts = list_all is_instance_name (leading parts) && is_name (last_part parts)

-- a port is a name, behind those of the instances that lead to it
unfoldable pub is_port_path : Divider → List ℕ → Bool
is_port_path divider text = is_port_of (path_parts (divider_byte divider) text)

-- ---- numbers and constants

-- a sign, a digit or a point
abbrev pub is_number_start : ℕ → Bool
is_number_start b = is_ascii_digit b || ((b == 43) || ((b == 45) || (b == 46)))

abbrev pub begins_number : List ℕ → Bool
begins_number [] = false
begins_number (b ∷ bs) = is_number_start b

-- the only one of some bits
abbrev pub single_bit : List Value → Option Value
single_bit [] = None
single_bit (v ∷ []) = Some v
single_bit (v ∷ w ∷ vs) = None

-- the bit of a constant of width 1, or of one without a width that has one bit
abbrev pub bit_in : (sized : Bool) → Option (List Value) → Option Value
bit_in sized None = None
bit_in true (Some bits) = single_bit (to_width 1 bits)
bit_in false (Some bits) = single_bit bits

abbrev pub bit_of : (sized : Bool) → Option Base → List ℕ → Option Value
bit_of sized None digits = None
bit_of sized (Some base) [] = None
bit_of sized (Some base) (d ∷ ds) = if list_all (is_digit_of base) (d ∷ ds) then bit_in sized (own_bits base (d ∷ ds)) else None

-- an apostrophe, the letter of a base, and its digits
abbrev pub based_bit : (sized : Bool) → List ℕ → Option Value
based_bit sized [] = None
based_bit sized (q ∷ []) = None
based_bit sized (q ∷ letter ∷ digits) = if q == 39 then bit_of sized (base_of letter) digits else None

-- behind the digits of a width, which is 1 if there is one
abbrev pub behind_width : (width behind : List ℕ) → Option Value
behind_width [] behind = based_bit false behind
behind_width (d ∷ ds) behind = if number_from 0 (d ∷ ds) == 1 then based_bit true behind else None

abbrev pub constant_with_base : List ℕ → Option Value
constant_with_base text = behind_width (take (prefix_len is_ascii_digit text) text) (drop (prefix_len is_ascii_digit text) text)

-- The value of a constant of a condition: 0, 1, or a constant of one bit with a base as netlists have them (IEEE 1364-2005, the
-- clause on integer constants). A width may have zeros in front.
unfoldable pub constant_of : List ℕ → Option Value
constant_of text =
    if bytes_eq text (codes "0") then Some value.Zero
    else if bytes_eq text (codes "1") then Some value.One
    else constant_with_base text

-- ---- the unit of time

-- the power of ten of 1, 10 or 100
abbrev pub scale_power : List ℕ → Option ℕ
scale_power text =
    if bytes_eq text (codes "1") || bytes_eq text (codes "1.0") then Some 0
    else if bytes_eq text (codes "10") || bytes_eq text (codes "10.0") then Some 1
    else if bytes_eq text (codes "100") || bytes_eq text (codes "100.0") then Some 2
    else None

-- the power of ten of seconds that a unit is
abbrev pub unit_power : List ℕ → Option ℤ
unit_power text =
    if bytes_eq text (codes "s") then Some (pos 0)
    else if bytes_eq text (codes "ms") then Some (neg_ℤ (pos 3))
    else if bytes_eq text (codes "us") then Some (neg_ℤ (pos 6))
    else if bytes_eq text (codes "ns") then Some (neg_ℤ (pos 9))
    else if bytes_eq text (codes "ps") then Some (neg_ℤ (pos 12))
    else if bytes_eq text (codes "fs") then Some (neg_ℤ (pos 15))
    else None

abbrev pub scaled : Option ℕ → Option ℤ → Option ℤ
scaled (Some n) (Some unit) = Some (pos n +ℤ unit)
scaled None unit = None
scaled (Some n) None = None

-- how many bytes at the front are digits and points
abbrev pub scale_len : List ℕ → ℕ
scale_len text = prefix_len (λ b. is_ascii_digit b || (b == 46)) text

-- the power of a number and a unit in one word
abbrev pub joined_power : List ℕ → Option ℤ
joined_power text = scaled (scale_power (take (scale_len text) text)) (unit_power (drop (scale_len text) text))

-- ---- the divider

-- the divider that a word is
abbrev pub divider_of : List ℕ → Option Divider
divider_of text = if bytes_eq text (codes ".") then Some Point else if bytes_eq text (codes "/") then Some Slash else None
