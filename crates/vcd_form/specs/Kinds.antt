-- The kinds of word that the grammar tells apart (IEEE 1364-2005, 18.2.2, 18.2.3).
use Rattle.std.specs.Prelude.{ℕ, ℤ, pos, ◌+◌, negsuc, ◌+ℤ◌, Bool, true, false, ◌==◌, ◌&&◌, ◌||◌, not, List, [], ◌∷◌, length, take, drop, reverse, nat_lt, nat_le, Option, Some, None, is_some, bytes_eq, codes, if◌then◌else◌}
use Rattle.std.specs.List.{list_all, prefix_len}
use Rattle.std.specs.Char.{is_ascii_digit}
use Rattle.sg_time.specs.Spelling.{number_from}
use Rattle.vcd_form.specs.Words.{Word}

pub data Kind : Type 0 where
  -- `$date` and `$version`, `$comment`, `$timescale`, `$scope`, `$upscope`, `$var`, `$enddefinitions`
  remark_kind comment_kind timescale_kind scope_kind upscope_kind var_kind definitions_kind : Kind
  -- `$dumpvars`, `$dumpall`, `$dumpon`, `$dumpoff`; `$end`
  dump_kind end_kind : Kind
  -- a time; a value of one bit with its code; a value in bits; a real value; any other word
  time_kind scalar_kind vector_kind real_kind other_kind : (text : List ℕ) → Kind

-- ---- forms of words

-- a code is of bytes from 33 to 126 (18.2.1)
abbrev pub is_code_byte : ℕ → Bool
is_code_byte b = nat_le 33 b && nat_le b 126

abbrev pub is_code_text : List ℕ → Bool
is_code_text text = nat_lt 0 (length text) && list_all is_code_byte text

-- 0, 1, x and z, the letters in either case
abbrev pub is_value_byte : ℕ → Bool
is_value_byte b = (b == 48) || (b == 49) || (b == 120) || (b == 88) || (b == 122) || (b == 90)

-- behind its first byte a word is of one of these
abbrev pub begins_with : (ℕ → Bool) → (List ℕ → Bool) → List ℕ → Bool
begins_with is rest [] = false
begins_with is rest (b ∷ bs) = is b && rest bs

abbrev pub are_digits : List ℕ → Bool
are_digits text = nat_lt 0 (length text) && list_all is_ascii_digit text

-- `#` and digits
abbrev pub is_time_text : List ℕ → Bool
is_time_text = begins_with (λ b. b == 35) are_digits

-- a value and a code
abbrev pub is_scalar_text : List ℕ → Bool
is_scalar_text = begins_with is_value_byte is_code_text

-- `b` or `B` and values
abbrev pub are_values : List ℕ → Bool
are_values text = nat_lt 0 (length text) && list_all is_value_byte text

abbrev pub is_vector_text : List ℕ → Bool
is_vector_text = begins_with (λ b. (b == 98) || (b == 66)) are_values

-- `r` or `R` and anything
abbrev pub is_real_text : List ℕ → Bool
is_real_text = begins_with (λ b. (b == 114) || (b == 82)) (λ bs. true)

abbrev pub begins_keyword : List ℕ → Bool
begins_keyword = begins_with (λ b. b == 36) (λ bs. true)

abbrev pub value_kind_of : List ℕ → Kind
value_kind_of text =
    if is_time_text text then time_kind text else if is_scalar_text text then scalar_kind text
    else if is_vector_text text then vector_kind text else if is_real_text text then real_kind text
    else other_kind text

abbrev pub is_dump_text : List ℕ → Bool
is_dump_text text = bytes_eq text (codes "$dumpvars") || bytes_eq text (codes "$dumpall") || bytes_eq text (codes "$dumpon") || bytes_eq text (codes "$dumpoff")

abbrev pub later_kind_of : List ℕ → Kind
later_kind_of text =
    if bytes_eq text (codes "$timescale") then timescale_kind else if bytes_eq text (codes "$comment") then comment_kind
    else if bytes_eq text (codes "$date") || bytes_eq text (codes "$version") then remark_kind
    else if is_dump_text text then dump_kind else value_kind_of text

abbrev pub kind_of_text : List ℕ → Kind
kind_of_text text =
    if bytes_eq text (codes "$end") then end_kind else if bytes_eq text (codes "$var") then var_kind
    else if bytes_eq text (codes "$scope") then scope_kind else if bytes_eq text (codes "$upscope") then upscope_kind
    else if bytes_eq text (codes "$enddefinitions") then definitions_kind else later_kind_of text

abbrev pub kind_of : Word → Kind
kind_of w = kind_of_text w.bytes

-- ---- tests

abbrev pub is_remark : Kind → Bool
is_remark remark_kind = true
is_remark comment_kind = true
is_remark _ = false

abbrev pub is_comment : Kind → Bool
is_comment comment_kind = true
is_comment _ = false

abbrev pub is_timescale : Kind → Bool
is_timescale timescale_kind = true
is_timescale _ = false

abbrev pub is_scope : Kind → Bool
is_scope scope_kind = true
is_scope _ = false

abbrev pub is_upscope : Kind → Bool
is_upscope upscope_kind = true
is_upscope _ = false

abbrev pub is_var : Kind → Bool
is_var var_kind = true
is_var _ = false

abbrev pub is_definitions : Kind → Bool
is_definitions definitions_kind = true
is_definitions _ = false

abbrev pub is_end : Kind → Bool
is_end end_kind = true
is_end _ = false

-- any word but `$end`
abbrev pub is_any : Kind → Bool
is_any k = not (is_end k)

-- words without effect among the values
abbrev pub is_idle : Kind → Bool
is_idle dump_kind = true
is_idle end_kind = true
is_idle _ = false

abbrev pub is_time : Kind → Bool
is_time (time_kind text) = true
is_time _ = false

abbrev pub is_scalar : Kind → Bool
is_scalar (scalar_kind text) = true
is_scalar _ = false

abbrev pub is_vector : Kind → Bool
is_vector (vector_kind text) = true
is_vector _ = false

abbrev pub is_real : Kind → Bool
is_real (real_kind text) = true
is_real _ = false

-- a word that is no keyword, with such a text
abbrev pub has_text : (List ℕ → Bool) → Kind → Bool
has_text is (time_kind text) = is text
has_text is (scalar_kind text) = is text
has_text is (vector_kind text) = is text
has_text is (real_kind text) = is text
has_text is (other_kind text) = is text
has_text is _ = false

-- a code; each keyword but `$end` may be one
abbrev pub is_code : Kind → Bool
is_code (time_kind text) = is_code_text text
is_code (scalar_kind text) = is_code_text text
is_code (vector_kind text) = is_code_text text
is_code (real_kind text) = is_code_text text
is_code (other_kind text) = is_code_text text
is_code end_kind = false
is_code _ = true

-- one to nine digits that say more than 0 (18.2.3.8)
abbrev pub is_width_text : List ℕ → Bool
is_width_text text = are_digits text && nat_le (length text) 9 && nat_lt 0 (number_from 0 text)

abbrev pub is_width : Kind → Bool
is_width = has_text is_width_text

-- ---- ranges

-- 1 to 18 digits, perhaps behind a `-`
abbrev pub is_number : List ℕ → Bool
is_number text = are_digits text && nat_le (length text) 18

abbrev pub is_int : List ℕ → Bool
is_int [] = false
is_int (b ∷ bs) = if b == 45 then is_number bs else is_number (b ∷ bs)

-- such a number, or two with a `:` between them
abbrev pub cut : List ℕ → ℕ
cut text = prefix_len (λ b. not (b == 58)) text

abbrev pub is_inside : List ℕ → Bool
is_inside text = is_int text || (is_int (take (cut text) text) && is_int (drop (cut text + 1) text))

-- in brackets
abbrev pub ends_in_bracket : List ℕ → Bool
ends_in_bracket [] = false
ends_in_bracket (b ∷ bs) = (b == 93) && is_inside (reverse bs)

abbrev pub is_range_text : List ℕ → Bool
is_range_text = begins_with (λ b. b == 91) (λ bs. ends_in_bracket (reverse bs))

abbrev pub is_range : Kind → Bool
is_range (other_kind text) = is_range_text text
is_range _ = false

-- ---- the timescale (18.2.3.5)

abbrev pub scale_power : List ℕ → Option ℤ
scale_power text =
    if bytes_eq text (codes "1") then Some (pos 0) else if bytes_eq text (codes "10") then Some (pos 1)
    else if bytes_eq text (codes "100") then Some (pos 2) else None

abbrev pub unit_power : List ℕ → Option ℤ
unit_power text =
    if bytes_eq text (codes "s") then Some (pos 0) else if bytes_eq text (codes "ms") then Some (negsuc 2)
    else if bytes_eq text (codes "us") then Some (negsuc 5) else if bytes_eq text (codes "ns") then Some (negsuc 8)
    else if bytes_eq text (codes "ps") then Some (negsuc 11) else if bytes_eq text (codes "fs") then Some (negsuc 14)
    else None

abbrev pub power_sum : Option ℤ → Option ℤ → Option ℤ
power_sum (Some p) (Some q) = Some (p +ℤ q)
power_sum (Some p) None = None
power_sum None q = None

-- a number and a unit in one word
abbrev pub joined_power : List ℕ → Option ℤ
joined_power text = let n = prefix_len is_ascii_digit text in power_sum (scale_power (take n text)) (unit_power (drop n text))

abbrev pub is_scale : Kind → Bool
is_scale = has_text (λ text. is_some (scale_power text))

abbrev pub is_unit : Kind → Bool
is_unit = has_text (λ text. is_some (unit_power text))

-- a number alone is none
abbrev pub is_joined : Kind → Bool
is_joined = has_text (λ text. not (is_some (scale_power text)) && is_some (joined_power text))
