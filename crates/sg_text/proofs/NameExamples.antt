-- Some names, simple and not.
use Rattle.std.specs.Prelude.{◌≡◌, codes, true, false, refl}
use Rattle.sg_text.specs.Names.{is_simple}

a_letter_then_digits : is_simple (codes "U1$_") ≡ true
a_letter_then_digits = refl

a_reserved_word_is_simple : is_simple (codes "wire") ≡ true
a_reserved_word_is_simple = refl

a_digit_begins_no_name : is_simple (codes "1U") ≡ false
a_digit_begins_no_name = refl

a_point_is_in_no_name : is_simple (codes "U1.Y") ≡ false
a_point_is_in_no_name = refl
