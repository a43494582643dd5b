-- Numbers as a dump has them, and ranges of them.
use Rattle.std.specs.Prelude.{◌≡◌, ℕ, ℤ, pos, negsuc, nat_abs, suc, ◌+◌, ◌-◌, ◌*◌, ◌/◌, ◌%◌, ◌^◌, ◌<◌, ◌≤◌, ◌==◌, ◌&&◌, ◌||◌, not, nat_lt, nat_le, Bool, true, false, cond, if◌then◌else◌, List, [], ◌∷◌, ◌++◌, length, take, drop, codes, decimal, refl}
use Rattle.std.specs.List.{list_all, prefix_len}
use Rattle.std.specs.Char.{is_ascii_digit}
use Rattle.std.specs.Fmt.{signed_decimal}
use Rattle.std.proofs.Common.{sym, ◌∙◌, ap, subst, arith}
use Rattle.std.proofs.lemmas.Bool.{and_from, and_parts, eqb-true, false_from_ne_true, le-leb, lt-ltb, not_from_false, or_from, or_right}
use Rattle.std.proofs.lemmas.Fmt.{decimal_by_steps, decimal_nonempty, length-decimal-le}
use Rattle.std.proofs.lemmas.List.{append_assoc, drop_at, length-append, reverse-append, reverse-reverse, take_at}
use Rattle.std.proofs.lemmas.List.Folds.{list_all-append}
use Rattle.sg_circuit.specs.declared.scopes.Range.{Range}
use Rattle.sg_time.specs.Spelling.{number_from}
use Rattle.vcd_form.specs.Kinds.{are_digits, cut, ends_in_bracket, has_text, is_inside, is_int, is_number, is_range, is_range_text, is_time_text, is_width, is_width_text, kind_of_text}
use Rattle.vcd_form.specs.Words.{is_blank}
use Rattle.vcd_laws.proofs.Entries.{range_word}
use Rattle.vcd_laws.proofs.Rows.{is_long, is_word}
use Rattle.vcd_laws.proofs.WordKinds.{range_word as range_kind, text_word}

-- ---- decimals

number-append : (n : ℕ) (xs ys : List ℕ) → number_from n (xs ++ ys) ≡ number_from (number_from n xs) ys
number-append n [] ys = refl
number-append n (x ∷ xs) ys = number-append (n * 10 + (x - 48)) xs ys

digit_is : (d : ℕ) → d < 10 → is_ascii_digit (48 + d) ≡ true
digit_is d l = and_from (nat_le 48 (48 + d)) (nat_le (48 + d) 57) (le-leb 48 (48 + d) (omega arith)) (le-leb (48 + d) 57 (omega arith))

record IsDecimal (n : ℕ) (ds : List ℕ) : Type 0 where
  digits : list_all is_ascii_digit ds ≡ true
  number : number_from 0 ds ≡ n

one_digit : (n : ℕ) → n < 10 → IsDecimal n ((48 + n) ∷ [])
one_digit n l = record { digits = and_from (is_ascii_digit (48 + n)) true (digit_is n l) refl; number = (let q : 0 * 10 + (48 + n - 48) ≡ n = omega arith in q) }

more_digits : (n : ℕ) (ds : List ℕ) → 10 ≤ n → IsDecimal (n / 10) ds → IsDecimal n (ds ++ (48 + n % 10) ∷ [])
more_digits n ds l h = record {
  digits = list_all-append is_ascii_digit ds ((48 + n % 10) ∷ []) ∙ and_from (list_all is_ascii_digit ds) (list_all is_ascii_digit ((48 + n % 10) ∷ [])) h.digits (and_from (is_ascii_digit (48 + n % 10)) true (digit_is (n % 10) (omega arith)) refl);
  number = number-append 0 ds ((48 + n % 10) ∷ []) ∙ (ap (λ m. m * 10 + (48 + n % 10 - 48)) h.number ∙ (let q : n / 10 * 10 + (48 + n % 10 - 48) ≡ n = omega arith in q));
}

is_decimal : (n : ℕ) → n < 2 ^ 64 → IsDecimal n (decimal n)
is_decimal n l = decimal_by_steps IsDecimal one_digit more_digits n l

pub decimal_number : (n : ℕ) → n < 2 ^ 64 → number_from 0 (decimal n) ≡ n
decimal_number n l = (is_decimal n l).number

pub decimal_digits : (n : ℕ) → n < 2 ^ 64 → are_digits (decimal n) ≡ true
decimal_digits n l = and_from (nat_lt 0 (length (decimal n))) (list_all is_ascii_digit (decimal n)) (lt-ltb 0 (length (decimal n)) (decimal_nonempty n l)) (is_decimal n l).digits

-- digits are no blanks, and no other byte that is none
not_digit : (c b : ℕ) → is_ascii_digit c ≡ false → is_ascii_digit b ≡ true → (b == c) ≡ false
not_digit c b n h = false_from_ne_true (b == c) (λ e. (let q : false ≡ true = sym n ∙ (ap is_ascii_digit (sym (eqb-true b c e)) ∙ h) in cc))

digit_no_blank : (b : ℕ) → is_ascii_digit b ≡ true → not (is_blank b) ≡ true
digit_no_blank b h =
    not_from_false (is_blank b) (or_from ((b == 32) || (b == 9) || (b == 10)) (b == 13) (or_from ((b == 32) || (b == 9)) (b == 10) (or_from (b == 32) (b == 9) (not_digit 32 b refl h) (not_digit 9 b refl h)) (not_digit 10 b refl h)) (not_digit 13 b refl h))

digits_no_blank : (bs : List ℕ) → list_all is_ascii_digit bs ≡ true → list_all (λ b. not (is_blank b)) bs ≡ true
digits_no_blank [] h = refl
digits_no_blank (b ∷ bs) h = (let p = and_parts (is_ascii_digit b) (list_all is_ascii_digit bs) h in and_from (not (is_blank b)) (list_all (λ x. not (is_blank x)) bs) (digit_no_blank b p.0) (digits_no_blank bs p.1))

pub decimal_word : (n : ℕ) → n < 2 ^ 64 → is_word (decimal n) ≡ true
decimal_word n l = (let p = and_parts (nat_lt 0 (length (decimal n))) (list_all is_ascii_digit (decimal n)) (decimal_digits n l) in and_from (is_long (decimal n)) (list_all (λ b. not (is_blank b)) (decimal n)) p.0 (digits_no_blank (decimal n) p.1))

-- ---- a width

digits_text : (is : List ℕ → Bool) (ds : List ℕ) → are_digits ds ≡ true → is ds ≡ true → has_text is (kind_of_text ds) ≡ true
digits_text is [] d h = absurd (let q : false ≡ true = d in cc)
digits_text is (b ∷ bs) d h = text_word is b bs (λ e. (let q : false ≡ true = sym (not_digit 36 b refl (and_parts (is_ascii_digit b) (list_all is_ascii_digit bs) (and_parts (nat_lt 0 (length (b ∷ bs))) (list_all is_ascii_digit (b ∷ bs)) d).1).0) ∙ ap (λ x. x == 36) e in cc)) h

power_step : (k n : ℕ) → n < 10 ^ 9 → n < 2 ^ 64
power_step k n l = omega arith

pub width_word : (n : ℕ) → 0 < n → n < 10 ^ 9 → is_width (kind_of_text (decimal n)) ≡ true
width_word n p l =
    let small : n < 2 ^ 64 = power_step 0 n l in
    let d : are_digits (decimal n) ≡ true = decimal_digits n small in
    digits_text is_width_text (decimal n) d
    (and_from (are_digits (decimal n) && nat_le (length (decimal n)) 9) (nat_lt 0 (number_from 0 (decimal n))) (and_from (are_digits (decimal n)) (nat_le (length (decimal n)) 9) d (le-leb (length (decimal n)) 9 (length-decimal-le 9 n (omega arith) l small)))
    (lt-ltb 0 (number_from 0 (decimal n)) (subst (λ m. 0 < m) (sym (decimal_number n small)) p)))

-- ---- a time

pub time_text : (t : ℕ) → t < 2 ^ 64 → is_time_text (35 ∷ decimal t) ≡ true
time_text t l = decimal_digits t l

pub time_is_word : (t : ℕ) → t < 2 ^ 64 → is_word (35 ∷ decimal t) ≡ true
time_is_word t l = (let p = and_parts (is_long (decimal t)) (list_all (λ b. not (is_blank b)) (decimal t)) (decimal_word t l) in and_from (is_long (35 ∷ decimal t)) (list_all (λ b. not (is_blank b)) (35 ∷ decimal t)) (lt-ltb 0 (length (35 ∷ decimal t)) (omega arith)) p.1)

-- ---- a range

-- of fewer than 19 digits
abbrev pub IsShort : ℤ → Type 0
IsShort z = nat_abs z < 10 ^ 18

short_number : (n : ℕ) → n < 10 ^ 18 → is_number (decimal n) ≡ true
short_number n l =
    let small : n < 2 ^ 64 = omega arith in
    and_from (are_digits (decimal n)) (nat_le (length (decimal n)) 18) (decimal_digits n small) (le-leb (length (decimal n)) 18 (length-decimal-le 18 n (omega arith) l small))

number_int : (bs : List ℕ) → is_number bs ≡ true → is_int bs ≡ true
number_int [] h = absurd (let q : false ≡ true = h in cc)
number_int (b ∷ bs) h =
    let d = and_parts (are_digits (b ∷ bs)) (nat_le (length (b ∷ bs)) 18) h in
    let e = and_parts (nat_lt 0 (length (b ∷ bs))) (list_all is_ascii_digit (b ∷ bs)) d.0 in
    ap (λ t. if t then is_number bs else is_number (b ∷ bs)) (not_digit 45 b refl (and_parts (is_ascii_digit b) (list_all is_ascii_digit bs) e.1).0) ∙ h

short_int : (z : ℤ) → IsShort z → is_int (signed_decimal z) ≡ true
short_int (pos n) l = number_int (decimal n) (short_number n l)
short_int (negsuc n) l = short_number (suc n) l

-- the bytes of a signed decimal
abbrev is_int_byte : ℕ → Bool
is_int_byte b = is_ascii_digit b || (b == 45)

digits_bytes : (bs : List ℕ) → list_all is_ascii_digit bs ≡ true → list_all is_int_byte bs ≡ true
digits_bytes [] h = refl
digits_bytes (b ∷ bs) h = (let p = and_parts (is_ascii_digit b) (list_all is_ascii_digit bs) h in and_from (is_int_byte b) (list_all is_int_byte bs) (ap (λ t. t || (b == 45)) p.0) (digits_bytes bs p.1))

int_bytes : (z : ℤ) → IsShort z → list_all is_int_byte (signed_decimal z) ≡ true
int_bytes (pos n) l = digits_bytes (decimal n) (is_decimal n (let m : n < 10 ^ 18 = l in omega arith)).digits
int_bytes (negsuc n) l = digits_bytes (decimal (suc n)) (is_decimal (suc n) (let m : suc n < 10 ^ 18 = l in omega arith)).digits

other_int : (test : ℕ → Bool) (b : ℕ) → (is_ascii_digit b ≡ true → test b ≡ true) → test 45 ≡ true → is_int_byte b ≡ true → test b ≡ true
other_int test b digit minus h = at (is_ascii_digit b) refl h
  where
    at : (t : Bool) → is_ascii_digit b ≡ t → (t || (b == 45)) ≡ true → test b ≡ true
    at true e k = digit e
    at false e k = ap test (eqb-true b 45 k) ∙ minus

ints_all : (test : ℕ → Bool) (bs : List ℕ) → ((b : ℕ) → is_ascii_digit b ≡ true → test b ≡ true) → test 45 ≡ true → list_all is_int_byte bs ≡ true → list_all test bs ≡ true
ints_all test [] digit minus h = refl
ints_all test (b ∷ bs) digit minus h = (let p = and_parts (is_int_byte b) (list_all is_int_byte bs) h in and_from (test b) (list_all test bs) (other_int test b (digit b) minus p.0) (ints_all test bs digit minus p.1))

no_colon : (z : ℤ) → IsShort z → list_all (λ b. not (b == 58)) (signed_decimal z) ≡ true
no_colon z l = ints_all (λ b. not (b == 58)) (signed_decimal z) (λ b d. not_from_false (b == 58) (not_digit 58 b refl d)) refl (int_bytes z l)

no_blanks : (z : ℤ) → IsShort z → list_all (λ b. not (is_blank b)) (signed_decimal z) ≡ true
no_blanks z l = ints_all (λ b. not (is_blank b)) (signed_decimal z) digit_no_blank refl (int_bytes z l)

front_of : (test : ℕ → Bool) (xs : List ℕ) (y : ℕ) (ys : List ℕ) → list_all test xs ≡ true → test y ≡ false → prefix_len test (xs ++ y ∷ ys) ≡ length xs
front_of test [] y ys h n = ap (λ b. cond b (1 + prefix_len test ys) 0) n
front_of test (x ∷ xs) y ys h n =
    let p = and_parts (test x) (list_all test xs) h in
    ap (λ b. cond b (1 + prefix_len test (xs ++ y ∷ ys)) 0) p.0 ∙ (ap (λ m. 1 + m) (front_of test xs y ys p.1 n) ∙ (let q : 1 + length xs ≡ suc (length xs) = omega arith in q))

inside_is : (l m : List ℕ) → list_all (λ b. not (b == 58)) l ≡ true → is_int l ≡ true → is_int m ≡ true → is_inside (l ++ 58 ∷ m) ≡ true
inside_is l m n h k =
    let c : cut (l ++ 58 ∷ m) ≡ length l = front_of (λ b. not (b == 58)) l 58 m n refl in
    let t : take (cut (l ++ 58 ∷ m)) (l ++ 58 ∷ m) ≡ l = ap (λ j. take j (l ++ 58 ∷ m)) c ∙ take_at l (58 ∷ m) (length l) refl in
    let d : drop (cut (l ++ 58 ∷ m) + 1) (l ++ 58 ∷ m) ≡ m = ap (λ j. drop (j + 1) (l ++ 58 ∷ m)) c ∙ (ap (λ xs. drop (length l + 1) xs) (sym (append_assoc l (58 ∷ []) m)) ∙ drop_at (l ++ 58 ∷ []) m (length l + 1) (length-append l (58 ∷ []))) in
    or_right (is_int (l ++ 58 ∷ m)) (is_int (take (cut (l ++ 58 ∷ m)) (l ++ 58 ∷ m)) && is_int (drop (cut (l ++ 58 ∷ m) + 1) (l ++ 58 ∷ m)))
    (and_from (is_int (take (cut (l ++ 58 ∷ m)) (l ++ 58 ∷ m))) (is_int (drop (cut (l ++ 58 ∷ m) + 1) (l ++ 58 ∷ m))) (ap is_int t ∙ h) (ap is_int d ∙ k))

-- what stands in the brackets
abbrev range_inside : Range → List ℕ
range_inside r = signed_decimal r.left ++ 58 ∷ signed_decimal r.right

range_shape : (r : Range) → range_word r ≡ 91 ∷ (range_inside r ++ 93 ∷ [])
range_shape r = ap (λ t. 91 ∷ t) (three (signed_decimal r.left) (codes ":") (signed_decimal r.right) (codes "]"))
  where
    three : (a b c d : List ℕ) → a ++ b ++ c ++ d ≡ (a ++ (b ++ c)) ++ d
    three a b c d = simp append_assoc

bracketed : (xs : List ℕ) → is_inside xs ≡ true → is_range_text (91 ∷ (xs ++ 93 ∷ [])) ≡ true
bracketed xs h = ap ends_in_bracket (reverse-append xs (93 ∷ [])) ∙ (ap is_inside (reverse-reverse xs) ∙ h)

pub range_is : (r : Range) → IsShort r.left → IsShort r.right → is_range (kind_of_text (range_word r)) ≡ true
range_is r l m =
    ap (λ w. is_range (kind_of_text w)) (range_shape r)
    ∙ range_kind (range_inside r ++ 93 ∷ []) (bracketed (range_inside r) (inside_is (signed_decimal r.left) (signed_decimal r.right) (no_colon r.left l) (short_int r.left l) (short_int r.right m)))

pub range_is_word : (r : Range) → IsShort r.left → IsShort r.right → is_word (range_word r) ≡ true
range_is_word r l m =
    ap is_word (range_shape r)
    ∙ and_from (is_long (91 ∷ (range_inside r ++ 93 ∷ []))) (list_all (λ b. not (is_blank b)) (91 ∷ (range_inside r ++ 93 ∷ []))) (lt-ltb 0 (length (91 ∷ (range_inside r ++ 93 ∷ []))) (omega arith))
    (list_all-append (λ b. not (is_blank b)) (range_inside r) (93 ∷ [])
    ∙ and_from (list_all (λ b. not (is_blank b)) (range_inside r)) true
    (list_all-append (λ b. not (is_blank b)) (signed_decimal r.left) (58 ∷ signed_decimal r.right) ∙ and_from (list_all (λ b. not (is_blank b)) (signed_decimal r.left)) (list_all (λ b. not (is_blank b)) (58 ∷ signed_decimal r.right)) (no_blanks r.left l) (no_blanks r.right m)) refl)
