-- Numbers as a file has them are words of digits.
use Rattle.std.specs.Prelude.{◌≡◌, ℕ, ℤ, pos, negsuc, suc, ◌+◌, ◌-◌, ◌*◌, ◌/◌, ◌%◌, ◌^◌, ◌<◌, ◌≤◌, ◌==◌, ◌||◌, nat_le, unsigned_abs, true, false, List, [], ◌∷◌, ◌++◌, length, decimal, Some, None, Result, Ok, filter}
use Rattle.std.specs.List.{list_all}
use Rattle.std.specs.Char.{is_ascii_digit}
use Rattle.std.specs.Fmt.{signed_decimal}
use Rattle.std.proofs.Common.{refl, sym, ◌∙◌, ap, subst, arith}
use Rattle.std.proofs.lemmas.Bool.{and_from, and_parts, le-leb, lt-ltb, or_left}
use Rattle.std.proofs.lemmas.Fmt.{decimal_by_steps, decimal_nonempty, length-decimal-le}
use Rattle.std.proofs.lemmas.List.{append-nil}
use Rattle.std.proofs.lemmas.List.Folds.{list_all-append}
use Rattle.std.specs.Result.{is_err}
use Rattle.sg_time.specs.declared.decimal.TimeError.{TimeError}
use Rattle.sg_time.specs.Reading.{parts_of, said_of}
use Rattle.sg_time.specs.Spelling as time
use Rattle.sg_time.specs.Spelling.{number_from}
use Rattle.sg_time.proofs.Digits.{few_digits}
use Rattle.sg_time.proofs.Laws.{parts_again}
use Rattle.sdf_tree.specs.Meant.{decimal_of}
use Rattle.sdf_tree.specs.Words.{begins_number, is_number_start}

number-append : (n : ℕ) (xs ys : List ℕ) → number_from n (xs ++ ys) ≡ number_from (number_from n xs) ys
number-append n [] ys = refl
number-append n (x ∷ xs) ys = number-append (n * 10 + (x - 48)) xs ys

digit_is : (d : ℕ) → d < 10 → is_ascii_digit (48 + d) ≡ true
digit_is d l = and_from (nat_le 48 (48 + d)) (nat_le (48 + d) 57) (le-leb 48 (48 + d) (omega arith)) (le-leb (48 + d) 57 (omega arith))

pub record IsDecimal (n : ℕ) (ds : List ℕ) : Type 0 where
  pub digits : list_all is_ascii_digit ds ≡ true
  pub number : number_from 0 ds ≡ n

one_digit : (n : ℕ) → n < 10 → IsDecimal n ((48 + n) ∷ [])
one_digit n l = record { digits = and_from (is_ascii_digit (48 + n)) true (digit_is n l) refl; number = (let q : 0 * 10 + (48 + n - 48) ≡ n = omega arith in q) }

more_digits : (n : ℕ) (ds : List ℕ) → 10 ≤ n → IsDecimal (n / 10) ds → IsDecimal n (ds ++ (48 + n % 10) ∷ [])
more_digits n ds l h = record {
  digits = list_all-append is_ascii_digit ds ((48 + n % 10) ∷ []) ∙ and_from (list_all is_ascii_digit ds) (list_all is_ascii_digit ((48 + n % 10) ∷ [])) h.digits (and_from (is_ascii_digit (48 + n % 10)) true (digit_is (n % 10) (omega arith)) refl);
  number = number-append 0 ds ((48 + n % 10) ∷ []) ∙ (ap (λ m. m * 10 + (48 + n % 10 - 48)) h.number ∙ (let q : n / 10 * 10 + (48 + n % 10 - 48) ≡ n = omega arith in q));
}

pub is_decimal : (n : ℕ) → n < 2 ^ 64 → IsDecimal n (decimal n)
is_decimal n l = decimal_by_steps IsDecimal one_digit more_digits n l

-- ---- a decimal is a word that begins like a number

starts : (b : ℕ) → is_ascii_digit b ≡ true → is_number_start b ≡ true
starts b h = or_left (is_ascii_digit b) ((b == 43) || ((b == 45) || (b == 46))) h

begins : (ds : List ℕ) → 0 < length ds → list_all is_ascii_digit ds ≡ true → begins_number ds ≡ true
begins [] some h = absurd (omega (arith, some))
begins (d ∷ ds) some h = starts d (and_parts (is_ascii_digit d) (list_all is_ascii_digit ds) h).0

pub decimal_begins : (n : ℕ) → n < 2 ^ 64 → begins_number (decimal n) ≡ true
decimal_begins n l = begins (decimal n) (decimal_nonempty n l) (is_decimal n l).digits

pub signed_begins : (z : ℤ) → unsigned_abs z < 10 ^ 18 → begins_number (signed_decimal z) ≡ true
signed_begins (pos n) l = decimal_begins n (let m : n < 10 ^ 18 = l in omega arith)
signed_begins (negsuc n) l = refl

-- ---- it is read as its number

digits_only : (ds : List ℕ) → list_all is_ascii_digit ds ≡ true → filter is_ascii_digit ds ≡ ds
digits_only [] h = refl
digits_only (d ∷ ds) h = let p = and_parts (is_ascii_digit d) (list_all is_ascii_digit ds) h in rw p.0 (ap (λ xs. d ∷ xs) (digits_only ds p.1))

digits_run : (ds : List ℕ) → list_all is_ascii_digit ds ≡ true → list_all time.is_run_byte ds ≡ true
digits_run [] h = refl
digits_run (d ∷ ds) h = let p = and_parts (is_ascii_digit d) (list_all is_ascii_digit ds) h in and_from (time.is_run_byte d) (list_all time.is_run_byte ds) (or_left (is_ascii_digit d) (d == 95) p.0) (digits_run ds p.1)

is_run : (ds : List ℕ) → list_all is_ascii_digit ds ≡ true → time.IsRun ds
is_run [] h = tt
is_run (d ∷ ds) h = let p = and_parts (is_ascii_digit d) (list_all is_ascii_digit ds) h in (p.0, digits_run ds p.1)

module _ (sign : time.Sign) (ds : List ℕ) (n : ℕ) (is : IsDecimal n ds) (some : 0 < length ds) (few : n < 10 ^ 18) where
  abbrev spelling : time.Spelling
  spelling = record { sign = sign; whole = ds; fraction = None; power = None }

  spelled_so : time.IsSpelling spelling
  spelled_so = record { whole = is_run ds is.digits; fraction = tt; some = (let l : 0 < length ds + 0 = omega (arith, some) in l); power = tt }

  bytes_are : time.spelling_bytes spelling ≡ time.sign_bytes sign ++ ds
  bytes_are = ap (λ xs. time.sign_bytes sign ++ xs) (append-nil ds)

  digits_are : time.digits_of spelling ≡ ds
  digits_are = ap (λ xs. filter is_ascii_digit xs) (append-nil ds) ∙ digits_only ds is.digits

  abbrev number : time.Number
  number = record { negative = time.is_minus sign; digits = n; exponent = pos 0 }

  value_is : time.value_of spelling ≡ Ok number
  value_is = rw (few_digits (time.digits_of spelling) (ap (λ xs. list_all is_ascii_digit xs) digits_are ∙ is.digits) (subst (λ (m : ℕ). m < 10 ^ 18) (sym (ap (λ xs. number_from 0 xs) digits_are ∙ is.number)) few)) (ap made (ap (λ xs. number_from 0 xs) digits_are ∙ is.number))
    where
      made : ℕ → Result time.Number TimeError
      made m = Ok (record { negative = time.is_minus sign; digits = m; exponent = pos 0 })

  pub read_so : (text : List ℕ) → text ≡ time.sign_bytes sign ++ ds → length text < 2 ^ 30 → decimal_of text ≡ Ok number
  read_so text same short =
      let parts : parts_of text ≡ Some spelling = ap parts_of (same ∙ sym bytes_are) ∙ parts_again spelling spelled_so in
      rw (lt-ltb (length text) (2 ^ 30) short) (ap said_of parts ∙ value_is)

few_bytes : (n : ℕ) → n < 10 ^ 18 → length (decimal n) ≤ 18
few_bytes n l = length-decimal-le 18 n (omega arith) l (omega (arith, l))

pub decimal_read : (n : ℕ) → n < 10 ^ 18 → decimal_of (decimal n) ≡ Ok (record { negative = false; digits = n; exponent = pos 0 })
decimal_read n l =
    let wide : n < 2 ^ 64 = omega (arith, l) in
    let bytes = few_bytes n l in
    read_so time.none (decimal n) n (is_decimal n wide) (decimal_nonempty n wide) l (decimal n) refl (omega (arith, bytes))

pub signed_read : (z : ℤ) → unsigned_abs z < 10 ^ 18 → is_err (decimal_of (signed_decimal z)) ≡ false
signed_read (pos n) l = ap is_err (decimal_read n l)
signed_read (negsuc n) l =
    let small : suc n < 10 ^ 18 = l in
    let wide : suc n < 2 ^ 64 = omega (arith, small) in
    let bytes = few_bytes (suc n) small in
    ap is_err (read_so time.minus (decimal (suc n)) (suc n) (is_decimal (suc n) wide) (decimal_nonempty (suc n) wide) small (signed_decimal (negsuc n)) refl (omega (arith, bytes)))
