-- Numbers that are written are read as they were, in ticks.
use Rattle.std.proofs.Common.{◌≡◌, suc, ◌<◌, ◌≤◌, Bool, true, false, List, [], ◌∷◌, ◌++◌, length, refl, sym, ◌∙◌, ap, subst, arith, append-nil, inl, inr}
use Rattle.std.specs.Prelude.{ℕ, ◌+◌, ◌-◌, ◌*◌, ◌||◌, nat_le, ◌/◌, ◌%◌, ◌^◌, ◌==◌, nat_lt, cond, ℤ, pos, negsuc, ◌+ℤ◌, ◌-ℤ◌, ◌≤ℤ◌, unsigned_abs, filter, decimal, Some, None, Ok, Err, if◌then◌else◌}
use Rattle.std.specs.Char.{is_ascii_digit}
use Rattle.std.specs.Fmt.{signed_decimal}
use Rattle.std.specs.List.{list_all}
use Rattle.std.proofs.Math.Nat.{mul-le-mul_left, div-add-mod, one-le-pow}
use Rattle.std.proofs.lemmas.Bool.{and_parts, and_from, cases_lt, eqb-true, lt-ltb, le-leb}
use Rattle.std.proofs.lemmas.Fmt.{decimal_by_steps, length-decimal-le}
use Rattle.std.proofs.lemmas.Int.{ints}
use Rattle.std.proofs.lemmas.List.{length-append}
use borrow.Author.Differences.{up, down}
use Rattle.sg_time.specs.Reading.{parts_of, said_of}
use Rattle.sg_time.specs.Spelling.{Sign, none, plus, minus, is_minus, sign_bytes, is_run_byte, IsRun, Spelling, IsSpelling, number_from, significant_digits, digits_of, Number}
use Rattle.sg_time.specs.declared.decimal.TimeError.TheVariants as error
use Rattle.sg_time.specs.Ticks.{above, below, nearest, tick_count, with_sign}
use Rattle.sg_time.proofs.Digits.{number_from-append, few_digits}
use Rattle.sg_time.proofs.Laws.{parts_again}
use Rattle.sg_time.proofs.ScalingLaws.{nearest-near}
use Rattle.sg_delay.specs.declared.corners.Corner.{Corner}
use Rattle.sg_delay.specs.declared.corners.Corner.TheVariants.{Min, Typ, Max}
use Rattle.sdf_tree.specs.Meant as meant
use Rattle.sdf_tree.specs.Meant.{decimal_of, triple_of}
use Rattle.annotation_model.specs.Applied.{Grid, part_of, ticks_of, ticks_if, chosen}
use Rattle.written_model.specs.Tree.{number_of, lone}

-- ---- the digits of a number

record AreDigits (n : ℕ) (ds : List ℕ) : Type 0 where
  pub digits : list_all is_ascii_digit ds ≡ true
  pub number : number_from 0 ds ≡ n
  pub some : 0 < length ds

digit-is : (n : ℕ) → n < 10 → is_ascii_digit (48 + n) ≡ true
digit-is n l = and_from _ _ (low n) (high n l)
  where
    low : (k : ℕ) → nat_le 48 (48 + k) ≡ true
    low k = le-leb 48 (48 + k) (omega arith)

    high : (k : ℕ) → k < 10 → nat_le (48 + k) 57 ≡ true
    high k l = le-leb (48 + k) 57 (omega (arith, l))

all-append : (xs ys : List ℕ) → list_all is_ascii_digit xs ≡ true → list_all is_ascii_digit ys ≡ true → list_all is_ascii_digit (xs ++ ys) ≡ true
all-append [] ys e f = f
all-append (x ∷ xs) ys e f =
    let p = and_parts (is_ascii_digit x) (list_all is_ascii_digit xs) e in and_from (is_ascii_digit x) (list_all is_ascii_digit (xs ++ ys)) p.0 (all-append xs ys p.1 f)

one-digit : (n : ℕ) → n < 10 → AreDigits n ((48 + n) ∷ [])
one-digit n l = record { digits = and_from (is_ascii_digit (48 + n)) true (digit-is n l) refl; number = omega arith; some = omega arith }

more-digits : (n : ℕ) (ds : List ℕ) → 10 ≤ n → AreDigits (n / 10) ds → AreDigits n (ds ++ (48 + n % 10) ∷ [])
more-digits n ds l d =
    let r : n % 10 < 10 = omega arith in
    let q : n ≡ (n / 10) * 10 + n % 10 = omega arith in record {
      digits = all-append ds ((48 + n % 10) ∷ []) d.digits (and_from (is_ascii_digit (48 + n % 10)) true (digit-is (n % 10) r) refl);
      number = number_from-append 0 ds ((48 + n % 10) ∷ []) ∙ (ap (λ m. m * 10 + ((48 + n % 10) - 48)) d.number ∙ (let z : (n / 10) * 10 + ((48 + n % 10) - 48) ≡ n = omega (arith, q) in z));
      some = let e = length-append ds ((48 + n % 10) ∷ []) in omega (arith, e);
    }

decimal-digits : (n : ℕ) → n < 2 ^ 64 → AreDigits n (decimal n)
decimal-digits n l = decimal_by_steps AreDigits one-digit more-digits n l

-- ---- the number that they say

digits-alone : (ds : List ℕ) → list_all is_ascii_digit ds ≡ true → filter is_ascii_digit ds ≡ ds
digits-alone [] e = refl
digits-alone (d ∷ ds) e =
    let p = and_parts (is_ascii_digit d) (list_all is_ascii_digit ds) e in ap (λ b. cond b (d ∷ filter is_ascii_digit ds) (filter is_ascii_digit ds)) p.0 ∙ ap (λ xs. d ∷ xs) (digits-alone ds p.1)

runs : (ds : List ℕ) → list_all is_ascii_digit ds ≡ true → list_all is_run_byte ds ≡ true
runs [] e = refl
runs (d ∷ ds) e =
    let p = and_parts (is_ascii_digit d) (list_all is_ascii_digit ds) e in and_from (is_run_byte d) (list_all is_run_byte ds) (ap (λ b. b || (d == 95)) p.0) (runs ds p.1)

is-run : (ds : List ℕ) → list_all is_ascii_digit ds ≡ true → IsRun ds
is-run [] e = tt
is-run (d ∷ ds) e = let p = and_parts (is_ascii_digit d) (list_all is_ascii_digit ds) e in (p.0, runs ds p.1)

abbrev plain : Sign → List ℕ → Spelling
plain s ds = record { sign = s; whole = ds; fraction = None; power = None }

abbrev whole_number : Bool → ℕ → Number
whole_number negative n = record { negative = negative; digits = n; exponent = pos 0 }

plain-said : (s : Sign) (n : ℕ) (ds : List ℕ) → AreDigits n ds → n < 10 ^ 18 → said_of (parts_of (sign_bytes s ++ ds)) ≡ Ok (whole_number (is_minus s) n)
plain-said s n ds d l =
    ap (λ bs. said_of (parts_of (sign_bytes s ++ bs))) (sym (append-nil ds))
    ∙ (ap said_of (parts_again (plain s ds) spelling) ∙ (ap (λ b. if b then Err error.TooManyDigits else Ok (of (digits_of (plain s ds)))) few ∙ ap (λ xs. Ok (of xs)) all ∙ ap (λ m. Ok (whole_number (is_minus s) m)) d.number))
  where
    spelling : IsSpelling (plain s ds)
    spelling = record { whole = is-run ds d.digits; fraction = tt; some = omega (arith, d.some); power = tt }

    of : List ℕ → Number
    of xs = record { negative = is_minus s; digits = number_from 0 xs; exponent = pos 0 }

    all : digits_of (plain s ds) ≡ ds
    all = ap (filter is_ascii_digit) (append-nil ds) ∙ digits-alone ds d.digits

    few : nat_lt 18 (length (significant_digits (digits_of (plain s ds)))) ≡ false
    few = ap (λ xs. nat_lt 18 (length (significant_digits xs))) all ∙ few_digits ds d.digits (subst (λ m. m < 10 ^ 18) (sym d.number) l)

short-said : (s : Sign) (n : ℕ) → n < 10 ^ 18 → decimal_of (sign_bytes s ++ decimal n) ≡ Ok (whole_number (is_minus s) n)
short-said s n l =
    ap (λ b. if b then said_of (parts_of (sign_bytes s ++ decimal n)) else Err error.TooManyDigits) short ∙ plain-said s n (decimal n) (decimal-digits n (omega (arith, l))) l
  where
    sign-short : (s : Sign) → length (sign_bytes s) ≤ 1
    sign-short none = omega arith
    sign-short plus = omega arith
    sign-short minus = omega arith

    short : nat_lt (length (sign_bytes s ++ decimal n)) (2 ^ 30) ≡ true
    short = let e = length-append (sign_bytes s) (decimal n) in
        let few = length-decimal-le 18 n (omega arith) l (omega (arith, l)) in
        let one = sign-short s in lt-ltb (length (sign_bytes s ++ decimal n)) (2 ^ 30) (omega (arith, e, few, one))

-- ---- ticks

above-is : (z : ℤ) → above z ≡ up z
above-is (pos n) = omega arith
above-is (negsuc n) = omega arith

below-is : (z : ℤ) → below z ≡ down z
below-is (pos n) = omega arith
below-is (negsuc n) = omega arith

none-above : (t p : ℤ) → t ≤ℤ p → above (pos 0 +ℤ (t -ℤ p)) ≡ 0
none-above t p l = above-is (pos 0 +ℤ (t -ℤ p)) ∙ grind (arith, ints)

all-below : (t p : ℤ) → t ≤ℤ p → below (pos 0 +ℤ (t -ℤ p)) ≡ above (p -ℤ t)
all-below t p l = below-is (pos 0 +ℤ (t -ℤ p)) ∙ (grind (arith, ints) ∙ sym (above-is (p -ℤ t)))

-- a multiple is nearest to itself
nearest-whole : (q d : ℕ) → 0 < d → nearest (q * d) d ≡ q
nearest-whole q d l = elim (cases_lt q (nearest (q * d) d)) [
  | inl m ↦ absurd (let h = nearest-near (q * d) d l in let k = mul-le-mul_left (2 * d) m in omega (arith, h, k, l))
  | inr m ↦ elim (cases_lt (nearest (q * d) d) q) [
    | inl n ↦ absurd (let h = nearest-near (q * d) d l in let k = mul-le-mul_left (2 * d) n in omega (arith, h, k, l))
    | inr n ↦ omega (arith, m, n)
  ]
]

pub record IsOnGrid (n places : ℕ) : Type 0 where
  pub grid : (n % 10 ^ places == 0) ≡ true
  pub short : n < 10 ^ 18

same-ticks : (negative : Bool) (n : ℕ) (p t : ℤ) → t ≤ℤ p → IsOnGrid n (above (p -ℤ t)) → tick_count (whole_number negative n) t p t ≡ n
same-ticks negative n p t l on =
    let k = above (p -ℤ t) in
    let d = 10 ^ k in
    let some : 0 < d = omega (arith, one-le-pow k 10 (omega arith)) in
    let e : n % d ≡ 0 = eqb-true (n % d) 0 on.grid in
    let whole : n ≡ (n / d) * d = div-whole n d some e in
    ap (λ x. nearest (n * 10 ^ x) (10 ^ below (pos 0 +ℤ (t -ℤ p))) * d) (none-above t p l)
    ∙ (ap (λ x. nearest (n * 10 ^ 0) (10 ^ x) * d) (all-below t p l)
    ∙ (ap (λ x. nearest x d * d) (let z : n * 10 ^ 0 ≡ (n / d) * d = one n ∙ whole in z) ∙ (ap (λ x. x * d) (nearest-whole (n / d) d some) ∙ sym whole)))
  where
    one : (m : ℕ) → m * 10 ^ 0 ≡ m
    one m = omega arith

    div-whole : (m d : ℕ) → 0 < d → m % d ≡ 0 → m ≡ (m / d) * d
    div-whole m d some e = omega (arith, div-add-mod m d, e)

-- ---- values for all corners

chosen-lone : (g : Grid) (text : List ℕ) → chosen g (triple_of (lone text)) ≡ Some (ticks_of g (meant.number_of (number_of text)))
chosen-lone g text = by g.corner
  where
    by : (k : Corner) → ticks_if g (part_of k (triple_of (lone text))) ≡ Some (ticks_of g (meant.number_of (number_of text)))
    by Min = refl
    by Typ = refl
    by Max = refl

module _ (g : Grid) (unit : g.unit ≡ g.tick) (scale : g.tick ≤ℤ g.precision) where
  abbrev pub OnGrid : ℕ → Type 0
  OnGrid n = IsOnGrid n (above (g.precision -ℤ g.tick))

  ticks-same : (s : Sign) (n : ℕ) → OnGrid n → ticks_of g (meant.number_of (number_of (sign_bytes s ++ decimal n))) ≡ with_sign (is_minus s) n
  ticks-same s n on =
      ap (λ r. ticks_of g (meant.number_or_zero r)) (short-said s n on.short)
      ∙ ap (λ m. with_sign (is_minus s) m) (ap (λ u. tick_count (whole_number (is_minus s) n) u g.precision g.tick) unit ∙ same-ticks (is_minus s) n g.precision g.tick scale on)

  pub size-same : (n : ℕ) → OnGrid n → chosen g (triple_of (lone (decimal n))) ≡ Some (pos n)
  size-same n on = chosen-lone g (decimal n) ∙ ap Some (ticks-same none n on)

  pub limit-same : (z : ℤ) → OnGrid (unsigned_abs z) → chosen g (triple_of (lone (signed_decimal z))) ≡ Some z
  limit-same (pos n) on = size-same n on
  limit-same (negsuc n) on = chosen-lone g (signed_decimal (negsuc n)) ∙ ap Some (ticks-same minus (suc n) on)
