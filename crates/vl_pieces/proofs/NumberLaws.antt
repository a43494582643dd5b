-- The number that is found at the front is one, and no longer front is.
use Rattle.std.proofs.Common.{◌≡◌, ℕ, suc, ◌+◌, ◌-◌, ◌<◌, ◌≤◌, List, [], ◌∷◌, ◌++◌, length, length-append, length-drop, ◌⊎◌, take, drop, Bool, true, false, refl, sym, ap, ◌∙◌, arith, subst, inl, inr, append_assoc}
use Rattle.std.specs.Prelude.{Option, Some, None, ◌==◌, ◌&&◌, ◌||◌, IfSome, unwrap_or}
use Rattle.std.specs.List.{list_all, prefix_len}
use Rattle.std.specs.Char.{is_ascii_digit}
use Rattle.std.proofs.lemmas.Bool.{cases_Bool, eqb-true, eqb-false, ne_eqb, and_parts, or_cases, false_from_ne_true}
use Rattle.std.proofs.lemmas.List.{take-append-drop, length-take, length-take-le, append-nil}
use Rattle.std.proofs.Math.Seq.{take-append_seam, drop-append_seam, take-append-add}
use Rattle.sg_time.specs.Spelling.{Sign, none, plus, minus, sign_bytes, IsRun, is_run_byte, Power, IsPower, power_bytes, fraction_bytes, Spelling, IsSpelling, spelling_bytes}
use Rattle.sg_time.specs.Reading.{sign_at, run_len, parts_of}
use Rattle.sg_time.proofs.Laws.{parts_found, parts_again, run_found, run_again, stops_power, sign_found, sign_again, power_mark, StopsSign, digit_stops_sign}
use Rattle.vl_pieces.specs.Pieces.{has_number, is_unsigned}
use Rattle.vl_pieces.specs.NumberBridge.{digits_len, power_len, behind_run, number_len}

behind_some : (n : ℕ) (bs : List ℕ) → 0 < n → 0 < behind_run n bs
behind_some n [] lt = lt
behind_some n (b ∷ bs) lt = elim (cases_Bool (b == 46)) [
  | inl y ↦ rw (y, ne_eqb 0 (n + run_len bs) (λ e. absurd (omega arith))) (omega arith)
  | inr m ↦ rw (m, ne_eqb 0 n (λ e. absurd (omega arith))) (omega arith)
]

pub digit_some : (b : ℕ) (bs : List ℕ) → is_ascii_digit b ≡ true → 0 < number_len (b ∷ bs)
unfolding number_len
digit_some b bs y = behind_some (run_len (b ∷ bs)) (drop (run_len (b ∷ bs)) (b ∷ bs)) (rw y (omega arith))

prefix_most : (p : ℕ → Bool) (xs : List ℕ) → prefix_len p xs ≤ length xs
prefix_most p [] = omega arith
prefix_most p (x ∷ xs) = elim (cases_Bool (p x)) [
  | inl y ↦ rw y (omega (arith, prefix_most p xs))
  | inr n ↦ rw n (omega arith)
]

run_most : (bs : List ℕ) → run_len bs ≤ length bs
run_most [] = omega arith
run_most (b ∷ bs) = elim (cases_Bool (is_ascii_digit b)) [
  | inl y ↦ rw y (omega (arith, prefix_most is_run_byte bs))
  | inr n ↦ rw n (omega arith)
]

digits_most : (bs : List ℕ) → digits_len bs ≤ length bs
digits_most [] = omega arith
digits_most (a ∷ []) = elim (cases_Bool (is_ascii_digit a)) [ inl y ↦ rw y (omega arith) | inr n ↦ rw n (omega arith) ]
digits_most (a ∷ b ∷ bs) = elim (cases_Bool (is_ascii_digit a)) [
  | inl y ↦ rw y (elim (cases_Bool (is_ascii_digit b)) [ inl z ↦ rw z (omega arith) | inr n ↦ rw n (omega arith) ])
  | inr n ↦ rw n (omega arith)
]

sign_most : (bs : List ℕ) → length (sign_at bs).1 ≤ length bs
sign_most bs = omega (arith, ap length (sign_found bs), length-append (sign_bytes (sign_at bs).0) (sign_at bs).1)

power_most : (bs : List ℕ) → power_len bs ≤ length bs
power_most [] = omega arith
power_most (b ∷ bs) = elim (cases_Bool ((b == 101) || (b == 69))) [
  | inr n ↦ rw n (omega arith)
  | inl y ↦ elim (cases_Bool (0 == digits_len (sign_at bs).1)) [
    | inl z ↦ rw (y, z) (omega arith)
    | inr m ↦ rw (y, m) (omega (arith, digits_most (sign_at bs).1, sign_most bs))
  ]
]

behind_most : (n : ℕ) (bs : List ℕ) → behind_run n bs ≤ n + length bs
behind_most n [] = omega arith
behind_most n (b ∷ bs) = elim (cases_Bool (b == 46)) [
  | inl y ↦ elim (cases_Bool (0 == n + run_len bs)) [
    | inl z ↦ rw (y, z) (omega arith)
    | inr m ↦ rw (y, m) (omega (arith, run_most bs, power_most (drop (run_len bs) bs), length-drop (run_len bs) bs))
  ]
  | inr k ↦ elim (cases_Bool (0 == n)) [
    | inl z ↦ rw (k, z) (omega arith)
    | inr m ↦ rw (k, m) (omega (arith, power_most (b ∷ bs)))
  ]
]

pub number_within : (text : List ℕ) → number_len text ≤ length text
unfolding number_len
number_within text = omega (arith, behind_most (run_len text) (drop (run_len text) text), run_most text, length-drop (run_len text) text)

-- at most two digits, all of them digits
digits_take : (ds : List ℕ) → (list_all is_ascii_digit (take (digits_len ds) ds) ≡ true) × (digits_len ds ≤ 2)
digits_take [] = (refl, omega arith)
digits_take (a ∷ []) = elim (cases_Bool (is_ascii_digit a)) [ inl y ↦ rw (y, y) (refl, omega arith) | inr n ↦ rw n (refl, omega arith) ]
digits_take (a ∷ b ∷ bs) = elim (cases_Bool (is_ascii_digit a)) [
  | inl y ↦ elim (cases_Bool (is_ascii_digit b)) [ inl z ↦ rw (y, z) (rw (y, z) (refl, omega arith)) | inr n ↦ rw (y, n) (rw y (refl, omega arith)) ]
  | inr n ↦ rw n (refl, omega arith)
]

-- the power of ten at the front
pub record PowerFront (bytes : List ℕ) : Type 0 where
  pub power : Option Power
  pub is : IfSome power IsPower
  pub bytes_are : take (power_len bytes) bytes ≡ power_bytes power

power_taken : (b : ℕ) (bs : List ℕ) → ((b == 101) || (b == 69)) ≡ true → (0 == digits_len (sign_at bs).1) ≡ false → PowerFront (b ∷ bs)
power_taken b bs y m =
    let d : List ℕ = (sign_at bs).1 in
    let sb : List ℕ = sign_bytes (sign_at bs).0 in
    let k : ℕ = digits_len d in
    let taken = digits_take d in
    let ne : 0 ≡ k → ⊥ = eqb-false 0 k m in
    let split : bs ≡ sb ++ d = sign_found bs in
    let size : length bs ≡ length sb + length d = ap length split ∙ length-append sb d in
    let n : 1 + (length bs - length d) + k ≡ suc (length sb + k) = omega arith in
    let within = digits_most d in
    let bytes : take (suc (length sb + k)) (b ∷ bs) ≡ b ∷ (sb ++ take k d) = ap (λ l. b ∷ take (length sb + k) l) split ∙ ap (λ l. b ∷ l) (take-append-add sb d k) in
    record {
      power = Some (record { mark = b; sign = (sign_at bs).0; digits = take k d });
      is = record {
        mark = elim (or_cases (b == 101) (b == 69) y) [ inl e ↦ inl (eqb-true b 101 e) | inr e ↦ inr (eqb-true b 69 e) ];
        digits = taken.0;
        some = omega (arith, length-take k d);
        few = omega (arith, length-take k d, taken.1);
      };
      bytes_are = rw (y, m) (rw n bytes);
    }

power_front : (bytes : List ℕ) → PowerFront bytes
power_front [] = record { power = None; is = tt; bytes_are = refl }
power_front (b ∷ bs) = elim (cases_Bool ((b == 101) || (b == 69))) [
  | inr n ↦ record { power = None; is = tt; bytes_are = rw n refl }
  | inl y ↦ elim (cases_Bool (0 == digits_len (sign_at bs).1)) [
    | inl z ↦ record { power = None; is = tt; bytes_are = rw (y, z) refl }
    | inr m ↦ power_taken b bs y m
  ]
]

spelled_has : (bytes : List ℕ) (s : Spelling) → IsSpelling s → is_unsigned s.sign ≡ true → bytes ≡ spelling_bytes s → has_number (parts_of bytes) ≡ true
spelled_has bytes s h u e = rw (e, parts_again s h) u

form_behind : (w bs : List ℕ) → IsRun w → 0 < behind_run (length w) bs → has_number (parts_of (take (behind_run (length w) bs) (w ++ bs))) ≡ true
form_behind w [] hw lt =
    spelled_has (take (length w) (w ++ [])) (record { sign = none; whole = w; fraction = None; power = None })
    (record { whole = hw; fraction = tt; some = omega arith; power = tt }) refl (take-append_seam w [] ∙ sym (append-nil w))
form_behind w (b ∷ bs) hw lt = elim (cases_Bool (b == 46)) [
  | inl y ↦ elim (cases_Bool (0 == length w + run_len bs)) [
    | inl z ↦ absurd (let q : 0 < 0 = rw (y, z) at lt in omega arith)
    | inr m ↦
        let ne : 0 ≡ length w + run_len bs → ⊥ = eqb-false 0 (length w + run_len bs) m in
        let run : List ℕ = take (run_len bs) bs in
        let rest : List ℕ = drop (run_len bs) bs in
        let p = power_front rest in
        let len : length run ≡ run_len bs = length-take-le (run_len bs) bs (run_most bs) in
        let tail : take (run_len bs + power_len rest) bs ≡ run ++ power_bytes p.power =
        ap (λ l. take (run_len bs + power_len rest) l) (sym (take-append-drop (run_len bs) bs))
        ∙ ap (λ n. take (n + power_len rest) (run ++ rest)) (sym len) ∙ take-append-add run rest (power_len rest) ∙ ap (λ l. run ++ l) p.bytes_are in
        let one : 1 + (run_len bs + power_len rest) ≡ suc (run_len bs + power_len rest) = omega arith in
        let bytes : take (length w + (1 + (run_len bs + power_len rest))) (w ++ (b ∷ bs)) ≡ w ++ (46 ∷ (run ++ power_bytes p.power)) =
        take-append-add w (b ∷ bs) (1 + (run_len bs + power_len rest)) ∙ ap (λ n. w ++ take n (b ∷ bs)) one ∙ ap (λ l. w ++ (b ∷ l)) tail ∙ ap (λ x. w ++ (x ∷ (run ++ power_bytes p.power))) (eqb-true b 46 y) in
        rw (y, m) (spelled_has (take (length w + (1 + (run_len bs + power_len rest))) (w ++ (b ∷ bs))) (record { sign = none; whole = w; fraction = Some run; power = p.power })
        (record { whole = hw; fraction = run_found bs; some = omega arith; power = p.is }) refl bytes)
  ]
  | inr k ↦ elim (cases_Bool (0 == length w)) [
    | inl z ↦ absurd (let q : 0 < 0 = rw (k, z) at lt in omega arith)
    | inr m ↦
        let ne : 0 ≡ length w → ⊥ = eqb-false 0 (length w) m in
        let p = power_front (b ∷ bs) in
        let bytes : take (length w + power_len (b ∷ bs)) (w ++ (b ∷ bs)) ≡ w ++ power_bytes p.power = take-append-add w (b ∷ bs) (power_len (b ∷ bs)) ∙ ap (λ l. w ++ l) p.bytes_are in
        rw (k, m) (spelled_has (take (length w + power_len (b ∷ bs)) (w ++ (b ∷ bs))) (record { sign = none; whole = w; fraction = None; power = p.power })
        (record { whole = hw; fraction = tt; some = omega arith; power = p.is }) refl bytes)
  ]
]

pub number_form : (text : List ℕ) → 0 < number_len text → has_number (parts_of (take (number_len text) text)) ≡ true
unfolding number_len
number_form text lt =
    let w : List ℕ = take (run_len text) text in
    let bs : List ℕ = drop (run_len text) text in
    let len : length w ≡ run_len text = length-take-le (run_len text) text (run_most text) in
    let back : w ++ bs ≡ text = take-append-drop (run_len text) text in
    let most : 0 < behind_run (length w) bs = rw len lt in
    let h = form_behind w bs (run_found text) most in
    let P : ℕ → List ℕ → Type 0 = λ n l. has_number (parts_of (take (behind_run n bs) l)) ≡ true in
    subst (λ n. P n text) len (subst (λ l. P (length w) l) back h)

-- a front that is a run is within the longest
prefix_least : (p : ℕ → Bool) (xs ys : List ℕ) → list_all p xs ≡ true → length xs ≤ prefix_len p (xs ++ ys)
prefix_least p [] ys h = omega arith
prefix_least p (x ∷ xs) ys h =
    let parts = and_parts (p x) (list_all p xs) h in
    rw parts.0 (omega (arith, prefix_least p xs ys parts.1))

run_least : (xs ys : List ℕ) → IsRun xs → length xs ≤ run_len (xs ++ ys)
run_least [] ys h = omega arith
run_least (x ∷ xs) ys h = rw h.0 (omega (arith, prefix_least is_run_byte xs ys h.1))

digits_least : (ds ys : List ℕ) → list_all is_ascii_digit ds ≡ true → length ds ≤ 2 → length ds ≤ digits_len (ds ++ ys)
digits_least [] ys h le = omega arith
digits_least (a ∷ []) [] h le = rw ((and_parts (is_ascii_digit a) true h).0) (omega arith)
digits_least (a ∷ []) (y ∷ ys) h le = rw ((and_parts (is_ascii_digit a) true h).0) (elim (cases_Bool (is_ascii_digit y)) [ inl z ↦ rw z (omega arith) | inr n ↦ rw n (omega arith) ])
digits_least (a ∷ b ∷ []) ys h le =
    let p = and_parts (is_ascii_digit a) (is_ascii_digit b && true) h in
    rw (p.0, (and_parts (is_ascii_digit b) true p.1).0) (omega arith)
digits_least (a ∷ b ∷ c ∷ ds) ys h le = absurd (omega arith)

stops_more : (ds ys : List ℕ) → list_all is_ascii_digit ds ≡ true → 0 < length ds → StopsSign (ds ++ ys)
stops_more [] ys h lt = absurd (omega arith)
stops_more (d ∷ ds) ys h lt = digit_stops_sign d (ds ++ ys) (and_parts (is_ascii_digit d) (list_all is_ascii_digit ds) h).0

power_least : (p : Power) (ys : List ℕ) → IsPower p → length (power_bytes (Some p)) ≤ power_len (power_bytes (Some p) ++ ys)
power_least p ys h =
    let least = digits_least p.digits ys h.digits h.few in
    let some = h.some in
    rw (
      power_mark p.mark h.mark,
      append_assoc,
      sign_again p.sign (p.digits ++ ys) (stops_more p.digits ys h.digits h.some),
      ne_eqb 0 (digits_len (p.digits ++ ys)) (λ e. absurd (omega arith)),
    )
    (omega (arith, length-append (sign_bytes p.sign) p.digits, length-append (sign_bytes p.sign) (p.digits ++ ys)))

behind_least : (n : ℕ) (bs : List ℕ) → 0 < n → n ≤ behind_run n bs
behind_least n [] lt = omega arith
behind_least n (b ∷ bs) lt = elim (cases_Bool (b == 46)) [
  | inl y ↦ rw (y, ne_eqb 0 (n + run_len bs) (λ e. absurd (omega arith))) (omega arith)
  | inr m ↦ rw (m, ne_eqb 0 n (λ e. absurd (omega arith))) (omega arith)
]

whole_least : (w z : List ℕ) → IsRun w → 0 < length w → length w ≤ number_len (w ++ z)
unfolding number_len
whole_least w z hw some =
    let least = run_least w z hw in
    omega (arith, behind_least (run_len (w ++ z)) (drop (run_len (w ++ z)) (w ++ z)) (omega arith))

point_is : (w ys : List ℕ) → IsRun w → 0 < length w + run_len ys → number_len (w ++ (46 ∷ ys)) ≡ length w + (1 + (run_len ys + power_len (drop (run_len ys) ys)))
unfolding number_len
point_is w ys hw some = rw (run_again w (46 ∷ ys) hw refl, drop-append_seam w (46 ∷ ys), ne_eqb 0 (length w + run_len ys) (λ e. absurd (omega arith))) refl

power_is_at : (w : List ℕ) (b : ℕ) (bs : List ℕ) → IsRun w → 0 < length w → is_run_byte b ≡ false → (b == 46) ≡ false → number_len (w ++ (b ∷ bs)) ≡ length w + power_len (b ∷ bs)
unfolding number_len
power_is_at w b bs hw some r p = rw (run_again w (b ∷ bs) hw r, drop-append_seam w (b ∷ bs), p, ne_eqb 0 (length w) (λ e. absurd (omega arith))) refl

mark_no_point : (m : ℕ) → (m ≡ 101) ⊎ (m ≡ 69) → (m == 46) ≡ false
mark_no_point m (inl e) = rw e refl
mark_no_point m (inr e) = rw e refl

-- a spelled number is within the number that is found where it stands
number_least : (w : List ℕ) (f : Option (List ℕ)) (p : Option Power) (z : List ℕ) → IsRun w → IfSome f IsRun → IfSome p IsPower → 0 < length w + length (unwrap_or f [])
    → length (w ++ (fraction_bytes f ++ power_bytes p)) ≤ number_len ((w ++ (fraction_bytes f ++ power_bytes p)) ++ z)
number_least w None None z hw hf hp some = rw append-nil (whole_least w z hw (omega arith))
number_least w None (Some q) z hw hf hp some =
    let same : (w ++ power_bytes (Some q)) ++ z ≡ w ++ (power_bytes (Some q) ++ z) = append_assoc w (power_bytes (Some q)) z in
    rw (same, power_is_at w q.mark ((sign_bytes q.sign ++ q.digits) ++ z) hw (omega arith) (stops_power (Some q) hp) (mark_no_point q.mark hp.mark))
    (omega (arith, length-append w (power_bytes (Some q)), power_least q z hp))
number_least w (Some run) None z hw hf hp some =
    let same : (w ++ (46 ∷ (run ++ []))) ++ z ≡ w ++ (46 ∷ (run ++ z)) = rw append-nil (append_assoc w (46 ∷ run) z) in
    let least = run_least run z hf in
    rw (same, point_is w (run ++ z) hw (omega arith)) (omega (arith, length-append w (46 ∷ (run ++ [])), length-append run (let e : List ℕ = [] in e)))
number_least w (Some run) (Some q) z hw hf hp some =
    let pb : List ℕ = power_bytes (Some q) in
    let same : (w ++ (46 ∷ (run ++ pb))) ++ z ≡ w ++ (46 ∷ (run ++ (pb ++ z))) = append_assoc w (46 ∷ (run ++ pb)) z ∙ ap (λ l. w ++ (46 ∷ l)) (append_assoc run pb z) in
    let size : run_len (run ++ (pb ++ z)) ≡ length run = run_again run (pb ++ z) hf (stops_power (Some q) hp) in
    let rest : drop (length run) (run ++ (pb ++ z)) ≡ pb ++ z = drop-append_seam run (pb ++ z) in
    rw (same, point_is w (run ++ (pb ++ z)) hw (omega (arith, size)), size, rest)
    (omega (arith, length-append w (46 ∷ (run ++ pb)), length-append run pb, power_least q z hp))

unsigned_bytes : (s : Sign) → is_unsigned s ≡ true → sign_bytes s ≡ []
unsigned_bytes none h = refl
unsigned_bytes plus h = absurd (cc)
unsigned_bytes minus h = absurd (cc)

no_longer : (text : List ℕ) (m : ℕ) (o : Option Spelling) → number_len text < m → m ≤ length text → parts_of (take m text) ≡ o → has_number o ≡ true → ⊥
no_longer text m None lt le e h = cc
no_longer text m (Some s) lt le e h =
    let found = parts_found (take m text) s e in
    let k = found.spelling in
    let body : List ℕ = s.whole ++ (fraction_bytes s.fraction ++ power_bytes s.power) in
    let bytes : take m text ≡ body = found.bytes_are ∙ ap (λ l. l ++ body) (unsigned_bytes s.sign h) in
    let least = number_least s.whole s.fraction s.power (drop m text) k.whole k.fraction k.power k.some in
    let back : body ++ drop m text ≡ text = ap (λ l. l ++ drop m text) (sym bytes) ∙ take-append-drop m text in
    let bound : length body ≤ number_len text = subst (λ t. length body ≤ number_len t) back least in
    omega (arith, ap length bytes, length-take-le m text le)

pub number_longest : (text : List ℕ) (m : ℕ) → number_len text < m → m ≤ length text → has_number (parts_of (take m text)) ≡ false
number_longest text m lt le = false_from_ne_true (has_number (parts_of (take m text))) (λ h. no_longer text m (parts_of (take m text)) lt le refl h)
