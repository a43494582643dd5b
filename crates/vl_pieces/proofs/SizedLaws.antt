-- The sized constant that is found at the front is one, and no longer front is.
use Rattle.std.proofs.Common.{◌≡◌, ℕ, zero, suc, ◌+◌, ◌-◌, ◌<◌, ◌≤◌, List, [], ◌∷◌, ◌++◌, length, length-append, take, drop, Bool, true, false, refl, sym, ap, ◌∙◌, arith, subst, inl, inr}
use Rattle.std.specs.Prelude.{Option, Some, None, is_some, ◌==◌}
use Rattle.std.specs.List.{list_all, prefix_len}
use Rattle.std.specs.Char.{is_ascii_digit}
use Rattle.std.proofs.lemmas.Bool.{cases_Bool, cases_lt, eqb-true, ne_eqb, and_parts}
use Rattle.std.proofs.lemmas.List.{take-append-drop, length-take-le, take-append-le, append-nil}
use Rattle.std.proofs.Math.Seq.{take-append_seam, drop-append_seam, take-append-add}
use Rattle.vl_token.specs.Constants.{base_of, is_digit_of}
use Rattle.vl_pieces.specs.Sized.{with_digits, behind_width, sized_of}
use Rattle.vl_pieces.specs.NumberBridge.{digits_size, behind_base, base_size, sized_len}
use Rattle.vl_token.specs.declared.bases.Base.{Base}
use Rattle.vl_pieces.proofs.Runs.{run_form, run_longest}

-- the first byte is no decimal digit
abbrev pub StopsDigits : List ℕ → Type 0
StopsDigits [] = Unit {0}
StopsDigits (b ∷ bs) = is_ascii_digit b ≡ false

digits_again : (w r : List ℕ) → list_all is_ascii_digit w ≡ true → StopsDigits r → prefix_len is_ascii_digit (w ++ r) ≡ length w
digits_again [] [] h s = refl
digits_again [] (b ∷ bs) h s = rw s refl
digits_again (x ∷ xs) r h s =
    let parts = and_parts (is_ascii_digit x) (list_all is_ascii_digit xs) h in
    rw (parts.0, digits_again xs r parts.1 s) (omega arith)

digits_stop : (bs : List ℕ) → StopsDigits (drop (prefix_len is_ascii_digit bs) bs)
digits_stop [] = tt
digits_stop (b ∷ bs) = elim (cases_Bool (is_ascii_digit b)) [
  | inl y ↦ let one : 1 + prefix_len is_ascii_digit bs ≡ suc (prefix_len is_ascii_digit bs) = omega arith in rw (y, one) (digits_stop bs)
  | inr n ↦ rw n n
]

digits_most : (bs : List ℕ) → prefix_len is_ascii_digit bs ≤ length bs
digits_most [] = omega arith
digits_most (b ∷ bs) = elim (cases_Bool (is_ascii_digit b)) [ inl y ↦ rw y (omega (arith, digits_most bs)) | inr n ↦ rw n (omega arith) ]

stops_front : (j : ℕ) (r : List ℕ) → StopsDigits r → StopsDigits (take j r)
stops_front zero r s = tt
stops_front (suc j) [] s = tt
stops_front (suc j) (b ∷ bs) s = s

all_front : (m : ℕ) (w : List ℕ) → list_all is_ascii_digit w ≡ true → list_all is_ascii_digit (take m w) ≡ true
all_front zero w h = refl
all_front (suc m) [] h = refl
all_front (suc m) (x ∷ xs) h = let parts = and_parts (is_ascii_digit x) (list_all is_ascii_digit xs) h in rw (parts.0, all_front m xs parts.1) refl

-- behind its width
sized_behind : (w r : List ℕ) → list_all is_ascii_digit w ≡ true → StopsDigits r → sized_of (w ++ r) ≡ behind_width w r
sized_behind w r h s = rw (digits_again w r h s, take-append_seam w r, drop-append_seam w r) refl

digits_none : (w : List ℕ) (o : Option Base) (ds : List ℕ) (j : ℕ) → (0 < j → digits_size o ds < j) → j ≤ length ds → is_some (with_digits w o (take j ds)) ≡ false
digits_none w None ds j h le = refl
digits_none w (Some base) ds zero h le = refl
digits_none w (Some base) [] (suc j) h le = absurd (omega arith)
digits_none w (Some base) (d ∷ ds) (suc j) h le =
    let e : list_all (is_digit_of base) (d ∷ take j ds) ≡ false = run_longest (is_digit_of base) (d ∷ ds) (suc j) (h (omega arith)) le in
    rw e refl

digits_some : (w : List ℕ) (o : Option Base) (ds : List ℕ) (k : ℕ) → digits_size o ds ≡ suc k → is_some (with_digits w o (take (suc k) ds)) ≡ true
digits_some w None ds k h = absurd (omega arith)
digits_some w (Some base) [] k h = absurd (omega arith)
digits_some w (Some base) (d ∷ ds) k h =
    let e : list_all (is_digit_of base) (d ∷ take k ds) ≡ true = rw h at (run_form (is_digit_of base) (d ∷ ds)) in
    rw e refl

behind_none : (w r : List ℕ) (j : ℕ) → base_size (length w) r < length w + j → j ≤ length r → is_some (behind_width w (take j r)) ≡ false
behind_none w [] zero lt le = refl
behind_none w [] (suc j) lt le = absurd (omega arith)
behind_none w (q ∷ []) zero lt le = refl
behind_none w (q ∷ []) (suc zero) lt le = refl
behind_none w (q ∷ []) (suc (suc j)) lt le = absurd (omega arith)
behind_none w (q ∷ l ∷ ds) zero lt le = refl
behind_none w (q ∷ l ∷ ds) (suc zero) lt le = refl
behind_none w (q ∷ l ∷ ds) (suc (suc j)) lt le = elim (cases_Bool (q == 39)) [
  | inr n ↦ rw n refl
  | inl y ↦ elim (cases_Bool (digits_size (base_of l) ds == 0)) [
    | inl z ↦ let e = eqb-true (digits_size (base_of l) ds) 0 z in rw y (digits_none w (base_of l) ds j (λ some. omega arith) (omega arith))
    | inr m ↦
        let less : length w + 2 + digits_size (base_of l) ds < length w + suc (suc j) = rw (y, m) at lt in
        rw y (digits_none w (base_of l) ds j (λ some. omega arith) (omega arith))
  ]
]

-- where it is found, the width and then so many bytes
pub record BehindWidth (w r : List ℕ) : Type 0 where
  pub tail : ℕ
  pub size : base_size (length w) r ≡ length w + tail
  pub within : tail ≤ length r
  pub is : is_some (behind_width w (take tail r)) ≡ true

prefix_most : (p : ℕ → Bool) (xs : List ℕ) → prefix_len p xs ≤ length xs
prefix_most p [] = omega arith
prefix_most p (x ∷ xs) = elim (cases_Bool (p x)) [ inl y ↦ rw y (omega (arith, prefix_most p xs)) | inr n ↦ rw n (omega arith) ]

size_most : (o : Option Base) (ds : List ℕ) → digits_size o ds ≤ length ds
size_most None ds = omega arith
size_most (Some base) ds = prefix_most (is_digit_of base) ds

with_tail : (w : List ℕ) (q l : ℕ) (ds : List ℕ) (d : ℕ) → (q == 39) ≡ true → digits_size (base_of l) ds ≡ d → 0 < behind_base (length w) d → BehindWidth w (q ∷ l ∷ ds)
with_tail w q l ds zero y e lt = absurd (omega arith)
with_tail w q l ds (suc k) y e lt = record {
  tail = suc (suc (suc k));
  size = rw (y, e, ne_eqb (suc k) 0 (λ z. absurd (omega arith))) (omega arith);
  within = omega (arith, size_most (base_of l) ds);
  is = rw y (digits_some w (base_of l) ds k e);
}

behind_some : (w r : List ℕ) → 0 < base_size (length w) r → BehindWidth w r
behind_some w [] lt = absurd (omega arith)
behind_some w (q ∷ []) lt = absurd (omega arith)
behind_some w (q ∷ l ∷ ds) lt = elim (cases_Bool (q == 39)) [
  | inr n ↦ absurd (let z : 0 < 0 = rw n at lt in omega arith)
  | inl y ↦ with_tail w q l ds (digits_size (base_of l) ds) y refl (rw y at lt)
]

form_of : (w r : List ℕ) → list_all is_ascii_digit w ≡ true → StopsDigits r → 0 < base_size (length w) r → (base_size (length w) r ≤ length w + length r) × (is_some (sized_of (take (base_size (length w) r) (w ++ r))) ≡ true)
form_of w r h s lt =
    let b = behind_some w r lt in
    let within = b.within in
    rw (b.size, take-append-add w r b.tail, sized_behind w (take b.tail r) h (stops_front b.tail r s)) (omega arith, b.is)

longest_of : (w r : List ℕ) → list_all is_ascii_digit w ≡ true → StopsDigits r → (m : ℕ) → base_size (length w) r < m → m ≤ length w + length r → is_some (sized_of (take m (w ++ r))) ≡ false
longest_of w r h s m lt le = elim (cases_lt (length w) m) [
  | inr short ↦
      let bytes : take m (w ++ r) ≡ take m w ++ [] = take-append-le m w r short ∙ sym (append-nil (take m w)) in
      rw (bytes, sized_behind (take m w) [] (all_front m w h) tt) refl
  | inl long ↦
      let j : ℕ = m - length w in
      let e : m ≡ length w + j = omega arith in
      rw (e, take-append-add w r j, sized_behind w (take j r) h (stops_front j r s)) (behind_none w r j (omega arith) (omega arith))
]

module _ (text : List ℕ) where
  abbrev width : List ℕ
  width = take (prefix_len is_ascii_digit text) text

  abbrev rest : List ℕ
  rest = drop (prefix_len is_ascii_digit text) text

  width_len : length width ≡ prefix_len is_ascii_digit text
  width_len = length-take-le (prefix_len is_ascii_digit text) text (digits_most text)

  whole : width ++ rest ≡ text
  whole = take-append-drop (prefix_len is_ascii_digit text) text

  len_is : sized_len text ≡ base_size (length width) rest
  unfolding sized_len
  len_is = rw width_len refl

  all_len : length width + length rest ≡ length text
  all_len = sym (length-append width rest) ∙ ap length whole

  sized_found : 0 < sized_len text → (sized_len text ≤ length text) × (is_some (sized_of (take (sized_len text) text)) ≡ true)
  sized_found lt =
      let some : 0 < base_size (length width) rest = rw len_is at lt in
      let f = form_of width rest (run_form is_ascii_digit text) (digits_stop text) some in
      let fits = f.0 in
      let total = all_len in
      let is : is_some (sized_of (take (base_size (length width) rest) text)) ≡ true = subst (λ t. is_some (sized_of (take (base_size (length width) rest) t)) ≡ true) whole f.1 in
      (omega (arith, len_is), rw len_is is)

  pub sized_within : sized_len text ≤ length text
  sized_within = elim (cases_lt 0 (sized_len text)) [ inl lt ↦ (sized_found lt).0 | inr le ↦ omega arith ]

  pub sized_form : 0 < sized_len text → is_some (sized_of (take (sized_len text) text)) ≡ true
  sized_form lt = (sized_found lt).1

  pub sized_longest : (m : ℕ) → sized_len text < m → m ≤ length text → is_some (sized_of (take m text)) ≡ false
  sized_longest m lt le =
      let less : base_size (length width) rest < m = rw len_is at lt in
      let total = all_len in
      subst (λ t. is_some (sized_of (take m t)) ≡ false) whole (longest_of width rest (run_form is_ascii_digit text) (digits_stop text) m less (omega arith))
