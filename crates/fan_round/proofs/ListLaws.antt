-- What going over a list of places comes to.
use Rattle.std.specs.Prelude.{◌≡◌, ◌≢◌, ℕ, zero, suc, ◌+◌, ◌<◌, ◌==◌, Bool, true, false, not, if◌then◌else◌, List, [], ◌∷◌, ◌++◌, length, take, slice_index_or, slice_set, refl}
use Rattle.std.specs.List.{filter}
use Rattle.std.proofs.Common.{sym, ◌∙◌, ap, subst, arith, inl, inr, zero-add, add-zero}
use Rattle.std.proofs.lemmas.Bool.{cases_eq}
use Rattle.std.proofs.lemmas.Bool.Decides.{nat_tests}
use Rattle.std.proofs.lemmas.List.{take_more, length-set, get_or-set_same, get_or-set_other, ext_get_or}
use Rattle.sg_model.specs.Round.{each_from}
use Rattle.fan_round.specs.Lists.{occurrences, IsListOf, at_places}

pub test_same : (x k : ℕ) → x ≡ k → (x == k) ≡ true
test_same x k e = grind (arith, nat_tests)

pub test_other : (x k : ℕ) → x ≢ k → (x == k) ≡ false
test_other x k e = grind (arith, nat_tests)

pub occurs_here : (x k : ℕ) (xs : List ℕ) → x ≡ k → occurrences k (x ∷ xs) ≡ occurrences k xs + 1
occurs_here x k xs e = ap (λ b. (if b then 1 else 0) + occurrences k xs) (test_same x k e) ∙ (let f : 1 + occurrences k xs ≡ occurrences k xs + 1 = omega arith in f)

pub occurs_later : (x k : ℕ) (xs : List ℕ) → x ≢ k → occurrences k (x ∷ xs) ≡ occurrences k xs
occurs_later x k xs e = ap (λ b. (if b then 1 else 0) + occurrences k xs) (test_other x k e) ∙ zero-add (occurrences k xs)

pub occurrences-append : (k : ℕ) (xs ys : List ℕ) → occurrences k (xs ++ ys) ≡ occurrences k xs + occurrences k ys
occurrences-append k [] ys = sym (zero-add (occurrences k ys))
occurrences-append k (x ∷ xs) ys =
    let e : occurrences k (xs ++ ys) ≡ occurrences k xs + occurrences k ys = occurrences-append k xs ys in
    let one : ℕ = if x == k then 1 else 0 in
    let f : (n a b c : ℕ) → c ≡ a + b → n + c ≡ n + a + b = (λ n a b c h. omega arith) in
    f one (occurrences k xs) (occurrences k ys) (occurrences k (xs ++ ys)) e

-- the list without a number
abbrev pub without : ℕ → List ℕ → List ℕ
without k xs = filter (λ x. not (x == k)) xs

pub occurs_removed : (k : ℕ) (xs : List ℕ) → occurrences k (without k xs) ≡ 0
occurs_removed k [] = refl
occurs_removed k (x ∷ xs) = elim (cases_eq x k) [
  | inl same ↦ ap (λ b. occurrences k (if not b then (x ∷ without k xs) else without k xs)) (test_same x k same) ∙ occurs_removed k xs
  | inr other ↦ ap (λ b. occurrences k (if not b then (x ∷ without k xs) else without k xs)) (test_other x k other) ∙ (occurs_later x k (without k xs) other ∙ occurs_removed k xs)
]

pub occurs_kept : (j k : ℕ) (xs : List ℕ) → k ≢ j → occurrences j (without k xs) ≡ occurrences j xs
occurs_kept j k [] n = refl
occurs_kept j k (x ∷ xs) n = elim (cases_eq x k) [
  | inl same ↦ ap (λ b. occurrences j (if not b then (x ∷ without k xs) else without k xs)) (test_same x k same) ∙ (occurs_kept j k xs n ∙ sym (occurs_later x j xs (λ e. n (sym same ∙ e))))
  | inr other ↦ ap (λ b. occurrences j (if not b then (x ∷ without k xs) else without k xs)) (test_other x k other) ∙ ap (λ m. (if x == j then 1 else 0) + m) (occurs_kept j k xs n)
]

pub length-without : (k : ℕ) (xs : List ℕ) → length (without k xs) + occurrences k xs ≡ length xs
length-without k [] = refl
length-without k (x ∷ xs) =
    let rest : length (without k xs) + occurrences k xs ≡ length xs = length-without k xs in
    elim (cases_eq x k) [
      | inl same ↦ (let e : length (without k (x ∷ xs)) ≡ length (without k xs) = ap (λ b. length (if not b then (x ∷ without k xs) else without k xs)) (test_same x k same) in
          omega (arith, occurs_here x k xs same))
      | inr other ↦ (let e : length (without k (x ∷ xs)) ≡ suc (length (without k xs)) = ap (λ b. length (if not b then (x ∷ without k xs) else without k xs)) (test_other x k other) in
          omega (arith, occurs_later x k xs other))
    ]

-- what stands at a place occurs
pub occurs_at : (ks : List ℕ) (i blank : ℕ) → i < length ks → 0 < occurrences (slice_index_or ks i blank) ks
occurs_at [] i blank l = absurd (omega arith)
occurs_at (k ∷ ks) zero blank l = let e : occurrences k (k ∷ ks) ≡ occurrences k ks + 1 = occurs_here k k ks refl in omega arith
occurs_at (k ∷ ks) (suc i) blank l =
    let x : ℕ = slice_index_or ks i blank in
    let h : 0 < occurrences x ks = occurs_at ks i blank (omega arith) in
    elim (cases_eq k x) [ inl same ↦ omega (arith, occurs_here k x ks same) | inr other ↦ omega (arith, occurs_later k x ks other) ]

-- what stands at a place of a list without repeats passes the test
pub listed_at : (test : ℕ → Bool) (ks : List ℕ) (i blank : ℕ) → IsListOf test ks → i < length ks → test (slice_index_or ks i blank) ≡ true
listed_at test ks i blank is l = at (test (slice_index_or ks i blank)) refl
  where
    at : (b : Bool) → test (slice_index_or ks i blank) ≡ b → b ≡ true
    at true e = refl
    at false e = let n : occurrences (slice_index_or ks i blank) ks ≡ 0 = is.each (slice_index_or ks i blank) ∙ ap (λ b. if b then 1 else 0) e in absurd (omega (arith, occurs_at ks i blank l))

pub length-at_places : {A : Type 0} (f : ℕ → A → A) (d : A) (ks : List ℕ) (xs : List A) → length (at_places f d ks xs) ≡ length xs
length-at_places f d [] xs = refl
length-at_places f d (k ∷ ks) xs = length-at_places f d ks (slice_set xs k (f k (slice_index_or xs k d))) ∙ length-set xs k (f k (slice_index_or xs k d))

pub at_places-append : {A : Type 0} (f : ℕ → A → A) (d : A) (ks : List ℕ) (k : ℕ) (xs : List A)
    → at_places f d (ks ++ k ∷ []) xs ≡ slice_set (at_places f d ks xs) k (f k (slice_index_or (at_places f d ks xs) k d))
at_places-append f d [] k xs = refl
at_places-append f d (j ∷ js) k xs = at_places-append f d js k (slice_set xs j (f j (slice_index_or xs j d)))

-- one place more
pub at_places-more : {A : Type 0} (f : ℕ → A → A) (d : A) (ks : List ℕ) (i : ℕ) (blank : ℕ) (xs : List A) → i < length ks
    → at_places f d (take (i + 1) ks) xs ≡ slice_set (at_places f d (take i ks) xs) (slice_index_or ks i blank) (f (slice_index_or ks i blank) (slice_index_or (at_places f d (take i ks) xs) (slice_index_or ks i blank) d))
at_places-more f d ks i blank xs l = ap (λ js. at_places f d js xs) (take_more ks i blank l) ∙ at_places-append f d (take i ks) (slice_index_or ks i blank) xs

-- a place that isn't gone over stays
pub at_places-other : {A : Type 0} (f : ℕ → A → A) (d : A) (ks : List ℕ) (xs : List A) (j : ℕ) (c : A) → occurrences j ks ≡ 0 → slice_index_or (at_places f d ks xs) j c ≡ slice_index_or xs j c
at_places-other f d [] xs j c h = refl
at_places-other f d (k ∷ ks) xs j c h = elim (cases_eq k j) [
  | inl same ↦ absurd (omega (arith, occurs_here k j ks same))
  | inr other ↦ (let e : occurrences j ks ≡ 0 = sym (occurs_later k j ks other) ∙ h in
      let apart : j ≢ k = (λ q. other (sym q)) in
      at_places-other f d ks (slice_set xs k (f k (slice_index_or xs k d))) j c e ∙ get_or-set_other xs k j (f k (slice_index_or xs k d)) c apart)
]

-- a place that is gone over once has f once
pub at_places-once : {A : Type 0} (f : ℕ → A → A) (d : A) (ks : List ℕ) (xs : List A) (j : ℕ) (c : A) → j < length xs → occurrences j ks ≡ 1 → slice_index_or (at_places f d ks xs) j c ≡ f j (slice_index_or xs j d)
at_places-once f d [] xs j c l h = absurd (omega arith)
at_places-once f d (k ∷ ks) xs j c l h = elim (cases_eq k j) [
  | inl same ↦ (let e : occurrences j ks ≡ 0 = omega (arith, occurs_here k j ks same) in
      let y = f k (slice_index_or xs k d) in
      let m : k < length xs = subst (λ n. n < length xs) (sym same) l in
      at_places-other f d ks (slice_set xs k y) j c e ∙ (ap (λ n. slice_index_or (slice_set xs k y) n c) (sym same) ∙ (get_or-set_same xs k y c m ∙ ap (λ n. f n (slice_index_or xs n d)) same)))
  | inr other ↦ (let e : occurrences j ks ≡ 1 = sym (occurs_later k j ks other) ∙ h in
      let apart : j ≢ k = (λ q. other (sym q)) in
      let y = f k (slice_index_or xs k d) in
      let m : j < length (slice_set xs k y) = subst (λ n. j < n) (sym (length-set xs k y)) l in
      at_places-once f d ks (slice_set xs k y) j c m e ∙ ap (f j) (get_or-set_other xs k j y d apart))
]

pub each_from-at : {A B : Type 0} (f : ℕ → A → B) (i : ℕ) (xs : List A) (j : ℕ) (d : A) (c : B) → j < length xs → slice_index_or (each_from f i xs) j c ≡ f (i + j) (slice_index_or xs j d)
each_from-at f i [] j d c l = absurd (omega arith)
each_from-at f i (x ∷ xs) zero d c l = ap (λ n. f n x) (sym (add-zero i))
each_from-at f i (x ∷ xs) (suc j) d c l =
    each_from-at f (suc i) xs j d c (omega arith) ∙ ap (λ n. f n (slice_index_or xs j d)) (let e : suc i + j ≡ i + suc j = omega arith in e)

pub length-each_from : {A B : Type 0} (f : ℕ → A → B) (i : ℕ) (xs : List A) → length (each_from f i xs) ≡ length xs
length-each_from f i [] = refl
length-each_from f i (x ∷ xs) = ap suc (length-each_from f (suc i) xs)

-- going over a list of the places that change is a pass over all
pub at_places-each : {A : Type 0} (test : ℕ → Bool) (f : ℕ → A → A) (d : A) (ks : List ℕ) (xs : List A) → IsListOf test ks
    → ((j : ℕ) → j < length xs → test j ≡ false → f j (slice_index_or xs j d) ≡ slice_index_or xs j d)
    → at_places f d ks xs ≡ each_from f 0 xs
at_places-each test f d ks xs is stays =
    ext_get_or d (at_places f d ks xs) (each_from f 0 xs) (length-at_places f d ks xs ∙ sym (length-each_from f 0 xs))
    (λ j l. (let m : j < length xs = subst (λ n. j < n) (length-at_places f d ks xs) l in
    at j m (test j) refl ∙ (ap (λ n. f n (slice_index_or xs j d)) (sym (zero-add j)) ∙ sym (each_from-at f 0 xs j d d m))))
  where
    at : (j : ℕ) → j < length xs → (b : Bool) → test j ≡ b → slice_index_or (at_places f d ks xs) j d ≡ f j (slice_index_or xs j d)
    at j m true e = at_places-once f d ks xs j d m (is.each j ∙ ap (λ b. if b then 1 else 0) e)
    at j m false e = at_places-other f d ks xs j d (is.each j ∙ ap (λ b. if b then 1 else 0) e) ∙ sym (stays j m e)
