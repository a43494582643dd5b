-- What going over a list of places comes to.
use Rattle.std.specs.Prelude.{◌≡◌, ◌≢◌, ℕ, zero, suc, ◌+◌, ◌<◌, ◌==◌, Bool, true, false, if◌then◌else◌}
use Rattle.std.specs.Prelude.{List, [], ◌∷◌, ◌++◌, length, take, slice_index_or, slice_set, refl}
use Rattle.std.proofs.Common.{sym, ◌∙◌, ap, subst, arith, inl, inr, zero-add}
use Rattle.std.proofs.lemmas.Bool.{cases_eq}
use Rattle.std.proofs.lemmas.Bool.Decides.{nat_tests}
use Rattle.std.proofs.lemmas.List.{take_more, length-set, get_or-set_same, get_or-set_other}
use Rattle.annotation_model.specs.Listed.{occurrences, IsListOf, written}

pub test_same : (x k : ℕ) → x ≡ k → (x == k) ≡ true
test_same x k e = grind (arith, nat_tests)

pub test_other : (x k : ℕ) → x ≢ k → (x == k) ≡ false
test_other x k e = grind (arith, nat_tests)

pub occurs_here : (x k : ℕ) (xs : List ℕ) → x ≡ k → occurrences k (x ∷ xs) ≡ occurrences k xs + 1
occurs_here x k xs e = ap (λ b. (if b then 1 else 0) + occurrences k xs) (test_same x k e) ∙ (let f : 1 + occurrences k xs ≡ occurrences k xs + 1 = omega arith in f)

pub occurs_later : (x k : ℕ) (xs : List ℕ) → x ≢ k → occurrences k (x ∷ xs) ≡ occurrences k xs
occurs_later x k xs e = ap (λ b. (if b then 1 else 0) + occurrences k xs) (test_other x k e) ∙ zero-add (occurrences k xs)

pub stands_here : (x : ℕ) (ks : List ℕ) → 0 < occurrences x (x ∷ ks)
stands_here x ks = let e : occurrences x (x ∷ ks) ≡ occurrences x ks + 1 = occurs_here x x ks refl in omega (arith, e)

pub stands_later : (k x : ℕ) (ks : List ℕ) → 0 < occurrences k ks → 0 < occurrences k (x ∷ ks)
stands_later k x ks l = let f : (n a : ℕ) → 0 < a → 0 < n + a = (λ n a h. omega arith) in f (if x == k then 1 else 0) (occurrences k ks) l

pub occurrences-append : (k : ℕ) (xs ys : List ℕ) → occurrences k (xs ++ ys) ≡ occurrences k xs + occurrences k ys
occurrences-append k [] ys = sym (zero-add (occurrences k ys))
occurrences-append k (x ∷ xs) ys =
    let e : occurrences k (xs ++ ys) ≡ occurrences k xs + occurrences k ys = occurrences-append k xs ys in
    let one : ℕ = if x == k then 1 else 0 in
    let f : (n a b c : ℕ) → c ≡ a + b → n + c ≡ n + a + b = (λ n a b c h. omega arith) in
    f one (occurrences k xs) (occurrences k ys) (occurrences k (xs ++ ys)) e

-- what stands at a place occurs
pub occurs_at : (ks : List ℕ) (i blank : ℕ) → i < length ks → 0 < occurrences (slice_index_or ks i blank) ks
occurs_at [] i blank l = absurd (omega arith)
occurs_at (k ∷ ks) zero blank l = let e : occurrences k (k ∷ ks) ≡ occurrences k ks + 1 = occurs_here k k ks refl in omega arith
occurs_at (k ∷ ks) (suc i) blank l =
    let x : ℕ = slice_index_or ks i blank in
    let h : 0 < occurrences x ks = occurs_at ks i blank (omega arith) in
    elim (cases_eq k x) [ inl same ↦ omega (arith, occurs_here k x ks same) | inr other ↦ omega (arith, occurs_later k x ks other) ]

-- what stands at a place of a list without repeats passes the test
pub listed_at : (test : ℕ → Bool) (ks : List ℕ) (i blank : ℕ) → IsListOf test ks → i < length ks → test (slice_index_or ks i blank) ≡ true
listed_at test ks i blank is l = at (test (slice_index_or ks i blank)) refl
  where
    at : (b : Bool) → test (slice_index_or ks i blank) ≡ b → b ≡ true
    at true e = refl
    at false e =
        let n : occurrences (slice_index_or ks i blank) ks ≡ 0 = is.each (slice_index_or ks i blank) ∙ ap (λ b. if b then 1 else 0) e in
        absurd (omega (arith, occurs_at ks i blank l))

pub length-written : {A : Type 0} (f : ℕ → A → A) (d : A) (ks : List ℕ) (xs : List A) → length (written f d ks xs) ≡ length xs
length-written f d [] xs = refl
length-written f d (k ∷ ks) xs = length-written f d ks (slice_set xs k (f k (slice_index_or xs k d))) ∙ length-set xs k (f k (slice_index_or xs k d))

pub written-append : {A : Type 0} (f : ℕ → A → A) (d : A) (ks : List ℕ) (k : ℕ) (xs : List A)
    → written f d (ks ++ k ∷ []) xs ≡ slice_set (written f d ks xs) k (f k (slice_index_or (written f d ks xs) k d))
written-append f d [] k xs = refl
written-append f d (j ∷ js) k xs = written-append f d js k (slice_set xs j (f j (slice_index_or xs j d)))

-- one place more
pub written-more : {A : Type 0} (f : ℕ → A → A) (d : A) (ks : List ℕ) (i : ℕ) (blank : ℕ) (xs : List A) → i < length ks
    → written f d (take (i + 1) ks) xs
    ≡ slice_set (written f d (take i ks) xs) (slice_index_or ks i blank)
    (f (slice_index_or ks i blank) (slice_index_or (written f d (take i ks) xs) (slice_index_or ks i blank) d))
written-more f d ks i blank xs l = ap (λ js. written f d js xs) (take_more ks i blank l) ∙ written-append f d (take i ks) (slice_index_or ks i blank) xs

-- a place that isn't gone over stays
pub written-other : {A : Type 0} (f : ℕ → A → A) (d : A) (ks : List ℕ) (xs : List A) (j : ℕ) (c : A) → occurrences j ks ≡ 0 → slice_index_or (written f d ks xs) j c ≡ slice_index_or xs j c
written-other f d [] xs j c h = refl
written-other f d (k ∷ ks) xs j c h = elim (cases_eq k j) [
  | inl same ↦ absurd (omega (arith, occurs_here k j ks same))
  | inr other ↦ (let e : occurrences j ks ≡ 0 = sym (occurs_later k j ks other) ∙ h in
      let apart : j ≢ k = (λ q. other (sym q)) in
      written-other f d ks (slice_set xs k (f k (slice_index_or xs k d))) j c e ∙ get_or-set_other xs k j (f k (slice_index_or xs k d)) c apart)
]

-- a place that is gone over once has f once
pub written-once : {A : Type 0} (f : ℕ → A → A) (d : A) (ks : List ℕ) (xs : List A) (j : ℕ) (c : A) → j < length xs → occurrences j ks ≡ 1
    → slice_index_or (written f d ks xs) j c ≡ f j (slice_index_or xs j d)
written-once f d [] xs j c l h = absurd (omega arith)
written-once f d (k ∷ ks) xs j c l h = elim (cases_eq k j) [
  | inl same ↦ (let e : occurrences j ks ≡ 0 = omega (arith, occurs_here k j ks same) in
      let y = f k (slice_index_or xs k d) in
      let m : k < length xs = subst (λ n. n < length xs) (sym same) l in
      written-other f d ks (slice_set xs k y) j c e ∙ (ap (λ n. slice_index_or (slice_set xs k y) n c) (sym same) ∙ (get_or-set_same xs k y c m ∙ ap (λ n. f n (slice_index_or xs n d)) same)))
  | inr other ↦ (let e : occurrences j ks ≡ 1 = sym (occurs_later k j ks other) ∙ h in
      let apart : j ≢ k = (λ q. other (sym q)) in
      let y = f k (slice_index_or xs k d) in
      let m : j < length (slice_set xs k y) = subst (λ n. j < n) (sym (length-set xs k y)) l in
      written-once f d ks (slice_set xs k y) j c m e ∙ ap (f j) (get_or-set_other xs k j y d apart))
]
