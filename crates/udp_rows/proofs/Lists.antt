-- Tests over lists, place by place.
use Rattle.std.proofs.Common.{◌≡◌, ℕ, zero, suc, ◌+◌, ◌<◌, Bool, true, false, ◌&&◌, ◌||◌, not, cond, List, [], ◌∷◌, length, refl, sym, ◌∙◌, ap, arith, Option, Some, None, slice_get, slice_index_or}
use Rattle.std.specs.List.{list_any, list_all, find, enumerate_from, zip}

pub both : (p q : Bool) → p ≡ true → q ≡ true → (p && q) ≡ true
both p q h k = ap (λ b. b && q) h ∙ k

pub and-left : (p q : Bool) → (p && q) ≡ true → p ≡ true
and-left true q h = refl
and-left false q h = cc

pub and-right : (p q : Bool) → (p && q) ≡ true → q ≡ true
and-right true q h = h
and-right false q h = cc

pub not-true : (b : Bool) → not b ≡ true → b ≡ false
not-true true h = cc
not-true false h = refl

pub not-false : (b : Bool) → not b ≡ false → b ≡ true
not-false true h = refl
not-false false h = cc

pub true-or-false : (b : Bool) → (b ≡ true → b ≡ false) → b ≡ false
true-or-false true h = h refl
true-or-false false h = refl

pub two_tests : (p q : Bool) → (p ≡ true → q ≡ true) → (q ≡ true → p ≡ true) → p ≡ q
two_tests true q f g = sym (f refl)
two_tests false true f g = g refl
two_tests false false f g = refl

-- what is found passes, and stands in the list
pub find-some : {A : Type 0} (p : A → Bool) (xs : List A) (x : A) → Some x ≡ find p xs → (k : ℕ) × (slice_get xs k ≡ Some x) × (p x ≡ true)
find-some p [] x h = cc
find-some {A} p (y ∷ ys) x h = at (p y) refl h (find-some p ys x)
  where
    at : (b : Bool) → p y ≡ b → Some x ≡ cond b (Some y) (find p ys)
        → (Some x ≡ find p ys → (k : ℕ) × (slice_get ys k ≡ Some x) × (p x ≡ true))
        → (k : ℕ) × (slice_get (y ∷ ys) k ≡ Some x) × (p x ≡ true)
    at true e h rest = let same : x ≡ y = cc in (0, sym h, ap p same ∙ e)
    at false e h rest = let r = rest h in (suc r.0, r.1, r.2)

-- where nothing is found, nothing passes
pub find-none : {A : Type 0} (p : A → Bool) (xs : List A) (k : ℕ) (x : A) → None ≡ find p xs → slice_get xs k ≡ Some x → p x ≡ false
find-none p [] k x h g = cc
find-none {A} p (y ∷ ys) k x h g = at (p y) refl h k g (λ k h. find-none p ys k x h)
  where
    at : (b : Bool) → p y ≡ b → ◌≡◌ {A = Option A} None (cond b (Some y) (find p ys)) → (k : ℕ) → slice_get (y ∷ ys) k ≡ Some x
        → ((k : ℕ) → None ≡ find p ys → slice_get ys k ≡ Some x → p x ≡ false) → p x ≡ false
    at true e h k g rest = cc
    at false e h zero g rest = let same : x ≡ y = cc in ap p same ∙ e
    at false e h (suc k) g rest = rest k h g

-- a test that implies another
pub any-weaker : {A : Type 0} (p q : A → Bool) (xs : List A) → ((x : A) → p x ≡ true → q x ≡ true) → list_any p xs ≡ true → list_any q xs ≡ true
any-weaker p q [] f h = cc
any-weaker {A} p q (x ∷ xs) f h = at (p x) refl h (any-weaker p q xs f)
  where
    at : (b : Bool) → p x ≡ b → (b || list_any p xs) ≡ true → (list_any p xs ≡ true → list_any q xs ≡ true) → (q x || list_any q xs) ≡ true
    at true e h rest = ap (λ b. b || list_any q xs) (f x e)
    at false e h rest = elim (q x) as (λ b. (b || list_any q xs) ≡ true) [ true ↦ refl | false ↦ rest h ]

-- the first that passes, or else another
unfoldable pub pick_or : {A : Type 0} → (A → Bool) → A → List A → A
pick_or test d [] = d
pick_or test d (x ∷ xs) = cond (test x) x (pick_or test d xs)

pub pick_or-passes : {A : Type 0} (test : A → Bool) (d : A) (xs : List A) → list_any test xs ≡ true → test (pick_or test d xs) ≡ true
unfolding pick_or
pick_or-passes test d [] h = cc
pick_or-passes test d (x ∷ xs) h = at (test x) refl h (pick_or-passes test d xs)
  where
    at : (b : Bool) → test x ≡ b → (b || list_any test xs) ≡ true → (list_any test xs ≡ true → test (pick_or test d xs) ≡ true) → test (cond b x (pick_or test d xs)) ≡ true
    at true e h rest = e
    at false e h rest = rest h

-- a test of each element with its number
pub numbered-each : {A : Type 0} (test : ℕ → A → Bool) (d : A) (n : ℕ) (xs : List A)
    → list_all (λ p. test p.0 p.1) (enumerate_from n xs) ≡ true → (j k : ℕ) → j < length xs → k ≡ n + j → test k (slice_index_or xs j d) ≡ true
numbered-each test d n [] h j k l e = absurd (omega arith)
numbered-each test d n (x ∷ xs) h zero k l e = let same : k ≡ n = omega arith in ap (λ i. test i x) same ∙ and-left (test n x) _ h
numbered-each test d n (x ∷ xs) h (suc j) k l e = numbered-each test d (n + 1) xs (and-right (test n x) _ h) j k (omega arith) (omega arith)

pub numbered-all : {A : Type 0} (test : ℕ → A → Bool) (d : A) (n : ℕ) (xs : List A)
    → ((j k : ℕ) → j < length xs → k ≡ n + j → test k (slice_index_or xs j d) ≡ true) → list_all (λ p. test p.0 p.1) (enumerate_from n xs) ≡ true
numbered-all test d n [] h = refl
numbered-all test d n (x ∷ xs) h = both (test n x) _ (h 0 n (omega arith) (omega arith)) (numbered-all test d (n + 1) xs (λ j k l e. h (suc j) k (omega arith) (omega arith)))

-- a test of two lists in step
pub zip-each : {A : Type 0} (test : A → A → Bool) (d : A) (xs ys : List A) → list_all (λ p. test p.0 p.1) (zip xs ys) ≡ true → length xs ≡ length ys
    → (j : ℕ) → j < length xs → test (slice_index_or xs j d) (slice_index_or ys j d) ≡ true
zip-each test d [] ys h e j l = absurd (omega arith)
zip-each test d (x ∷ xs) [] h e j l = absurd (omega arith)
zip-each test d (x ∷ xs) (y ∷ ys) h e zero l = and-left (test x y) _ h
zip-each test d (x ∷ xs) (y ∷ ys) h e (suc j) l = zip-each test d xs ys (and-right (test x y) _ h) (omega arith) j (omega arith)

pub zip-all : {A : Type 0} (test : A → A → Bool) (d : A) (xs ys : List A) → length xs ≡ length ys
    → ((j : ℕ) → j < length xs → test (slice_index_or xs j d) (slice_index_or ys j d) ≡ true) → list_all (λ p. test p.0 p.1) (zip xs ys) ≡ true
zip-all test d [] ys e h = refl
zip-all test d (x ∷ xs) [] e h = absurd (omega arith)
zip-all test d (x ∷ xs) (y ∷ ys) e h = both (test x y) _ (h 0 (omega arith)) (zip-all test d xs ys (omega arith) (λ j l. h (suc j) (omega arith)))
