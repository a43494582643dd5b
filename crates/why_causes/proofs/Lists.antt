-- Lists whose elements are numbered, and the last element of a list.
use Rattle.std.specs.Prelude.{◌≡◌, ℕ, ◌+◌, ◌<◌, ◌≤◌, ◌&&◌, Bool, true, false, cond, List, [], ◌∷◌, ◌++◌, length, take, filter, filter_map, Option, Some, None, slice_index_or, refl}
use Rattle.std.specs.List.{enumerate_from, last_or, AllByRecursion, cons_option, list_all}
use Rattle.std.proofs.Common.{sym, ◌∙◌, ap, subst, arith, take_all}
use Rattle.std.proofs.lemmas.List.FromFn.{length-enumerate_from, get_or-enumerate_from}
use Rattle.std.proofs.lemmas.List.{take_more}
use Rattle.std.proofs.lemmas.List.Elements.{filter-append, filter_map-append}

-- one more of the elements with their numbers
pub numbered-more : {X : Type 0} (xs : List X) (i : ℕ) (x d : X) → i < length xs → x ≡ slice_index_or xs i d
    → take (i + 1) (enumerate_from 0 xs) ≡ take i (enumerate_from 0 xs) ++ (i, x) ∷ []
numbered-more {X} xs i x d l is =
    let many : i < length (enumerate_from 0 xs) = subst (λ n. i < n) (sym (length-enumerate_from 0 xs)) l in
    let zeroth : 0 + i ≡ i = omega arith in
    take_more (enumerate_from 0 xs) i (0, d) many
    ∙ ap (λ (p : ℕ × X). take i (enumerate_from 0 xs) ++ p ∷ []) (get_or-enumerate_from 0 xs i (0, d) l ∙ ap (λ n. (n, slice_index_or xs i d)) zeroth ∙ ap (λ y. (i, y)) (sym is))

pub numbered-all : {X : Type 0} (xs : List X) (i : ℕ) → length xs ≤ i → take i (enumerate_from 0 xs) ≡ enumerate_from 0 xs
numbered-all xs i l = take_all i (enumerate_from 0 xs) (subst (λ n. n ≤ i) (sym (length-enumerate_from 0 xs)) l)

-- the items of one more
pub mapped-more : {X Y : Type 0} (h : ℕ × X → Option Y) (xs : List X) (i : ℕ) (x d : X) → i < length xs → x ≡ slice_index_or xs i d
    → filter_map h (take (i + 1) (enumerate_from 0 xs)) ≡ filter_map h (take i (enumerate_from 0 xs)) ++ cons_option (h (i, x)) []
mapped-more h xs i x d l is = ap (filter_map h) (numbered-more xs i x d l is) ∙ filter_map-append h (take i (enumerate_from 0 xs)) ((i, x) ∷ [])

-- the last of one more
pub last-push : {A : Type 0} (o : Option A) (xs : List A) (x : A) → last_or o (xs ++ x ∷ []) ≡ Some x
last-push o [] x = refl
last-push o (y ∷ ys) x = last-push (Some y) ys x

-- a filter of a filter
pub filter-both : {A : Type 0} (p q : A → Bool) (xs : List A) → filter p (filter q xs) ≡ filter (λ x. q x && p x) xs
filter-both p q [] = refl
filter-both {A} p q (x ∷ xs) = at (q x) refl (filter-both p q xs)
  where
    at : (b : Bool) → q x ≡ b → filter p (filter q xs) ≡ filter (λ x. q x && p x) xs → filter p (cond b (x ∷ filter q xs) (filter q xs)) ≡ cond (b && p x) (x ∷ filter (λ x. q x && p x) xs) (filter (λ x. q x && p x) xs)
    at true e rest = ap (λ ys. cond (p x) (x ∷ ys) ys) rest
    at false e rest = rest

-- two tests that agree on all elements
pub filter-same : {A : Type 0} (p q : A → Bool) (xs : List A) → AllByRecursion (λ x. p x ≡ q x) xs → filter p xs ≡ filter q xs
filter-same p q [] h = refl
filter-same p q (x ∷ xs) h = ap (λ b. cond b (x ∷ filter p xs) (filter p xs)) h.0 ∙ ap (λ ys. cond (q x) (x ∷ ys) ys) (filter-same p q xs h.1)

-- what is left of a filter, mapped in part
pub map-some-filter : {A B : Type 0} (h : A → Option B) (p : A → Bool) (xs : List A) → filter_map h (filter p xs) ≡ filter_map (λ x. cond (p x) (h x) None) xs
map-some-filter h p [] = refl
map-some-filter {A} {B} h p (x ∷ xs) = at (p x) (map-some-filter h p xs)
  where
    at : (b : Bool) → filter_map h (filter p xs) ≡ filter_map (λ x. cond (p x) (h x) None) xs → filter_map h (cond b (x ∷ filter p xs) (filter p xs)) ≡ cons_option (cond b (h x) None) (filter_map (λ x. cond (p x) (h x) None) xs)
    at true rest = ap (cons_option (h x)) rest
    at false rest = rest

pub each-append : {A : Type 0} (P : A → Type 0) (xs ys : List A) → AllByRecursion P xs → AllByRecursion P ys → AllByRecursion P (xs ++ ys)
each-append P [] ys h k = k
each-append P (x ∷ xs) ys h k = (h.0, each-append P xs ys h.1 k)

pub each-weaker : {A : Type 0} (P Q : A → Type 0) (xs : List A) → ((x : A) → P x → Q x) → AllByRecursion P xs → AllByRecursion Q xs
each-weaker P Q [] f h = tt
each-weaker P Q (x ∷ xs) f h = (f x h.0, each-weaker P Q xs f h.1)

pub each-filter : {A : Type 0} (P : A → Type 0) (test : A → Bool) (xs : List A) → AllByRecursion P xs → AllByRecursion P (filter test xs)
each-filter P test [] h = tt
each-filter P test (x ∷ xs) h = at (test x) (each-filter P test xs h.1)
  where
    at : (b : Bool) → AllByRecursion P (filter test xs) → AllByRecursion P (cond b (x ∷ filter test xs) (filter test xs))
    at true rest = (h.0, rest)
    at false rest = rest

pub filter-none : {A : Type 0} (test : A → Bool) (xs : List A) → AllByRecursion (λ x. test x ≡ false) xs → filter test xs ≡ []
filter-none test [] h = refl
filter-none test (x ∷ xs) h = ap (λ b. cond b (x ∷ filter test xs) (filter test xs)) h.0 ∙ filter-none test xs h.1

pub filter-mid : {A : Type 0} (test : A → Bool) (front : List A) (b : A) (back : List A) → test b ≡ true → filter test (front ++ b ∷ back) ≡ filter test front ++ b ∷ filter test back
filter-mid test front b back h = filter-append test front (b ∷ back) ∙ ap (λ c. filter test front ++ cond c (b ∷ filter test back) (filter test back)) h

pub all-from : {A : Type 0} (test : A → Bool) (xs : List A) → AllByRecursion (λ x. test x ≡ true) xs → list_all test xs ≡ true
all-from test [] h = refl
all-from test (x ∷ xs) h = ap (λ b. b && list_all test xs) h.0 ∙ all-from test xs h.1

pub all-mid-false : {A : Type 0} (test : A → Bool) (front : List A) (b : A) (back : List A) → test b ≡ false → list_all test (front ++ b ∷ back) ≡ false
all-mid-false test [] b back h = ap (λ c. c && list_all test back) h
all-mid-false test (x ∷ xs) b back h = at (test x) (all-mid-false test xs b back h)
  where
    at : (c : Bool) → list_all test (xs ++ b ∷ back) ≡ false → (c && list_all test (xs ++ b ∷ back)) ≡ false
    at true e = e
    at false e = refl
