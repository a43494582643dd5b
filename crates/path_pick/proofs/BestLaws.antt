-- The first of the best by two measures, the greatest first and then the least, and one pass that keeps the best so far.
use Rattle.std.specs.Prelude.{◌≡◌, ℕ, nat_le, Bool, true, false, ◌&&◌, cond, List, [], ◌∷◌, ◌++◌, filter, slice_get, Some, refl}
use Rattle.std.specs.List.{list_all, AllByRecursion}
use Rattle.std.proofs.Common.{sym, ◌∙◌, ap, subst, arith, append_assoc}
use Rattle.std.proofs.lemmas.List.Elements.{filter-append}
use Rattle.std.proofs.lemmas.Bool.Decides.{nat_tests}
use Rattle.path_pick.specs.Pass.{beats}

beats-beats : (t d t' d' t'' d'' : ℕ) → beats t d t' d' ≡ true → beats t' d' t'' d'' ≡ true → beats t d t'' d'' ≡ true
beats-beats t d t' d' t'' d'' h k = grind (arith, nat_tests)

beats-unbeaten : (t d t' d' t'' d'' : ℕ) → beats t d t' d' ≡ true → beats t'' d'' t' d' ≡ false → beats t d t'' d'' ≡ true
beats-unbeaten t d t' d' t'' d'' h k = grind (arith, nat_tests)

beaten-later : (t d t' d' : ℕ) → beats t d t' d' ≡ true → nat_le t' t ≡ true
beaten-later t d t' d' h = grind (arith, nat_tests)

unbeaten-later : (t d t' d' : ℕ) → beats t' d' t d ≡ false → nat_le t' t ≡ true
unbeaten-later t d t' d' h = grind (arith, nat_tests)

beaten-slower : (t d t' d' : ℕ) → beats t d t' d' ≡ true → nat_le t t' ≡ true → nat_le d' d ≡ false
beaten-slower t d t' d' h k = grind (arith, nat_tests)

beaten-quicker : (t d t' d' : ℕ) → beats t d t' d' ≡ true → nat_le t t' ≡ true → nat_le d d' ≡ true
beaten-quicker t d t' d' h k = grind (arith, nat_tests)

unbeaten-quicker : (t d t' d' : ℕ) → beats t' d' t d ≡ false → nat_le t t' ≡ true → nat_le d d' ≡ true
unbeaten-quicker t d t' d' h k = grind (arith, nat_tests)

itself : (t : ℕ) → nat_le t t ≡ true
itself t = grind (arith, nat_tests)

each-append : {A : Type 0} (P : A → Type 0) (xs ys : List A) → AllByRecursion P xs → AllByRecursion P ys → AllByRecursion P (xs ++ ys)
each-append P [] ys h k = k
each-append P (x ∷ xs) ys h k = (h.0, each-append P xs ys h.1 k)

each-weaker : {A : Type 0} (P Q : A → Type 0) (xs : List A) → ((x : A) → P x → Q x) → AllByRecursion P xs → AllByRecursion Q xs
each-weaker P Q [] f h = tt
each-weaker P Q (x ∷ xs) f h = (f x h.0, each-weaker P Q xs f h.1)

each-filter : {A : Type 0} (P Q : A → Type 0) (test : A → Bool) (xs : List A) → ((x : A) → P x → test x ≡ true → Q x) → AllByRecursion P xs → AllByRecursion Q (filter test xs)
each-filter P Q test [] f h = tt
each-filter P Q test (x ∷ xs) f h = at (test x) refl (each-filter P Q test xs f h.1)
  where
    at : (b : Bool) → test x ≡ b → AllByRecursion Q (filter test xs) → AllByRecursion Q (cond b (x ∷ filter test xs) (filter test xs))
    at true e rest = (f x h.0 e, rest)
    at false e rest = rest

filter-none : {A : Type 0} (test : A → Bool) (xs : List A) → AllByRecursion (λ x. test x ≡ false) xs → filter test xs ≡ []
filter-none test [] h = refl
filter-none test (x ∷ xs) h = ap (λ b. cond b (x ∷ filter test xs) (filter test xs)) h.0 ∙ filter-none test xs h.1

all-from : {A : Type 0} (test : A → Bool) (xs : List A) → AllByRecursion (λ x. test x ≡ true) xs → list_all test xs ≡ true
all-from test [] h = refl
all-from test (x ∷ xs) h = ap (λ b. b && list_all test xs) h.0 ∙ all-from test xs h.1

all-mid : {A : Type 0} (test : A → Bool) (front : List A) (b : A) (back : List A) → list_all test (front ++ b ∷ back) ≡ true → test b ≡ true
all-mid test [] b back h = at (test b) h
  where
    at : (c : Bool) → (c && list_all test back) ≡ true → c ≡ true
    at true h = refl
    at false h = cc
all-mid test (x ∷ xs) b back h = all-mid test xs b back (at (test x) h)
  where
    at : (c : Bool) → (c && list_all test (xs ++ b ∷ back)) ≡ true → list_all test (xs ++ b ∷ back) ≡ true
    at true h = h
    at false h = cc

all-mid-false : {A : Type 0} (test : A → Bool) (front : List A) (b : A) (back : List A) → test b ≡ false → list_all test (front ++ b ∷ back) ≡ false
all-mid-false test front b back h = at (list_all test (front ++ b ∷ back)) (all-mid test front b back)
  where
    at : (c : Bool) → (c ≡ true → test b ≡ true) → c ≡ false
    at true f = let e : test b ≡ true = f refl in cc
    at false f = refl

filter-mid : {A : Type 0} (test : A → Bool) (front : List A) (b : A) (back : List A) → test b ≡ true → filter test (front ++ b ∷ back) ≡ filter test front ++ b ∷ filter test back
filter-mid test front b back h = filter-append test front (b ∷ back) ∙ ap (λ c. filter test front ++ cond c (b ∷ filter test back) (filter test back)) h

-- the elements are some that b beats, b, and some that don't beat b
pub record IsFirstBest {A : Type 0} (time delay : A → ℕ) (xs : List A) (b : A) : Type 0 where
  pub front : List A
  pub back : List A
  pub is : xs ≡ front ++ b ∷ back
  pub beaten : AllByRecursion (λ q. beats (time b) (delay b) (time q) (delay q) ≡ true) front
  pub unbeaten : AllByRecursion (λ q. beats (time q) (delay q) (time b) (delay b) ≡ false) back

pub first-best-one : {A : Type 0} (time delay : A → ℕ) (p : A) → IsFirstBest time delay (p ∷ []) p
first-best-one time delay p = record { front = []; back = []; is = refl; beaten = tt; unbeaten = tt }

-- one more that doesn't beat the best
pub first-best-stays : {A : Type 0} (time delay : A → ℕ) (xs : List A) (b p : A) → IsFirstBest time delay xs b → beats (time p) (delay p) (time b) (delay b) ≡ false → IsFirstBest time delay (xs ++ p ∷ []) b
first-best-stays time delay xs b p h e = record {
  front = h.front;
  back = h.back ++ p ∷ [];
  is = ap (λ ys. ys ++ p ∷ []) h.is ∙ append_assoc h.front (b ∷ h.back) (p ∷ []);
  beaten = h.beaten;
  unbeaten = each-append (λ q. beats (time q) (delay q) (time b) (delay b) ≡ false) h.back (p ∷ []) h.unbeaten (e, tt);
}

-- one more that beats it
pub first-best-moves : {A : Type 0} (time delay : A → ℕ) (xs : List A) (b p : A) → IsFirstBest time delay xs b → beats (time p) (delay p) (time b) (delay b) ≡ true → IsFirstBest time delay (xs ++ p ∷ []) p
first-best-moves time delay xs b p h e = record {
  front = xs;
  back = [];
  is = refl;
  beaten = subst (λ ys. AllByRecursion (λ q. beats (time p) (delay p) (time q) (delay q) ≡ true) ys) (sym h.is)
      (each-append (λ q. beats (time p) (delay p) (time q) (delay q) ≡ true) h.front (b ∷ h.back)
      (each-weaker (λ q. beats (time b) (delay b) (time q) (delay q) ≡ true) (λ q. beats (time p) (delay p) (time q) (delay q) ≡ true) h.front (λ q k. beats-beats (time p) (delay p) (time b) (delay b) (time q) (delay q) e k) h.beaten)
      (e, each-weaker (λ q. beats (time q) (delay q) (time b) (delay b) ≡ false) (λ q. beats (time p) (delay p) (time q) (delay q) ≡ true) h.back (λ q k. beats-unbeaten (time p) (delay p) (time b) (delay b) (time q) (delay q) e k) h.unbeaten));
  unbeaten = tt;
}

-- those that are as late as all
abbrev pub late : {A : Type 0} → (A → ℕ) → List A → List A
late time xs = filter (λ p. list_all (λ q. nat_le (time q) (time p)) xs) xs

-- those that are as quick as all
abbrev pub quick : {A : Type 0} → (A → ℕ) → List A → List A
quick delay xs = filter (λ p. list_all (λ q. nat_le (delay p) (delay q)) xs) xs

-- it is the one that the filters leave first
pub first-best-is : {A : Type 0} (time delay : A → ℕ) (xs : List A) (b : A) → IsFirstBest time delay xs b → slice_get (quick delay (late time xs)) 0 ≡ Some b
first-best-is {A} time delay xs b h =
    let is_late : A → Bool = λ x. list_all (λ y. nat_le (time y) (time x)) xs in
    let b_late : is_late b ≡ true = ap (list_all (λ y. nat_le (time y) (time b))) h.is ∙ all-from (λ y. nat_le (time y) (time b)) (h.front ++ b ∷ h.back)
    (each-append (λ y. nat_le (time y) (time b) ≡ true) h.front (b ∷ h.back)
    (each-weaker (λ q. beats (time b) (delay b) (time q) (delay q) ≡ true) (λ y. nat_le (time y) (time b) ≡ true) h.front (λ q k. beaten-later (time b) (delay b) (time q) (delay q) k) h.beaten)
    (itself (time b), each-weaker (λ q. beats (time q) (delay q) (time b) (delay b) ≡ false) (λ y. nat_le (time y) (time b) ≡ true) h.back (λ q k. unbeaten-later (time b) (delay b) (time q) (delay q) k) h.unbeaten)) in
    let not_before : (x : A) → is_late x ≡ true → nat_le (time b) (time x) ≡ true = λ x k. all-mid (λ y. nat_le (time y) (time x)) h.front b h.back (sym (ap (list_all (λ y. nat_le (time y) (time x))) h.is) ∙ k) in
    let F : List A = filter is_late h.front in
    let B : List A = filter is_late h.back in
    let left : filter is_late xs ≡ F ++ b ∷ B = ap (filter is_late) h.is ∙ filter-mid is_late h.front b h.back b_late in
    let is_quick : A → Bool = λ x. list_all (λ y. nat_le (delay x) (delay y)) (F ++ b ∷ B) in
    let b_quick : is_quick b ≡ true = all-from (λ y. nat_le (delay b) (delay y)) (F ++ b ∷ B)
    (each-append (λ y. nat_le (delay b) (delay y) ≡ true) F (b ∷ B)
    (each-filter (λ q. beats (time b) (delay b) (time q) (delay q) ≡ true) (λ y. nat_le (delay b) (delay y) ≡ true) is_late h.front (λ q k l. beaten-quicker (time b) (delay b) (time q) (delay q) k (not_before q l)) h.beaten)
    (itself (delay b), each-filter (λ q. beats (time q) (delay q) (time b) (delay b) ≡ false) (λ y. nat_le (delay b) (delay y) ≡ true) is_late h.back (λ q k l. unbeaten-quicker (time b) (delay b) (time q) (delay q) k (not_before q l)) h.unbeaten)) in
    let slow : AllByRecursion (λ x. is_quick x ≡ false) F = each-filter (λ q. beats (time b) (delay b) (time q) (delay q) ≡ true) (λ x. is_quick x ≡ false) is_late h.front
    (λ q k l. all-mid-false (λ y. nat_le (delay q) (delay y)) F b B (beaten-slower (time b) (delay b) (time q) (delay q) k (not_before q l))) h.beaten in
    ap (λ ys. slice_get (quick delay ys) 0) left
    ∙ (ap (λ ys. slice_get ys 0) (filter-mid is_quick F b B b_quick) ∙ ap (λ ys. slice_get (ys ++ b ∷ filter is_quick B) 0) (filter-none is_quick F slow))
