-- Numbers in lists: whether they stand there, and where.
use Rattle.std.specs.Prelude.{◌≡◌, ◌≢◌, ℕ, zero, suc, ◌<◌, ◌≤◌, ◌==◌, ◌||◌, Bool, true, false, if◌then◌else◌, All, AllPairs, List, [], ◌∷◌, ◌++◌, length, slice_index_or, refl}
use Rattle.std.proofs.Common.{eqb, sym, ◌∙◌, ap, subst, arith, inl, inr}
use Rattle.std.specs.List.{IsDistinct, list_any}
use Rattle.std.proofs.lemmas.Bool.{or_cases}
use Rattle.std.proofs.lemmas.Bool.Decides.{nat_tests}
use Rattle.std.proofs.lemmas.List.Elements.{All-head, All-tail, recursion_from_All}
use Rattle.std.proofs.lemmas.Map.Steps.{length-le_from_distinct_below}
use Rattle.std.proofs.lemmas.List.Quantifiers.{all_pairs_push}
use Rattle.sg_circuit.specs.FanOut.{has}
use Rattle.sg_circuit.proofs.PinLaws.{has-append}
use Rattle.settle_bound.specs.Orders.{place_in}

pub same : (x k : ℕ) → x ≡ k → (x == k) ≡ true
same x k e = grind (arith, nat_tests)

pub other : (x k : ℕ) → x ≢ k → (x == k) ≡ false
other x k e = grind (arith, nat_tests)

pub is_same : (x k : ℕ) → (x == k) ≡ true → x ≡ k
is_same x k e = grind (arith, nat_tests)

pub is_other : (x k : ℕ) → (x == k) ≡ false → x ≢ k
is_other x k e = grind (arith, nat_tests)

-- what stands at a place stands in the list
pub has-at : (xs : List ℕ) (i d : ℕ) → i < length xs → has (slice_index_or xs i d) xs ≡ true
has-at [] i d l = absurd (omega arith)
has-at (x ∷ xs) zero d l = ap (λ b. b || has x xs) (same x x refl)
has-at (x ∷ xs) (suc i) d l = let k = slice_index_or xs i d in ap (λ b. (x == k) || b) (has-at xs i d (omega arith)) ∙ or_true (x == k)
  where
    or_true : (b : Bool) → (b || true) ≡ true
    or_true true = refl
    or_true false = refl

-- and what stands in the list stands at a place
pub has-found : (k : ℕ) (xs : List ℕ) → has k xs ≡ true → (i : ℕ) × (i < length xs) × (slice_index_or xs i 0 ≡ k)
has-found k [] e = absurd (let f : false ≡ true = e in cc)
has-found k (x ∷ xs) e = at (x == k) refl e (λ h. has-found k xs h)
  where
    at : (b : Bool) → (x == k) ≡ b → (b || has k xs) ≡ true → (has k xs ≡ true → (i : ℕ) × (i < length xs) × (slice_index_or xs i 0 ≡ k)) → (i : ℕ) × (i < suc (length xs)) × (slice_index_or (x ∷ xs) i 0 ≡ k)
    at true t f rest = (0, omega arith, is_same x k t)
    at false t f rest = let r = rest f in (suc r.0, (let l = r.1 in omega arith), r.2)

-- different numbers below another are no more than that
distinct-of : (xs : List ℕ) → AllPairs (λ m n. m ≢ n) xs → IsDistinct eqb xs
unfolding IsDistinct
distinct-of [] h = tt
distinct-of (x ∷ xs) h = (
  recursion_from_All (λ y. eqb x y ≡ false) xs (λ k d l. other x (slice_index_or xs k d) (h 0 (suc k) d (omega arith) (omega arith))),
  distinct-of xs (λ i j d l m. h (suc i) (suc j) d (omega arith) (omega arith)),
)

any-below : (n q : ℕ) (xs : List ℕ) → All (λ k. k < n) xs → list_any (eqb q) xs ≡ true → q < n
any-below n q [] h e = absurd (let f : false ≡ true = e in cc)
any-below n q (x ∷ xs) h e = elim (or_cases (eqb q x) (list_any (eqb q) xs) e) [
  | inl s ↦ (let same_one : q ≡ x = is_same q x s in let l : x < n = All-head (λ k. k < n) x xs h in omega arith)
  | inr r ↦ any-below n q xs (All-tail (λ k. k < n) x xs h) r
]

pub few : (n : ℕ) (xs : List ℕ) → All (λ k. k < n) xs → AllPairs (λ i j. i ≢ j) xs → length xs ≤ n
few n xs below once = length-le_from_distinct_below xs n (distinct-of xs once) (λ q e. any-below n q xs below e)

-- one more number
pub has-push : (k : ℕ) (xs : List ℕ) (y : ℕ) → has k (xs ++ y ∷ []) ≡ (has k xs || (y == k))
has-push k xs y = has-append k xs (y ∷ []) ∙ ap (λ b. has k xs || b) (or_false (y == k))
  where
    or_false : (b : Bool) → (b || false) ≡ b
    or_false true = refl
    or_false false = refl

pub has-push_same : (k : ℕ) (xs : List ℕ) (y : ℕ) → y ≡ k → has k (xs ++ y ∷ []) ≡ true
has-push_same k xs y e = has-push k xs y ∙ (ap (λ b. has k xs || b) (same y k e) ∙ or_true (has k xs))
  where
    or_true : (b : Bool) → (b || true) ≡ true
    or_true true = refl
    or_true false = refl

pub has-push_other : (k : ℕ) (xs : List ℕ) (y : ℕ) → y ≢ k → has k (xs ++ y ∷ []) ≡ has k xs
has-push_other k xs y n = has-push k xs y ∙ (ap (λ b. has k xs || b) (other y k n) ∙ or_false (has k xs))
  where
    or_false : (b : Bool) → (b || false) ≡ b
    or_false true = refl
    or_false false = refl

-- a number that doesn't stand in a list is none of it
pub has-none : (k : ℕ) (xs : List ℕ) → has k xs ≡ false → (i d : ℕ) → i < length xs → slice_index_or xs i d ≢ k
has-none k xs none i d l e = let yes : has k xs ≡ true = subst (λ n. has n xs ≡ true) e (has-at xs i d l) in let f : true ≡ false = sym yes ∙ none in cc

-- a new number behind different ones
pub once-push : (xs : List ℕ) (y : ℕ) → AllPairs (λ m n. m ≢ n) xs → has y xs ≡ false → AllPairs (λ m n. m ≢ n) (xs ++ y ∷ [])
once-push xs y once none = all_pairs_push (λ m n. m ≢ n) xs y once (λ k d l. has-none y xs none k d l)

-- places
pub place-within : (xs : List ℕ) (k : ℕ) → has k xs ≡ true → place_in xs k < length xs
place-within [] k e = let f : false ≡ true = e in cc
place-within (x ∷ xs) k e = at (x == k) (λ h. place-within xs k h) e
  where
    at : (b : Bool) → (has k xs ≡ true → place_in xs k < length xs) → (b || has k xs) ≡ true → (if b then 0 else suc (place_in xs k)) < suc (length xs)
    at true rest f = omega arith
    at false rest f = let l = rest f in omega arith

pub place-most : (xs : List ℕ) (k : ℕ) → has k xs ≡ false → place_in xs k ≡ length xs
place-most [] k e = refl
place-most (x ∷ xs) k e = at (x == k) (λ h. place-most xs k h) e
  where
    at : (b : Bool) → (has k xs ≡ false → place_in xs k ≡ length xs) → (b || has k xs) ≡ false → (if b then 0 else suc (place_in xs k)) ≡ suc (length xs)
    at true rest f = cc
    at false rest f = ap suc (rest f)

-- a place stays where more comes behind
pub place-append : (xs ys : List ℕ) (k : ℕ) → has k xs ≡ true → place_in (xs ++ ys) k ≡ place_in xs k
place-append [] ys k e = let f : false ≡ true = e in cc
place-append (x ∷ xs) ys k e = at (x == k) (λ h. place-append xs ys k h) e
  where
    at : (b : Bool) → (has k xs ≡ true → place_in (xs ++ ys) k ≡ place_in xs k) → (b || has k xs) ≡ true → (if b then 0 else suc (place_in (xs ++ ys) k)) ≡ (if b then 0 else suc (place_in xs k))
    at true rest f = refl
    at false rest f = ap suc (rest f)
