-- The first of a list that passes a test, or of which something is made, step by step.
use Rattle.std.specs.Prelude.{◌≡◌, ℕ, suc, ◌+◌, ◌-◌, ◌<◌, ◌≤◌, List, [], ◌∷◌, Bool, true, false, Option, Some, None, cond, drop, filter_map, find, length, map, slice_get, refl}
use Rattle.std.specs.List.{cons_option, position_from, range_with_len}
use Rattle.std.specs.Option.{option_or}
use Rattle.std.proofs.Common.{sym, ◌∙◌, ap, subst, arith, get_or}
use Rattle.std.proofs.lemmas.List.{at_drop_more}

-- a position that is found is one of the list
pub position_within : {A : Type 0} (t : A → Bool) (a : ℕ) (xs : List A) (k : ℕ) → position_from t a xs ≡ Some k → k < a + length xs
position_within t a [] k e = cc
position_within t a (x ∷ xs) k e = by (t x) refl (position_within t (a + 1) xs k)
  where
    by : (b : Bool) → t x ≡ b → (position_from t (a + 1) xs ≡ Some k → k < (a + 1) + length xs) → k < a + suc (length xs)
    by true h rest = let g : Some a ≡ Some k = rw h at e in let i : a ≡ k = cc in omega (arith, i)
    by false h rest = let g : position_from t (a + 1) xs ≡ Some k = rw h at e in let l : k < (a + 1) + length xs = rest g in omega (arith, l)

-- the first that passes, of what is left from a place on
pub find_step : {A B : Type 0} (test : B → Bool) (f : A → B) (xs : List A) (i : ℕ) (d : A) (y : B) → i < length xs → y ≡ f (get_or xs i d)
    → find test (map f (drop i xs)) ≡ cond (test y) (Some y) (find test (map f (drop (i + 1) xs)))
find_step test f xs i d y l e =
    at_drop_more (λ ys. find test (map f ys)) xs i d l ∙ ap (λ z. cond (test z) (Some z) (find test (map f (drop (i + 1) xs)))) (sym e)

first_cons : {A : Type 0} (o : Option A) (xs : List A) → slice_get (cons_option o xs) 0 ≡ option_or o (slice_get xs 0)
first_cons None xs = refl
first_cons (Some x) xs = refl

-- the first of which something is made
pub made_step : {A B C : Type 0} (g : B → Option C) (f : A → B) (xs : List A) (i : ℕ) (d : A) (y : B) → i < length xs → y ≡ f (get_or xs i d)
    → slice_get (filter_map g (map f (drop i xs))) 0 ≡ option_or (g y) (slice_get (filter_map g (map f (drop (i + 1) xs))) 0)
made_step g f xs i d y l e =
    at_drop_more (λ ys. slice_get (filter_map g (map f ys)) 0) xs i d l
    ∙ (first_cons (g (f (get_or xs i d))) (filter_map g (map f (drop (i + 1) xs)))
    ∙ ap (λ z. option_or (g z) (slice_get (filter_map g (map f (drop (i + 1) xs))) 0)) (sym e))

-- the first of a list that passes, where it stands by its place
pub found_at : {A B : Type 0} (t : B → Bool) (f : A → B) (a : ℕ) (xs : List A) (d : A) (k : ℕ) → position_from (λ x. t (f x)) a xs ≡ Some k
    → (j : ℕ) × (k ≡ a + j) × (find t (map f xs) ≡ Some (f (get_or xs j d)))
found_at t f a [] d k e = cc
found_at t f a (x ∷ xs) d k e = by (t (f x)) refl (found_at t f (a + 1) xs d k)
  where
    by : (b : Bool) → t (f x) ≡ b → (position_from (λ y. t (f y)) (a + 1) xs ≡ Some k → (j : ℕ) × (k ≡ (a + 1) + j) × (find t (map f xs) ≡ Some (f (get_or xs j d))))
        → (j : ℕ) × (k ≡ a + j) × (find t (map f (x ∷ xs)) ≡ Some (f (get_or (x ∷ xs) j d)))
    by true h rest = let g : Some a ≡ Some k = rw h at e in (0, (let i : a ≡ k = cc in omega (arith, i)), rw h refl)
    by false h rest =
        let g : position_from (λ y. t (f y)) (a + 1) xs ≡ Some k = rw h at e in
        let r = rest g in
        (suc r.0, (let i = r.1 in omega (arith, i)), rw h r.2)

pub none_found : {A B : Type 0} (t : B → Bool) (f : A → B) (a : ℕ) (xs : List A) → position_from (λ x. t (f x)) a xs ≡ None → find t (map f xs) ≡ None
none_found t f a [] e = refl
none_found t f a (x ∷ xs) e = by (t (f x)) refl (none_found t f (a + 1) xs)
  where
    by : (b : Bool) → t (f x) ≡ b → (position_from (λ y. t (f y)) (a + 1) xs ≡ None → find t (map f xs) ≡ None) → find t (map f (x ∷ xs)) ≡ None
    by true h rest = let g : Some a ≡ None = rw h at e in cc
    by false h rest = let g : position_from (λ y. t (f y)) (a + 1) xs ≡ None = rw h at e in rw h (rest g)

-- of numbers that are left one that doesn't pass
pub none_at : (t : ℕ → Bool) (k n : ℕ) (whole : Option ℕ) → k < n → (k ≤ n) × (whole ≡ find t (range_with_len k (n - k))) → t k ≡ false
    → (k + 1 ≤ n) × (whole ≡ find t (range_with_len (k + 1) (n - (k + 1))))
none_at t k n whole l h fails =
    let e : n - k ≡ suc (n - (k + 1)) = omega (arith, l) in
    (omega (arith, l), h.1 ∙ (ap (λ m. find t (range_with_len k m)) e ∙ ap (λ b. cond b (Some k) (find t (range_with_len (k + 1) (n - (k + 1))))) fails))
