-- Tests of some element of a list, and two tests, one after the other.
use Rattle.std.proofs.Common.{◌≡◌, suc, Bool, true, false, All, List, [], ◌∷◌, map, refl, sym, ◌∙◌, ap, arith}
use Rattle.std.specs.Prelude.{◌&&◌, ◌||◌, flat_map, if◌then◌else◌}
use Rattle.std.specs.List.{list_any}
use Rattle.std.proofs.lemmas.List.Folds.{list_any-append}

pub any-map : {A B : Type 0} (p : B → Bool) (f : A → B) (xs : List A) → list_any p (map f xs) ≡ list_any (λ x. p (f x)) xs
any-map p f [] = refl
any-map p f (x ∷ xs) = ap (λ b. p (f x) || b) (any-map p f xs)

-- the same of a list that is known by an equation
pub any-mapped : {A B : Type 0} (p : B → Bool) (f : A → B) (xs ys : List A) (b : Bool) → ys ≡ xs → b ≡ list_any (λ x. p (f x)) ys → b ≡ list_any p (map f xs)
any-mapped p f xs ys b e h = h ∙ ap (list_any (λ x. p (f x))) e ∙ sym (any-map p f xs)

pub any-flat : {A B : Type 0} (p : B → Bool) (f : A → List B) (xs : List A) → list_any p (flat_map f xs) ≡ list_any (λ x. list_any p (f x)) xs
any-flat p f [] = refl
any-flat p f (x ∷ xs) = list_any-append p (f x) (flat_map f xs) ∙ ap (λ b. list_any p (f x) || b) (any-flat p f xs)

-- tests that agree on what stands in a list
pub any-alike : {A : Type 0} (p q : A → Bool) (xs : List A) → All (λ x. p x ≡ q x) xs → list_any p xs ≡ list_any q xs
any-alike p q [] h = refl
any-alike p q (x ∷ xs) h = ap (λ b. b || list_any p xs) (h 0 x (omega arith)) ∙ ap (λ b. q x || b) (any-alike p q xs (λ k d l. h (suc k) d (omega (arith, l))))

-- one test or the other
pub any-either : {A : Type 0} (p q : A → Bool) (xs : List A) → (list_any p xs || list_any q xs) ≡ list_any (λ x. p x || q x) xs
any-either p q [] = refl
any-either p q (x ∷ xs) = turned (p x) (q x) (list_any p xs) (list_any q xs) ∙ ap (λ b. (p x || q x) || b) (any-either p q xs)
  where
    turned : (a b c d : Bool) → ((a || c) || (b || d)) ≡ ((a || b) || (c || d))
    turned true b c d = refl
    turned false true true d = refl
    turned false true false d = refl
    turned false false c d = refl

-- a test that is asked under a condition
pub any-under : {A : Type 0} (b : Bool) (p : A → Bool) (xs : List A) → list_any (λ x. b && p x) xs ≡ (b && list_any p xs)
any-under true p xs = refl
any-under false p [] = refl
any-under false p (x ∷ xs) = any-under false p xs

pub any-if : {A : Type 0} (b : Bool) (p : A → Bool) (xs : List A) → list_any p (if b then xs else []) ≡ (b && list_any p xs)
any-if true p xs = refl
any-if false p xs = refl

-- two tests, one after the other, of lists that are known by equations
pub first_passes : {A B : Type 0} (p : A → Bool) (q : B → Bool) (es xs : List A) (ys : List B) (b whole : Bool) → whole ≡ (list_any p xs || list_any q ys) → es ≡ xs → b ≡ list_any p es → b ≡ true → b ≡ whole
first_passes p q es xs ys b whole w e h t = by (list_any p xs) refl
  where
    by : (a : Bool) → list_any p xs ≡ a → b ≡ whole
    by true a = t ∙ sym (w ∙ ap (λ c. c || list_any q ys) a)
    by false a = let f : false ≡ true = sym (h ∙ ap (list_any p) e ∙ a) ∙ t in cc

pub first_fails : {A B : Type 0} (p : A → Bool) (q : B → Bool) (es xs : List A) (ks ys : List B) (a b whole : Bool) → whole ≡ (list_any p xs || list_any q ys) → es ≡ xs → ks ≡ ys → a ≡ list_any p es → a ≡ false → b ≡ list_any q ks → b ≡ whole
first_fails p q es xs ks ys a b whole w e f h t g = g ∙ ap (list_any q) f ∙ sym (w ∙ ap (λ c. c || list_any q ys) (sym (h ∙ ap (list_any p) e) ∙ t))

-- one test, and another where it passes
pub both_true : (a b p q whole : Bool) → whole ≡ (p && q) → a ≡ p → a ≡ true → b ≡ q → b ≡ whole
both_true a b true q whole w e t f = f ∙ sym w
both_true a b false q whole w e t f = absurd cc

pub one_false : (a p q whole : Bool) → whole ≡ (p && q) → a ≡ p → a ≡ false → a ≡ whole
one_false a true q whole w e t = absurd cc
one_false a false q whole w e t = t ∙ sym w
