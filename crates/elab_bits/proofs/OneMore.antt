-- Elements that are added one after another: what is there, followed by what is left, is the whole.
use Rattle.std.proofs.Common.{◌≡◌, ℕ, suc, ◌+◌, ◌-◌, ◌<◌, ◌≤◌, List, [], ◌∷◌, ◌++◌, map, reverse, sym, ap, ◌∙◌, arith, append_assoc, refl, length, get_or, drop, drop-cons}
use Rattle.std.specs.List.{range_with_len}
use Rattle.std.proofs.lemmas.List.{append-nil, reverse-append}
use Rattle.std.proofs.lemmas.List.FromFn.{map-range_with_len_more}

-- one more is there, and one fewer is left
pub one-added : {A : Type 0} (x : A) (xs rest left new total : List A) → rest ≡ x ∷ left → new ≡ xs ++ x ∷ [] → xs ++ rest ≡ total → new ++ left ≡ total
one-added x xs rest left new total r n h = ap (λ ys. ys ++ left) n ∙ append_assoc xs (x ∷ []) left ∙ ap (λ ys. xs ++ ys) (sym r) ∙ h

-- none is left
pub none-left : {A : Type 0} (xs rest total : List A) → rest ≡ [] → xs ++ rest ≡ total → xs ≡ total
none-left xs rest total r h = sym (append-nil xs) ∙ ap (λ ys. xs ++ ys) (sym r) ∙ h

-- numbers from one to before another, from the first
pub first-of : {A : Type 0} (f : ℕ → A) (p e : ℕ) → p < e → map f (range_with_len p (e - p)) ≡ f p ∷ map f (range_with_len (p + 1) (e - (p + 1)))
first-of f p e lt = let n : e - p ≡ suc (e - (p + 1)) = omega arith in ap (λ k. map f (range_with_len p k)) n

pub none-of : {A : Type 0} (f : ℕ → A) (p e : ℕ) → e ≤ p → map f (range_with_len p (e - p)) ≡ []
none-of f p e le = let n : e - p ≡ 0 = omega arith in ap (λ k. map f (range_with_len p k)) n

-- and from the last
range-more : (a n j : ℕ) → a + n ≡ j → range_with_len a (n + 1) ≡ range_with_len a n ++ j ∷ []
range-more a n j e = sym (same (range_with_len a (n + 1))) ∙ map-range_with_len_more (λ k. k) a n j e ∙ ap (λ ks. ks ++ j ∷ []) (same (range_with_len a n))
  where
    same : (ks : List ℕ) → map (λ k. k) ks ≡ ks
    same [] = refl
    same (k ∷ ks) = ap (λ js. k ∷ js) (same ks)

pub last-of : {A : Type 0} (f : ℕ → A) (p e : ℕ) → p < e → map f (reverse (range_with_len p (e - p))) ≡ f (e - 1) ∷ map f (reverse (range_with_len p (e - 1 - p)))
last-of f p e lt =
    let n : e - p ≡ (e - 1 - p) + 1 = omega arith in
    let j : p + (e - 1 - p) ≡ e - 1 = omega arith in
    ap (λ k. map f (reverse (range_with_len p k))) n ∙ ap (λ ks. map f (reverse ks)) (range-more p (e - 1 - p) (e - 1) j)
    ∙ ap (map f) (reverse-append (range_with_len p (e - 1 - p)) ((e - 1) ∷ []))

pub none-before : {A : Type 0} (f : ℕ → A) (p e : ℕ) → e ≤ p → map f (reverse (range_with_len p (e - p))) ≡ []
none-before f p e le = let n : e - p ≡ 0 = omega arith in ap (λ k. map f (reverse (range_with_len p k))) n

-- elements from a place on
pub next-of : {A B : Type 0} (f : A → B) (xs : List A) (i : ℕ) (d : A) → i < length xs → map f (drop i xs) ≡ f (get_or xs i d) ∷ map f (drop (i + 1) xs)
next-of f xs i d lt = let n : suc i ≡ i + 1 = omega arith in ap (map f) (drop-cons xs i d lt) ∙ ap (λ k. f (get_or xs i d) ∷ map f (drop k xs)) n
