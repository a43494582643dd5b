-- Lists that are numbered, element after element.
use Rattle.std.specs.Prelude.{◌≡◌, ℕ, zero, suc, ◌+◌, List, [], ◌∷◌, ◌++◌, Some, slice_get, take, drop}
use Rattle.std.specs.List.{enumerate_from, range_with_len}
use Rattle.std.proofs.Common.{◌∙◌, ap, arith}

next-numbered : {A : Type 0} (a k : ℕ) (xs : List A) (x : A) → slice_get xs k ≡ Some x → drop k (enumerate_from a xs) ≡ (a + k, x) ∷ drop (suc k) (enumerate_from a xs)
next-numbered a k [] x e = cc
next-numbered a zero (y ∷ ys) x e = let f : y ≡ x = cc in let n : a ≡ a + 0 = omega arith in ap (λ z. (a, z) ∷ enumerate_from (a + 1) ys) f ∙ ap (λ m. (m, x) ∷ enumerate_from (a + 1) ys) n
next-numbered a (suc k) (y ∷ ys) x e =
    let n : (a + 1) + k ≡ a + suc k = omega arith in
    next-numbered (a + 1) k ys x e ∙ ap (λ m. (m, x) ∷ drop (suc k) (enumerate_from (a + 1) ys)) n

take-next : {A : Type 0} (k : ℕ) (xs ys : List A) (x : A) → drop k xs ≡ x ∷ ys → take (suc k) xs ≡ take k xs ++ x ∷ []
take-next zero [] ys x e = cc
take-next zero (z ∷ zs) ys x e = let f : z ≡ x = cc in ap (λ y. y ∷ []) f
take-next (suc k) [] ys x e = cc
take-next (suc k) (z ∷ zs) ys x e = ap (λ xs. z ∷ xs) (take-next k zs ys x e)

-- the next of the list, with its number
pub next-is : {A : Type 0} (xs : List A) (k : ℕ) (x : A) → slice_get xs k ≡ Some x → drop k (enumerate_from 0 xs) ≡ (k, x) ∷ drop (k + 1) (enumerate_from 0 xs)
next-is xs k x e =
    let z : 0 + k ≡ k = omega arith in
    let n : suc k ≡ k + 1 = omega arith in
    next-numbered 0 k xs x e ∙ ap (λ m. (m, x) ∷ drop (suc k) (enumerate_from 0 xs)) z ∙ ap (λ m. (k, x) ∷ drop m (enumerate_from 0 xs)) n

pub taken : {A : Type 0} (xs : List A) (k : ℕ) (x : A) → slice_get xs k ≡ Some x → take (k + 1) (enumerate_from 0 xs) ≡ take k (enumerate_from 0 xs) ++ (k, x) ∷ []
taken xs k x e =
    let n : k + 1 ≡ suc k = omega arith in
    ap (λ m. take m (enumerate_from 0 xs)) n ∙ take-next k (enumerate_from 0 xs) (drop (k + 1) (enumerate_from 0 xs)) (k, x) (next-is xs k x e)

-- one number more
pub range-more : (a n : ℕ) → range_with_len a (n + 1) ≡ range_with_len a n ++ (a + n) ∷ []
range-more a zero = let z : a ≡ a + 0 = omega arith in ap (λ k. k ∷ []) z
range-more a (suc n) =
    let m : suc n + 1 ≡ suc (n + 1) = omega arith in
    let k : (a + 1) + n ≡ a + suc n = omega arith in
    ap (range_with_len a) m ∙ ap (λ xs. a ∷ xs) (range-more (a + 1) n) ∙ ap (λ j. (a ∷ range_with_len (a + 1) n) ++ j ∷ []) k
