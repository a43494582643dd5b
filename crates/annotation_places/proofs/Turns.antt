-- Loops that add lists one after another, or look through them.
use Rattle.std.specs.Prelude.{◌≡◌, refl, ℕ, suc, ◌+◌, ◌-◌, ◌<◌, ◌≤◌, ◌==◌, ◌||◌, nat_eq, All, Bool, true, false, List, [], ◌∷◌, ◌++◌, length, drop, slice_index_or}
use Rattle.std.specs.List.{flat_map, list_any, range_with_len}
use Rattle.std.proofs.Common.{ap, sym, ◌∙◌, arith, append_assoc}
use Rattle.std.proofs.lemmas.List.{append-nil, drop_all, drop_more}
use Rattle.std.proofs.lemmas.List.FromFn.{get_or-range_with_len, length-range_with_len}
use Rattle.annotation_model.specs.Ports.{has}
use Rattle.annotation_index.proofs.PickLaws.{has-append}

-- what one gives is there, and less is left
pub added : (f : ℕ → List ℕ) (xs : List ℕ) (i d : ℕ) (old new total : List ℕ) → i < length xs → new ≡ old ++ f (slice_index_or xs i d)
    → old ++ flat_map f (drop i xs) ≡ total → new ++ flat_map f (drop (i + 1) xs) ≡ total
added f xs i d old new total l n h =
    ap (λ ys. ys ++ flat_map f (drop (i + 1) xs)) n ∙ append_assoc old (f (slice_index_or xs i d)) (flat_map f (drop (i + 1) xs))
    ∙ ap (λ ys. old ++ flat_map f ys) (sym (drop_more xs i d l)) ∙ h

-- nothing is left
pub all_added : (f : ℕ → List ℕ) (xs : List ℕ) (i : ℕ) (old total : List ℕ) → length xs ≤ i → old ++ flat_map f (drop i xs) ≡ total → old ≡ total
all_added f xs i old total l h = sym (append-nil old) ∙ ap (λ ys. old ++ flat_map f ys) (sym (drop_all i xs l)) ∙ h

-- a number more is there, and one fewer is left
pub number_added : (k end : ℕ) (old new total : List ℕ) → k < end → new ≡ old ++ k ∷ [] → old ++ range_with_len k (end - k) ≡ total → new ++ range_with_len (k + 1) (end - (k + 1)) ≡ total
number_added k end old new total l n h =
    let e : end - k ≡ suc (end - (k + 1)) = omega arith in
    ap (λ ys. ys ++ range_with_len (k + 1) (end - (k + 1))) n ∙ append_assoc old (k ∷ []) (range_with_len (k + 1) (end - (k + 1)))
    ∙ ap (λ m. old ++ range_with_len k m) (sym e) ∙ h

pub numbers_added : (k end : ℕ) (old total : List ℕ) → end ≤ k → old ++ range_with_len k (end - k) ≡ total → old ≡ total
numbers_added k end old total l h =
    let e : end - k ≡ 0 = omega arith in
    sym (append-nil old) ∙ ap (λ m. old ++ range_with_len k m) (sym e) ∙ h

-- numbers from one on are below a bound
pub range_within : (a n m : ℕ) → a + n ≤ m → All (λ k. k < m) (range_with_len a n)
range_within a n m h = λ k d l.
    let e : slice_index_or (range_with_len a n) k d ≡ a + k = get_or-range_with_len a n k d (omega (arith, l, length-range_with_len a n)) in
    omega (arith, h, l, length-range_with_len a n, e)

-- ---- whether a number is among them

pub has_any : (k : ℕ) (xs : List ℕ) → list_any (λ x. nat_eq x k) xs ≡ has k xs
has_any k [] = refl
has_any k (x ∷ xs) = ap (λ b. (x == k) || b) (has_any k xs)

-- it is among what the next gives, or among what is left
turn : (f : ℕ → List ℕ) (xs : List ℕ) (i d k : ℕ) → i < length xs → has k (flat_map f (drop i xs)) ≡ (has k (f (slice_index_or xs i d)) || has k (flat_map f (drop (i + 1) xs)))
turn f xs i d k l = ap (λ ys. has k (flat_map f ys)) (drop_more xs i d l) ∙ has-append k (f (slice_index_or xs i d)) (flat_map f (drop (i + 1) xs))

pub found : (f : ℕ → List ℕ) (xs : List ℕ) (i d k : ℕ) (total : Bool) → i < length xs → has k (f (slice_index_or xs i d)) ≡ true → has k (flat_map f (drop i xs)) ≡ total → true ≡ total
found f xs i d k total l t h = sym (ap (λ b. b || has k (flat_map f (drop (i + 1) xs))) t) ∙ sym (turn f xs i d k l) ∙ h

pub not_found : (f : ℕ → List ℕ) (xs : List ℕ) (i d k : ℕ) (total : Bool) → i < length xs → has k (f (slice_index_or xs i d)) ≡ false → has k (flat_map f (drop i xs)) ≡ total
    → has k (flat_map f (drop (i + 1) xs)) ≡ total
not_found f xs i d k total l t h = sym (ap (λ b. b || has k (flat_map f (drop (i + 1) xs))) t) ∙ sym (turn f xs i d k l) ∙ h

pub none_found : (f : ℕ → List ℕ) (xs : List ℕ) (i k : ℕ) (total : Bool) → length xs ≤ i → has k (flat_map f (drop i xs)) ≡ total → false ≡ total
none_found f xs i k total l h = sym (ap (λ ys. has k (flat_map f ys)) (drop_all i xs l)) ∙ h
