-- A list in which the item at a place is changed.
use Rattle.std.specs.Prelude.{◌≡◌, ◌≢◌, ℕ, zero, suc, ◌+◌, ◌<◌, ◌≤◌, All, List, [], ◌∷◌, length, map, take, drop, slice_index_or, slice_set, refl}
use Rattle.std.proofs.Common.{◌∙◌, ap, arith}
use Rattle.std.proofs.lemmas.List.Elements.{All-cons}
use Rattle.circuit_open.specs.Open.{changed_at}

pub both : {A : Type 0} (x y : A) (xs ys : List A) → x ≡ y → xs ≡ ys → x ∷ xs ≡ y ∷ ys
both x y xs ys e f = ap (λ z. z ∷ xs) e ∙ ap (λ zs. y ∷ zs) f

pub length-changed : {A : Type 0} (f : A → A) (k : ℕ) (xs : List A) → length (changed_at f k xs) ≡ length xs
length-changed f k [] = refl
length-changed f zero (x ∷ xs) = refl
length-changed f (suc k) (x ∷ xs) = ap suc (length-changed f k xs)

-- where the change keeps what is so of the item at the place
pub All-changed-there : {A : Type 0} (P : A → Type 0) (f : A → A) (k : ℕ) (xs : List A) → ((d : A) → k < length xs → P (slice_index_or xs k d) → P (f (slice_index_or xs k d))) → All P xs → All P (changed_at f k xs)
All-changed-there P f k [] g h = h
All-changed-there P f zero (x ∷ xs) g h = All-cons P (f x) xs (g x (omega arith) (h 0 x (omega arith))) (λ i d l. h (suc i) d (omega arith))
All-changed-there P f (suc k) (x ∷ xs) g h = All-cons P x (changed_at f k xs) (h 0 x (omega arith)) (All-changed-there P f k xs (λ d l. g d (omega arith)) (λ i d l. h (suc i) d (omega arith)))

pub All-changed : {A : Type 0} (P : A → Type 0) (f : A → A) → ((x : A) → P x → P (f x)) → (k : ℕ) (xs : List A) → All P xs → All P (changed_at f k xs)
All-changed P f g k xs = All-changed-there P f k xs (λ d l. g (slice_index_or xs k d))

-- what the change leaves alone
pub kept-at : {A B : Type 0} (F : A → B) (f : A → A) (k : ℕ) (xs : List A) → ((d : A) → k < length xs → F (f (slice_index_or xs k d)) ≡ F (slice_index_or xs k d)) → (i : ℕ) (d : A) → F (slice_index_or (changed_at f k xs) i d) ≡ F (slice_index_or xs i d)
kept-at F f k [] e i d = refl
kept-at F f zero (x ∷ xs) e zero d = e x (omega arith)
kept-at F f zero (x ∷ xs) e (suc i) d = refl
kept-at F f (suc k) (x ∷ xs) e zero d = refl
kept-at F f (suc k) (x ∷ xs) e (suc i) d = kept-at F f k xs (λ c l. e c (omega arith)) i d

pub other-at : {A : Type 0} (f : A → A) (k : ℕ) (xs : List A) (i : ℕ) (d : A) → i ≢ k → slice_index_or (changed_at f k xs) i d ≡ slice_index_or xs i d
other-at f k [] i d n = refl
other-at f zero (x ∷ xs) zero d n = absurd (n refl)
other-at f zero (x ∷ xs) (suc i) d n = refl
other-at f (suc k) (x ∷ xs) zero d n = refl
other-at f (suc k) (x ∷ xs) (suc i) d n = other-at f k xs i d (λ e. n (ap suc e))

pub here-at : {A : Type 0} (f : A → A) (k : ℕ) (xs : List A) (d : A) → k < length xs → slice_index_or (changed_at f k xs) k d ≡ f (slice_index_or xs k d)
here-at f k [] d l = absurd (omega arith)
here-at f zero (x ∷ xs) d l = refl
here-at f (suc k) (x ∷ xs) d l = here-at f k xs d (omega arith)

pub stays-at : {A : Type 0} (P : A → Type 0) (f : A → A) → ((x : A) → P x → P (f x)) → (k : ℕ) (xs : List A) (i : ℕ) (d : A) → P (slice_index_or xs i d) → P (slice_index_or (changed_at f k xs) i d)
stays-at P f g k [] i d h = h
stays-at P f g zero (x ∷ xs) zero d h = g x h
stays-at P f g zero (x ∷ xs) (suc i) d h = h
stays-at P f g (suc k) (x ∷ xs) zero d h = h
stays-at P f g (suc k) (x ∷ xs) (suc i) d h = stays-at P f g k xs i d h

pub map-same : {A B : Type 0} (f f' : A → B) (xs : List A) → ((i : ℕ) (d : A) → i < length xs → f' (slice_index_or xs i d) ≡ f (slice_index_or xs i d)) → map f' xs ≡ map f xs
map-same f f' [] e = refl
map-same f f' (x ∷ xs) e = both (f' x) (f x) (map f' xs) (map f xs) (e 0 x (omega arith)) (map-same f f' xs (λ i d l. e (suc i) d (omega arith)))

-- the items of a changed list are seen as those of the list, and the changed one as what is changed
pub map-of_changed : {A B : Type 0} (f f' : A → B) (g : A → A) (h : B → B) (k : ℕ) (xs : List A) → ((i : ℕ) (d : A) → i < length xs → f' (slice_index_or xs i d) ≡ f (slice_index_or xs i d))
    → ((d : A) → k < length xs → f' (g (slice_index_or xs k d)) ≡ h (f (slice_index_or xs k d))) → map f' (changed_at g k xs) ≡ changed_at h k (map f xs)
map-of_changed f f' g h k [] others here = refl
map-of_changed f f' g h zero (x ∷ xs) others here =
    both (f' (g x)) (h (f x)) (map f' xs) (map f xs) (here x (omega arith)) (map-same f f' xs (λ i d l. others (suc i) d (omega arith)))
map-of_changed f f' g h (suc k) (x ∷ xs) others here =
    both (f' x) (f x) (map f' (changed_at g k xs)) (changed_at h k (map f xs)) (others 0 x (omega arith))
    (map-of_changed f f' g h k xs (λ i d l. others (suc i) d (omega arith)) (λ d l. here d (omega arith)))

-- a list in which one item is seen otherwise
pub map-changed : {A B : Type 0} (f f' : A → B) (h : B → B) (k : ℕ) (xs : List A) → ((i : ℕ) (d : A) → i < length xs → i ≢ k → f' (slice_index_or xs i d) ≡ f (slice_index_or xs i d))
    → ((d : A) → k < length xs → f' (slice_index_or xs k d) ≡ h (f (slice_index_or xs k d))) → map f' xs ≡ changed_at h k (map f xs)
map-changed f f' h k [] others here = refl
map-changed f f' h zero (x ∷ xs) others here =
    both (f' x) (h (f x)) (map f' xs) (map f xs) (here x (omega arith)) (map-same f f' xs (λ i d l. others (suc i) d (omega arith) (λ e. (let n : ⊥ = omega arith in n))))
map-changed f f' h (suc k) (x ∷ xs) others here =
    both (f' x) (f x) (map f' xs) (changed_at h k (map f xs)) (others 0 x (omega arith) (λ e. (let n : ⊥ = omega arith in n)))
    (map-changed f f' h k xs (λ i d l n. others (suc i) d (omega arith) (λ e. n (omega arith))) (λ d l. here d (omega arith)))

-- parts of a changed list
pub changed-past : {A : Type 0} (f : A → A) (k : ℕ) (xs : List A) → length xs ≤ k → changed_at f k xs ≡ xs
changed-past f k [] l = refl
changed-past f zero (x ∷ xs) l = absurd (omega arith)
changed-past f (suc k) (x ∷ xs) l = ap (λ ys. x ∷ ys) (changed-past f k xs (omega arith))

pub take-changed : {A : Type 0} (f : A → A) (n k : ℕ) (xs : List A) → take n (changed_at f k xs) ≡ changed_at f k (take n xs)
take-changed f zero k xs = refl
take-changed f (suc n) k [] = refl
take-changed f (suc n) zero (x ∷ xs) = refl
take-changed f (suc n) (suc k) (x ∷ xs) = ap (λ ys. x ∷ ys) (take-changed f n k xs)

pub drop-changed : {A : Type 0} (f : A → A) (n k : ℕ) (xs : List A) → drop n (changed_at f (n + k) xs) ≡ changed_at f k (drop n xs)
drop-changed f zero k xs = let e : 0 + k ≡ k = omega arith in ap (λ m. drop 0 (changed_at f m xs)) e
drop-changed f (suc n) k [] = refl
drop-changed f (suc n) k (x ∷ xs) = let e : suc n + k ≡ suc (n + k) = omega arith in ap (λ m. drop (suc n) (changed_at f m (x ∷ xs))) e ∙ drop-changed f n k xs

pub drop-unchanged : {A : Type 0} (f : A → A) (n k : ℕ) (xs : List A) → k < n → drop n (changed_at f k xs) ≡ drop n xs
drop-unchanged f zero k xs l = absurd (omega arith)
drop-unchanged f (suc n) k [] l = refl
drop-unchanged f (suc n) zero (x ∷ xs) l = refl
drop-unchanged f (suc n) (suc k) (x ∷ xs) l = drop-unchanged f n k xs (omega arith)

-- an item that is put back with a change
set-is : {A : Type 0} (f : A → A) (k : ℕ) (xs : List A) (d : A) → k < length xs → slice_set xs k (f (slice_index_or xs k d)) ≡ changed_at f k xs
set-is f k [] d l = absurd (omega arith)
set-is f zero (x ∷ xs) d l = refl
set-is f (suc k) (x ∷ xs) d l = ap (λ ys. x ∷ ys) (set-is f k xs d (omega arith))

pub set-changed : {A : Type 0} (f : A → A) (k : ℕ) (xs : List A) (x : A) → k < length xs → x ≡ slice_index_or xs k x → slice_set xs k (f x) ≡ changed_at f k xs
set-changed f k xs x l e = ap (λ y. slice_set xs k (f y)) e ∙ set-is f k xs x l
