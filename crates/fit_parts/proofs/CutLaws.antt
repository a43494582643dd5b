-- A list cut behind some of its items.
use Rattle.std.specs.Prelude.{◌≡◌, ℕ, suc, zero, ◌+◌, ◌-◌, ◌<◌, ◌≤◌, Bool, true, false, cond, List, [], ◌∷◌, ◌++◌, Option, Some, None, length, map, take, drop, flat_map, slice_range, if◌then◌else◌, refl}
use Rattle.std.specs.List.{position_from}
use Rattle.std.proofs.Common.{◌∙◌, ap, sym, arith, length-drop, drop-drop, take_all}
use Rattle.fit_parts.specs.Checked.{front_len}
use Rattle.fit_parts.specs.Parts.{ahead, cut_behind}

abbrev pub len_behind : Option ℕ → ℕ → ℕ
len_behind (Some place) n = place + 1
len_behind None n = n

-- ---- the first part

pub front-place : {A : Type 0} (test : A → Bool) (i : ℕ) (xs : List A) → len_behind (position_from test i xs) (i + length xs) ≡ i + front_len test xs
front-place test i [] = refl
front-place test i (x ∷ xs) = by (test x) (front-place test (i + 1) xs)
  where
    by : (b : Bool) → len_behind (position_from test (i + 1) xs) ((i + 1) + length xs) ≡ (i + 1) + front_len test xs
        → len_behind (cond b (Some i) (position_from test (i + 1) xs)) (i + length (x ∷ xs)) ≡ i + (if b then 1 else suc (front_len test xs))
    by true h = refl
    by false h =
        let e : i + length (x ∷ xs) ≡ (i + 1) + length xs = omega arith in
        let f : (i + 1) + front_len test xs ≡ i + suc (front_len test xs) = omega arith in
        ap (len_behind (position_from test (i + 1) xs)) e ∙ h ∙ f

pub front-is : {A : Type 0} (test : A → Bool) (xs : List A) (place : Option ℕ) → place ≡ position_from test 0 xs → len_behind place (length xs) ≡ front_len test xs
front-is test xs place e =
    let z : length xs ≡ 0 + length xs = omega arith in
    let w : 0 + front_len test xs ≡ front_len test xs = omega arith in
    ap (λ o. len_behind o (length xs)) e ∙ ap (len_behind (position_from test 0 xs)) z ∙ front-place test 0 xs ∙ w

pub front-within : {A : Type 0} (test : A → Bool) (xs : List A) → front_len test xs ≤ length xs
front-within test [] = omega arith
front-within test (x ∷ xs) = by (test x) (front-within test xs)
  where
    by : (b : Bool) → front_len test xs ≤ length xs → (if b then 1 else suc (front_len test xs)) ≤ length (x ∷ xs)
    by true h = omega arith
    by false h = omega arith

pub front-some : {A : Type 0} (test : A → Bool) (xs : List A) → 0 < length xs → 0 < front_len test xs
front-some test [] lt = absurd (omega arith)
front-some test (x ∷ xs) lt = by (test x)
  where
    by : (b : Bool) → 0 < (if b then 1 else suc (front_len test xs))
    by true = omega arith
    by false = omega arith

pub cut-first : {A : Type 0} (test : A → Bool) (xs : List A) → 0 < length xs
    → cut_behind test xs ≡ take (front_len test xs) xs ∷ cut_behind test (drop (front_len test xs) xs)
cut-first test [] lt = absurd (omega arith)
cut-first test (x ∷ []) lt = by (test x)
  where
    by : (b : Bool) → (if b then (x ∷ []) ∷ [] else (x ∷ []) ∷ []) ≡ take (if b then 1 else 1) (x ∷ []) ∷ cut_behind test (drop (if b then 1 else 1) (x ∷ []))
    by true = refl
    by false = refl
cut-first test (x ∷ y ∷ ys) lt = by (test x) (cut-first test (y ∷ ys) (omega arith))
  where
    by : (b : Bool) → cut_behind test (y ∷ ys) ≡ take (front_len test (y ∷ ys)) (y ∷ ys) ∷ cut_behind test (drop (front_len test (y ∷ ys)) (y ∷ ys))
        → (if b then (x ∷ []) ∷ cut_behind test (y ∷ ys) else ahead x (cut_behind test (y ∷ ys)))
        ≡ take (if b then 1 else suc (front_len test (y ∷ ys))) (x ∷ y ∷ ys) ∷ cut_behind test (drop (if b then 1 else suc (front_len test (y ∷ ys))) (x ∷ y ∷ ys))
    by true h = refl
    by false h = ap (ahead x) h

-- ---- of a list that others are made of

pub front-map : {A B : Type 0} (test : B → Bool) (f : A → B) (xs : List A) → front_len test (map f xs) ≡ front_len (λ x. test (f x)) xs
front-map test f [] = refl
front-map test f (x ∷ xs) = ap (λ n. if test (f x) then 1 else suc n) (front-map test f xs)

map-take : {A B : Type 0} (f : A → B) (k : ℕ) (xs : List A) → take k (map f xs) ≡ map f (take k xs)
map-take f zero xs = refl
map-take f (suc k) [] = refl
map-take f (suc k) (x ∷ xs) = ap (λ ys. f x ∷ ys) (map-take f k xs)

map-drop : {A B : Type 0} (f : A → B) (k : ℕ) (xs : List A) → drop k (map f xs) ≡ map f (drop k xs)
map-drop f zero xs = refl
map-drop f (suc k) [] = refl
map-drop f (suc k) (x ∷ xs) = map-drop f k xs

map-long : {A B : Type 0} (f : A → B) (xs : List A) → length (map f xs) ≡ length xs
map-long f [] = refl
map-long f (x ∷ xs) = ap suc (map-long f xs)

-- what is cut off at the front of it is the first part
pub cut-front : {A B : Type 0} (test : B → Bool) (f : A → B) (xs part behind : List A) (k : ℕ) → 0 < length xs → k ≡ front_len (λ x. test (f x)) xs
    → part ≡ take k xs → behind ≡ drop k xs → cut_behind test (map f xs) ≡ map f part ∷ cut_behind test (map f behind)
cut-front test f xs part behind k lt e p b =
    let some : 0 < length (map f xs) = omega (arith, map-long f xs) in
    let n : front_len test (map f xs) ≡ k = front-map test f xs ∙ sym e in
    cut-first test (map f xs) some
    ∙ ap (λ m. take m (map f xs) ∷ cut_behind test (drop m (map f xs))) n
    ∙ ap (λ ys. ys ∷ cut_behind test (drop k (map f xs))) (map-take f k xs ∙ sym (ap (map f) p))
    ∙ ap (λ ys. map f part ∷ cut_behind test ys) (map-drop f k xs ∙ sym (ap (map f) b))

-- the part that begins at a place
pub cut-at : {A B : Type 0} (test : B → Bool) (f : A → B) (xs : List A) (at k : ℕ) → at < length xs → k ≡ front_len (λ x. test (f x)) (take (length xs - at) (drop at xs))
    → cut_behind test (map f (drop at xs)) ≡ map f (slice_range xs at (at + k)) ∷ cut_behind test (map f (drop (at + k) xs))
cut-at test f xs at k lt e =
    let some : 0 < length (drop at xs) = omega (arith, length-drop at xs) in
    let n : k ≡ (at + k) - at = omega arith in
    let all : take (length xs - at) (drop at xs) ≡ drop at xs = take_all (length xs - at) (drop at xs) (omega (arith, length-drop at xs)) in
    cut-front test f (drop at xs) (slice_range xs at (at + k)) (drop (at + k) xs) k some (e ∙ ap (front_len (λ x. test (f x))) all) (ap (λ m. take m (drop at xs)) (sym n)) (sym (drop-drop k at xs))

-- ---- all parts

-- the parts are the whole, in order
pub parts-whole : {A : Type 0} (test : A → Bool) (xs : List A) → flat_map (λ p. p) (cut_behind test xs) ≡ xs
parts-whole {A = A} test [] = refl
parts-whole {A = A} test (x ∷ xs) = by (test x) (cut_behind test xs) (parts-whole test xs)
  where
    by : (b : Bool) (ps : List (List A)) → flat_map (λ p. p) ps ≡ xs → flat_map (λ p. p) (if b then (x ∷ []) ∷ ps else ahead x ps) ≡ x ∷ xs
    by true ps h = ap (λ ys. x ∷ ys) h
    by false [] h = ap (λ ys. x ∷ ys) h
    by false (p ∷ ps) h = ap (λ ys. x ∷ ys) h
