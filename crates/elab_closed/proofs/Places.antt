-- What stands at a place of a list, of one that is made of it, and of its numbered elements.
use Rattle.std.specs.Prelude.{◌≡◌, ℕ, zero, suc, ◌+◌, ◌<◌, List, [], ◌∷◌, Bool, true, false, Some, cond, length, map, refl, slice_get, slice_index_or}
use Rattle.std.specs.List.{enumerate_from, position_from, range_with_len}
use Rattle.std.specs.Option.{option_map}
use Rattle.std.proofs.Common.{sym, ◌∙◌, ap, arith, inl, inr, subst}
use Rattle.std.proofs.lemmas.List.FromFn.{get_or-range_with_len}
use Rattle.std.proofs.lemmas.Option.{slice_get-map, slice_get_within, get_or_from_slice_get}
use Rattle.elab_laws.proofs.Lists.{In}

pub place-of : {A : Type 0} (xs : List A) (k : ℕ) → k < length xs → (x : A) × (slice_get xs k ≡ Some x)
place-of [] k lt = absurd (omega arith)
place-of (x ∷ xs) zero lt = (x, refl)
place-of (x ∷ xs) (suc k) lt = place-of xs k (omega arith)

pub mapped-get : {A B : Type 0} (f : A → B) (xs : List A) (k : ℕ) (x : A) → slice_get xs k ≡ Some x → slice_get (map f xs) k ≡ Some (f x)
mapped-get f xs k x e = slice_get-map f xs k ∙ ap (option_map f) e

pub mapped-at : {A B : Type 0} (f : A → B) (xs : List A) (k : ℕ) (d : B) (x : A) → slice_get xs k ≡ Some x → slice_index_or (map f xs) k d ≡ f x
mapped-at f xs k d x e = get_or_from_slice_get (map f xs) k (f x) d (mapped-get f xs k x e)

-- what has the numbers from 0 on has its place
pub counted-at : {A : Type 0} (f : A → ℕ) (xs : List A) (k : ℕ) (x : A) → map f xs ≡ range_with_len 0 (length xs) → slice_get xs k ≡ Some x → f x ≡ k
counted-at f xs k x h e =
    let z : 0 + k ≡ k = omega arith in
    sym (get_or_from_slice_get (range_with_len 0 (length xs)) k (f x) 0 (ap (λ l. slice_get l k) (sym h) ∙ mapped-get f xs k x e))
    ∙ get_or-range_with_len 0 (length xs) k 0 (slice_get_within xs k x e) ∙ z

-- what one at a place of a mapped list is made of
pub record MadeAt {A B : Type 0} (f : A → B) (xs : List A) (k : ℕ) (y : B) : Type 0 where
  pub source : A
  pub at : slice_get xs k ≡ Some source
  pub made : f source ≡ y

pub made-at : {A B : Type 0} (f : A → B) (xs : List A) (k : ℕ) (y : B) → slice_get (map f xs) k ≡ Some y → MadeAt f xs k y
made-at f [] k y e = cc
made-at f (x ∷ xs) zero y e = record { source = x; at = refl; made = cc }
made-at f (x ∷ xs) (suc k) y e = let r = made-at f xs k y e in record { source = r.source; at = r.at; made = r.made }

-- what a mapped list has is made of an element
pub from-map : {A B : Type 0} (f : A → B) (y : B) (xs : List A) → In y (map f xs) → (x : A) × In x xs × (y ≡ f x)
from-map f y [] h = absurd h
from-map f y (x ∷ xs) (inl e) = (x, inl refl, e)
from-map f y (x ∷ xs) (inr h) = let r = from-map f y xs h in (r.0, inr r.1, r.2)

pub in-place : {A : Type 0} (x : A) (xs : List A) → In x xs → (k : ℕ) × (slice_get xs k ≡ Some x)
in-place x [] h = absurd h
in-place x (y ∷ xs) (inl e) = (0, ap (λ z. Some z) (sym e))
in-place x (y ∷ xs) (inr h) = let r = in-place x xs h in (suc r.0, r.1)

-- the first place at which a test passes
pub record FirstAt {A : Type 0} (p : A → Bool) (xs : List A) : Type 0 where
  pub place : ℕ
  pub element : A
  pub position : position_from p 0 xs ≡ Some place
  pub at : slice_get xs place ≡ Some element
  pub passes : p element ≡ true

record FirstFrom {A : Type 0} (p : A → Bool) (a : ℕ) (xs : List A) : Type 0 where
  place : ℕ
  element : A
  position : position_from p a xs ≡ Some (a + place)
  at : slice_get xs place ≡ Some element
  passes : p element ≡ true

first-from : {A : Type 0} (p : A → Bool) (a : ℕ) (x : A) (xs : List A) → In x xs → p x ≡ true → FirstFrom p a xs
first-from p a x [] h e = absurd h
first-from {A} p a x (y ∷ xs) h e = by (p y) refl (λ k. first-from p (a + 1) x xs k e)
  where
    later : p y ≡ false → FirstFrom p (a + 1) xs → FirstFrom p a (y ∷ xs)
    later t r =
        let z : (a + 1) + r.place ≡ a + suc r.place = omega arith in
        record { place = suc r.place; element = r.element; position = ap (λ b. cond b (Some a) (position_from p (a + 1) xs)) t ∙ r.position ∙ ap (λ n. Some n) z; at = r.at; passes = r.passes }

    by : (b : Bool) → p y ≡ b → (In x xs → FirstFrom p (a + 1) xs) → FirstFrom p a (y ∷ xs)
    by true t f =
        let z : a ≡ a + 0 = omega arith in
        record { place = 0; element = y; position = ap (λ b. cond b (Some a) (position_from p (a + 1) xs)) t ∙ ap (λ n. Some n) z; at = refl; passes = t }
    by false t f = elim h [ inl g ↦ (let c : p x ≡ false = ap p g ∙ t in cc) | inr k ↦ later t (f k) ]

pub first-at : {A : Type 0} (p : A → Bool) (x : A) (xs : List A) → In x xs → p x ≡ true → FirstAt p xs
first-at p x xs h e =
    let r = first-from p 0 x xs h e in
    let z : 0 + r.place ≡ r.place = omega arith in
    record { place = r.place; element = r.element; position = r.position ∙ ap (λ n. Some n) z; at = r.at; passes = r.passes }

pub in-enumerate : {A : Type 0} (a : ℕ) (xs : List A) (k : ℕ) (x : A) → slice_get xs k ≡ Some x → In (a + k, x) (enumerate_from a xs)
in-enumerate a [] k x e = cc
in-enumerate a (y ∷ xs) zero x e = let g : x ≡ y = cc in let z : a + 0 ≡ a = omega arith in inl (λ i. (z i, g i))
in-enumerate a (y ∷ xs) (suc k) x e = let z : (a + 1) + k ≡ a + suc k = omega arith in inr (subst (λ n. In (n, x) (enumerate_from (a + 1) xs)) z (in-enumerate (a + 1) xs k x e))
