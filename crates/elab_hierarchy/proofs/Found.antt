-- What is found by a name.
use Rattle.std.specs.Prelude.{◌≡◌, ℕ, suc, ◌+◌, ◌<◌, List, [], ◌∷◌, Bool, true, false, Option, Some, None, cond, map, find, length, slice_get, refl, bytes_eq}
use Rattle.std.specs.List.{position_from, position}
use Rattle.std.specs.Borrow.{Bor}
use Rattle.std.proofs.lemmas.Iterator.Adapters.{position_from-zero}
use Rattle.std.proofs.Common.{sym, ◌∙◌, ap, arith, subst, add-zero}
use Rattle.vl_tree.specs.Tree.{Part, Module, Source, a_module}
use Rattle.elab_model.specs.Definitions.{name_of, module_of, as_module}
use Rattle.std.specs.Option.{option_and_then}
use Rattle.elab_hierarchy.specs.Named.{AreNames, place_of}
use Rattle.elab_hierarchy.specs.Tops.{StandsAt}

-- the first that passes a test stands at its position
pub record StandsFirst {A : Type 0} (t : A → Bool) (xs : List A) (j : ℕ) : Type 0 where
  pub element : A
  pub below : j < length xs
  pub there : slice_get xs j ≡ Some element
  pub first : find t xs ≡ Some element
  pub passes : t element ≡ true

pub position-first : {A : Type 0} (t : A → Bool) (xs : List A) (a k : ℕ) → position_from t a xs ≡ Some k → (j : ℕ) × (k ≡ a + j) × StandsFirst t xs j
position-first t [] a k e = cc
position-first {A} t (x ∷ xs) a k e = by (t x) refl (position-first t xs (a + 1) k)
  where
    by : (b : Bool) → t x ≡ b → (position_from t (a + 1) xs ≡ Some k → (j : ℕ) × (k ≡ (a + 1) + j) × StandsFirst t xs j) → (j : ℕ) × (k ≡ a + j) × StandsFirst t (x ∷ xs) j
    by true h rest =
        let g : Some a ≡ Some k = rw h at e in
        let f : k ≡ a + 0 = (let i : a ≡ k = cc in sym i ∙ sym (add-zero a)) in
        (0, f, record { element = x; below = omega arith; there = refl; first = rw h refl; passes = h })
    by false h rest =
        let g : position_from t (a + 1) xs ≡ Some k = rw h at e in
        let r = rest g in
        let f : k ≡ a + suc r.0 = (let i : k ≡ (a + 1) + r.0 = r.1 in omega arith) in
        (suc r.0, f, record { element = r.2.element; below = (let l : r.0 < length xs = r.2.below in omega arith); there = r.2.there; first = rw h r.2.first; passes = r.2.passes })

pub position-none : {A : Type 0} (t : A → Bool) (xs : List A) (a : ℕ) → position_from t a xs ≡ None → find t xs ≡ None
position-none t [] a e = refl
position-none t (x ∷ xs) a e = by (t x) refl (position-none t xs (a + 1))
  where
    by : (b : Bool) → t x ≡ b → (position_from t (a + 1) xs ≡ None → find t xs ≡ None) → find t (x ∷ xs) ≡ None
    by true h rest = let g : Some a ≡ None = rw h at e in cc
    by false h rest = let g : position_from t (a + 1) xs ≡ None = rw h at e in rw h (rest g)

pub place-first : (source : Source) (n : List ℕ) (k : ℕ) → place_of source n ≡ Some k → StandsFirst (λ d. bytes_eq n (name_of d).text) source k
place-first source n k e =
    let r = position-first (λ d. bytes_eq n (name_of d).text) source 0 k e in
    let f : r.0 ≡ k = (let i : k ≡ 0 + r.0 = r.1 in omega arith) in
    subst (StandsFirst (λ d. bytes_eq n (name_of d).text) source) f r.2

pub place-below : (source : Source) (n : List ℕ) (k : ℕ) → place_of source n ≡ Some k → k < length source
place-below source n k e = (place-first source n k e).below

some-is : {A : Type 0} (o : Option A) (x y : A) → o ≡ Some x → o ≡ Some y → x ≡ y
some-is o x y e f = cc

pub module-found : (source : Source) (n : List ℕ) (k : ℕ) (p : Part) (m : Module) → place_of source n ≡ Some k → slice_get source k ≡ Some p → p ≡ a_module m
    → (k < length source) × ((m : Module) × (module_of source n ≡ Some m) × StandsAt source k m)
module-found source n k p m e there is =
    let r = place-first source n k e in
    let f : r.element ≡ a_module m = some-is (slice_get source k) r.element p r.there there ∙ is in
    (r.below, (m, ap (option_and_then as_module) (r.first ∙ ap Some f), r.there ∙ ap Some f))

pub primitive-found : (source : Source) (n : List ℕ) (k : ℕ) (p : Part) → place_of source n ≡ Some k → slice_get source k ≡ Some p → as_module p ≡ None → module_of source n ≡ None
primitive-found source n k p e there none =
    let r = place-first source n k e in
    let f : r.element ≡ p = some-is (slice_get source k) r.element p r.there there in
    ap (option_and_then as_module) (r.first ∙ ap Some f) ∙ none

position-mapped : {A B : Type 0} (t : B → Bool) (f : A → B) (xs : List A) (i : ℕ) → position_from t i (map f xs) ≡ position_from (λ x. t (f x)) i xs
position-mapped t f [] i = refl
position-mapped t f (x ∷ xs) i = ap (λ o. cond (t (f x)) (Some i) o) (position-mapped t f xs (i + 1))

-- the names of the code are found where the definitions are
pub place-named : (n : List ℕ) (keys : List (Bor (List ℕ))) (source : Source) → AreNames keys source → position (λ k. bytes_eq n k.now) keys ≡ place_of source n
place-named n keys source h =
    position_from-zero (λ k. bytes_eq n k.now) keys
    ∙ sym (position-mapped (bytes_eq n) (λ k. k.now) keys 0)
    ∙ ap (position_from (bytes_eq n) 0) h.same
    ∙ position-mapped (bytes_eq n) (λ p. (name_of p).text) source 0

pub nothing-found : (source : Source) (n : List ℕ) → place_of source n ≡ None → module_of source n ≡ None
nothing-found source n e = ap (option_and_then as_module) (position-none (λ d. bytes_eq n (name_of d).text) source 0 e)
