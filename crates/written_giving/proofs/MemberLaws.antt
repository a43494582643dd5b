-- What is in a list.
use Rattle.std.proofs.Common.{◌≡◌, zero, suc, ◌<◌, Bool, true, false, List, [], ◌∷◌, ◌++◌, length, refl, sym, ◌∙◌, ap, subst, arith, inl, inr}
use Rattle.std.specs.Prelude.{ℕ, ◌+◌, ◌||◌, All, Contains, ◌⊎◌, map, cond, Option, Some, unwrap_or, slice_get, slice_index_or}
use Rattle.std.specs.List.{filter, flat_map, list_any, range_with_len}
use Rattle.std.proofs.lemmas.Bool.{or_right, or_parts}

abbrev pub Mem : {A : Type 0} → A → List A → Type 0
Mem x [] = ⊥
Mem x (y ∷ ys) = (x ≡ y) ⊎ Mem x ys

module _ {A : Type 0} where
  pub stands-in : (xs : List A) (i : ℕ) (x : A) → slice_get xs i ≡ Some x → Mem x xs
  stands-in [] i x e = absurd cc
  stands-in (y ∷ ys) zero x e = inl (sym (ap (λ (o : Option A). unwrap_or o x) e))
  stands-in (y ∷ ys) (suc i) x e = inr (stands-in ys i x e)

  pub in-place : (xs : List A) (x : A) → Mem x xs → (i : ℕ) × (slice_get xs i ≡ Some x)
  in-place [] x m = absurd m
  in-place (y ∷ ys) x m = elim m [
    | inl e ↦ (0, ap Some (sym e))
    | inr n ↦ (let r = in-place ys x n in (suc r.0, r.1))
  ]

  pub each-of-all : (P : A → Type 0) (xs : List A) → All P xs → (x : A) → Mem x xs → P x
  each-of-all P [] h x m = absurd m
  each-of-all P (y ∷ ys) h x m = elim m [
    | inl e ↦ subst P (sym e) (h 0 x (omega arith))
    | inr n ↦ each-of-all P ys (λ i d l. h (suc i) d (omega (arith, l))) x n
  ]

  pub in-append : (xs ys : List A) (x : A) → Mem x (xs ++ ys) → Mem x xs ⊎ Mem x ys
  in-append [] ys x m = inr m
  in-append (z ∷ zs) ys x m = elim m [
    | inl e ↦ inl (inl e)
    | inr n ↦ elim (in-append zs ys x n) [
      | inl p ↦ inl (inr p)
      | inr p ↦ inr p
    ]
  ]

  pub in-left : (xs ys : List A) (x : A) → Mem x xs → Mem x (xs ++ ys)
  in-left [] ys x m = absurd m
  in-left (z ∷ zs) ys x m = elim m [
    | inl e ↦ inl e
    | inr n ↦ inr (in-left zs ys x n)
  ]

  pub in-right : (xs ys : List A) (x : A) → Mem x ys → Mem x (xs ++ ys)
  in-right [] ys x m = m
  in-right (z ∷ zs) ys x m = inr (in-right zs ys x m)

  pub in-filter : (p : A → Bool) (xs : List A) (x : A) → Mem x (filter p xs) → Mem x xs × (p x ≡ true)
  in-filter p [] x m = absurd m
  in-filter p (y ∷ ys) x m = by (p y) refl m (in-filter p ys x)
    where
      by : (b : Bool) → p y ≡ b → Mem x (cond b (y ∷ filter p ys) (filter p ys)) → (Mem x (filter p ys) → Mem x ys × (p x ≡ true)) → Mem x (y ∷ ys) × (p x ≡ true)
      by true e n rec = elim n [
        | inl f ↦ (inl f, ap p f ∙ e)
        | inr q ↦ (let r = rec q in (inr r.0, r.1))
      ]
      by false e n rec = let r = rec n in (inr r.0, r.1)

  pub filter-in : (p : A → Bool) (xs : List A) (x : A) → Mem x xs → p x ≡ true → Mem x (filter p xs)
  filter-in p [] x m e = absurd m
  filter-in p (y ∷ ys) x m e = by (p y) refl m (λ n. filter-in p ys x n e)
    where
      by : (b : Bool) → p y ≡ b → Mem x (y ∷ ys) → (Mem x ys → Mem x (filter p ys)) → Mem x (cond b (y ∷ filter p ys) (filter p ys))
      by true f n rec = elim n [
        | inl g ↦ inl g
        | inr q ↦ inr (rec q)
      ]
      by false f n rec = elim n [
        | inl g ↦ absurd (let h : true ≡ false = sym e ∙ (ap p g ∙ f) in cc)
        | inr q ↦ rec q
      ]

  pub any-in : (p : A → Bool) (xs : List A) (x : A) → Mem x xs → p x ≡ true → list_any p xs ≡ true
  any-in p [] x m e = absurd m
  any-in p (y ∷ ys) x m e = elim m [
    | inl f ↦ ap (λ b. b || list_any p ys) (sym (ap p f) ∙ e)
    | inr n ↦ or_right (p y) (list_any p ys) (any-in p ys x n e)
  ]

  pub none-any : (p : A → Bool) (xs : List A) → ((x : A) → Mem x xs → p x ≡ false) → list_any p xs ≡ false
  none-any p [] h = refl
  none-any p (y ∷ ys) h = ap (λ b. b || list_any p ys) (h y (inl refl)) ∙ none-any p ys (λ x m. h x (inr m))

  pub any-none : (p : A → Bool) (xs : List A) (x : A) → list_any p xs ≡ false → Mem x xs → p x ≡ false
  any-none p [] x e m = absurd m
  any-none p (y ∷ ys) x e m =
      let q = or_parts (p y) (list_any p ys) e in
      elim m [
        | inl f ↦ ap p f ∙ q.0
        | inr n ↦ any-none p ys x q.1 n
      ]

  pub contained-in : (xs : List A) (x : A) → Contains xs x → Mem x xs
  contained-in xs x h = by xs h.0 h.1 h.2
    where
      by : (ys : List A) (k : ℕ) → k < length ys → slice_index_or ys k x ≡ x → Mem x ys
      by [] k l e = absurd (omega (arith, l))
      by (y ∷ ys) zero l e = inl (sym e)
      by (y ∷ ys) (suc k) l e = inr (by ys k (omega (arith, l)) e)

  pub in-contained : (xs : List A) (x : A) → Mem x xs → Contains xs x
  in-contained [] x m = absurd m
  in-contained (y ∷ ys) x m = elim m [
    | inl e ↦ (0, omega arith, sym e)
    | inr n ↦ (let r = in-contained ys x n in (suc r.0, omega (arith, r.1), r.2))
  ]

module _ {A B : Type 0} where
  pub in-map : (f : A → B) (xs : List A) (y : B) → Mem y (map f xs) → (x : A) × Mem x xs × (y ≡ f x)
  in-map f [] y m = absurd m
  in-map f (x ∷ xs) y m = elim m [
    | inl e ↦ (x, inl refl, e)
    | inr n ↦ (let r = in-map f xs y n in (r.0, inr r.1, r.2))
  ]

  pub map-in : (f : A → B) (xs : List A) (x : A) → Mem x xs → Mem (f x) (map f xs)
  map-in f [] x m = absurd m
  map-in f (y ∷ ys) x m = elim m [
    | inl e ↦ inl (ap f e)
    | inr n ↦ inr (map-in f ys x n)
  ]

  pub in-flat : (f : A → List B) (xs : List A) (y : B) → Mem y (flat_map f xs) → (x : A) × Mem x xs × Mem y (f x)
  in-flat f [] y m = absurd m
  in-flat f (x ∷ xs) y m = elim (in-append (f x) (flat_map f xs) y m) [
    | inl n ↦ (x, inl refl, n)
    | inr n ↦ (let r = in-flat f xs y n in (r.0, inr r.1, r.2))
  ]

  pub flat-in : (f : A → List B) (xs : List A) (x : A) (y : B) → Mem x xs → Mem y (f x) → Mem y (flat_map f xs)
  flat-in f [] x y m n = absurd m
  flat-in f (z ∷ zs) x y m n = elim m [
    | inl e ↦ in-left (f z) (flat_map f zs) y (subst (λ w. Mem y (f w)) e n)
    | inr k ↦ in-right (f z) (flat_map f zs) y (flat-in f zs x y k n)
  ]

pub in-range : (a n s : ℕ) → Mem s (range_with_len a n) → s < a + n
in-range a zero s m = absurd m
in-range a (suc n) s m = elim m [
  | inl e ↦ omega (arith, e)
  | inr k ↦ (let l = in-range (a + 1) n s k in omega (arith, l))
]

pub range-in : (a n i : ℕ) → i < n → Mem (a + i) (range_with_len a n)
range-in a zero i l = absurd (omega (arith, l))
range-in a (suc n) zero l = inl (omega arith)
range-in a (suc n) (suc i) l = inr (subst (λ k. Mem k (range_with_len (a + 1) n)) (omega arith) (range-in (a + 1) n i (omega (arith, l))))
