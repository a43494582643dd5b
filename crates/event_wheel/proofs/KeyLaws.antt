-- Laws of lists of keys.
use Rattle.std.proofs.Common.{◌≡◌, ◌≢◌, ℕ, ◌<◌, ◌≤◌, true, false, List, [], ◌∷◌, ◌++◌, ◌⊎◌, ◌||◌, length, refl, sym, ◌∙◌, ap, arith, inl, inr, eqb}
use Rattle.std.proofs.lemmas.Bool.Decides.{nat_tests}
use Rattle.std.proofs.lemmas.Bool.{cases_eq}
use Rattle.std.proofs.lemmas.Map.Steps.{length-le_from_distinct_below}
use Rattle.std.specs.List.{IsDistinct, list_any, AllByRecursion}
use Rattle.std.specs.declared.option.Option.{Option}
use Rattle.std.specs.declared.option.Option.TheVariants.{Some, None}
use Rattle.event_wheel.specs.Keys.{Has, IsOutside, AreDistinct}
use Rattle.event_wheel.specs.Chains.{head_or, last_or}

pub has-split : (k : ℕ) (ks : List ℕ) → Has k ks → (xs : List ℕ) × (ys : List ℕ) × (ks ≡ xs ++ k ∷ ys)
has-split k [] h = absurd h
has-split k (x ∷ xs) (inl e) = ([], xs, ap (λ z. z ∷ xs) e)
has-split k (x ∷ xs) (inr h) = let r = has-split k xs h in (x ∷ r.0, r.1, ap (λ zs. x ∷ zs) r.2)

pub outside-not : (k : ℕ) (ks : List ℕ) → (Has k ks → ⊥) → IsOutside k ks
outside-not k [] h = tt
outside-not k (x ∷ xs) h = ((λ e. h (inl e)), outside-not k xs (λ g. h (inr g)))

pub not-outside : (k : ℕ) (ks : List ℕ) → IsOutside k ks → Has k ks → ⊥
not-outside k [] u h = h
not-outside k (x ∷ xs) u (inl e) = u.0 e
not-outside k (x ∷ xs) u (inr h) = not-outside k xs u.1 h

pub has-left : (k : ℕ) (xs ys : List ℕ) → Has k xs → Has k (xs ++ ys)
has-left k [] ys h = absurd h
has-left k (x ∷ xs) ys (inl e) = inl e
has-left k (x ∷ xs) ys (inr h) = inr (has-left k xs ys h)

pub has-right : (k : ℕ) (xs ys : List ℕ) → Has k ys → Has k (xs ++ ys)
has-right k [] ys h = h
has-right k (x ∷ xs) ys h = inr (has-right k xs ys h)

-- a list with a key in the middle, and without it
pub has-without : (j k : ℕ) (xs ys : List ℕ) → Has j (xs ++ ys) → Has j (xs ++ k ∷ ys)
has-without j k [] ys h = inr h
has-without j k (x ∷ xs) ys (inl e) = inl e
has-without j k (x ∷ xs) ys (inr h) = inr (has-without j k xs ys h)

pub has-other : (j k : ℕ) (xs ys : List ℕ) → j ≢ k → Has j (xs ++ k ∷ ys) → Has j (xs ++ ys)
has-other j k [] ys d (inl e) = absurd (d (sym e))
has-other j k [] ys d (inr h) = h
has-other j k (x ∷ xs) ys d (inl e) = inl e
has-other j k (x ∷ xs) ys d (inr h) = inr (has-other j k xs ys d h)

pub has-middle : (k : ℕ) (xs ys : List ℕ) → Has k (xs ++ k ∷ ys)
has-middle k xs ys = has-right k xs (k ∷ ys) (inl refl)

pub outside-parts : (x : ℕ) (xs ys : List ℕ) → IsOutside x (xs ++ ys) → IsOutside x xs × IsOutside x ys
outside-parts x [] ys h = (tt, h)
outside-parts x (z ∷ zs) ys h = let r = outside-parts x zs ys h.1 in ((h.0, r.0), r.1)

pub outside-joined : (x : ℕ) (xs ys : List ℕ) → IsOutside x xs → IsOutside x ys → IsOutside x (xs ++ ys)
outside-joined x [] ys h g = g
outside-joined x (z ∷ zs) ys h g = (h.0, outside-joined x zs ys h.1 g)

pub distinct-parts : (xs ys : List ℕ) → AreDistinct (xs ++ ys) → AreDistinct xs × AreDistinct ys
distinct-parts [] ys h = (tt, h)
distinct-parts (x ∷ xs) ys h = let r = distinct-parts xs ys h.1 in (((outside-parts x xs ys h.0).0, r.0), r.1)

pub distinct-without : (xs : List ℕ) (k : ℕ) (ys : List ℕ) → AreDistinct (xs ++ k ∷ ys) → AreDistinct (xs ++ ys)
distinct-without [] k ys u = u.1
distinct-without (x ∷ xs) k ys u = let r = outside-parts x xs (k ∷ ys) u.0 in (outside-joined x xs ys r.0 r.1.1, distinct-without xs k ys u.1)

pub distinct-with : (xs : List ℕ) (k : ℕ) (ys : List ℕ) → IsOutside k (xs ++ ys) → AreDistinct (xs ++ ys) → AreDistinct (xs ++ k ∷ ys)
distinct-with [] k ys o u = (o, u)
distinct-with (x ∷ xs) k ys o u =
    let r = outside-parts x xs ys u.0 in
    (outside-joined x xs (k ∷ ys) r.0 ((λ e. o.0 (sym e)), r.1), distinct-with xs k ys o.1 u.1)

pub middle-outside : (k : ℕ) (xs ys : List ℕ) → AreDistinct (xs ++ k ∷ ys) → IsOutside k (xs ++ ys)
middle-outside k [] ys u = u.0
middle-outside k (x ∷ xs) ys u = ((λ e. (outside-parts x xs (k ∷ ys) u.0).1.0 (sym e)), middle-outside k xs ys u.1)

-- the ends of lists
pub last-has : (prev : Option ℕ) (xs : List ℕ) (x : ℕ) → last_or prev xs ≡ Some x → (prev ≡ Some x) ⊎ Has x xs
last-has prev [] x e = inl e
last-has prev (y ∷ ys) x e = elim (last-has (Some y) ys x e) [ inl s ↦ inr (inl (let q : y ≡ x = cc in q)) | inr h ↦ inr (inr h) ]

pub last-in : (xs : List ℕ) (x : ℕ) → last_or None xs ≡ Some x → Has x xs
last-in xs x e = elim (last-has None xs x e) [ inl s ↦ cc | inr h ↦ h ]

pub head-has : (ys : List ℕ) (x : ℕ) → head_or None ys ≡ Some x → Has x ys
head-has [] x e = cc
head-has (y ∷ ys) x e = inl (let q : y ≡ x = cc in q)

pub last_or-append : (prev : Option ℕ) (xs : List ℕ) (y : ℕ) (ys : List ℕ) → last_or prev (xs ++ y ∷ ys) ≡ last_or (Some y) ys
last_or-append prev [] y ys = refl
last_or-append prev (x ∷ xs) y ys = last_or-append (Some x) xs y ys

pub last_or-some : (x : ℕ) (xs : List ℕ) → (y : ℕ) × (last_or (Some x) xs ≡ Some y)
last_or-some x [] = (x, refl)
last_or-some x (y ∷ ys) = last_or-some y ys

-- where a key is the last, nothing comes after it
pub nothing_after_last : (xs : List ℕ) (k : ℕ) (ys : List ℕ) → AreDistinct (xs ++ k ∷ ys) → last_or None (xs ++ k ∷ ys) ≡ Some k → ys ≡ []
nothing_after_last xs k [] u e = refl
nothing_after_last xs k (y ∷ ys) u e =
    let at : last_or (Some y) ys ≡ Some k = sym (last_or-append None (xs ++ k ∷ []) y ys ∙ refl) ∙ ap (last_or None) (again xs) ∙ e in
    absurd (not-outside k (y ∷ ys) (distinct-parts xs (k ∷ y ∷ ys) u).1.0 (elim (last-has None (y ∷ ys) k at) [ inl s ↦ cc | inr h ↦ h ]))
  where
    again : (zs : List ℕ) → (zs ++ k ∷ []) ++ y ∷ ys ≡ zs ++ k ∷ y ∷ ys
    again [] = refl
    again (z ∷ zs) = ap (λ ws. z ∷ ws) (again zs)

-- distinct keys below n are at most n
distinct_eqb : (ks : List ℕ) → AreDistinct ks → IsDistinct eqb ks
unfolding IsDistinct
distinct_eqb [] u = tt
distinct_eqb (k ∷ ks) u = (each ks u.0, distinct_eqb ks u.1)
  where
    each : (xs : List ℕ) → IsOutside k xs → AllByRecursion (λ y. eqb k y ≡ false) xs
    each [] o = tt
    each (x ∷ xs) o = ((let d : x ≢ k = o.0 in grind (arith, nat_tests)), each xs o.1)

any_has : (q : ℕ) (ks : List ℕ) → list_any (eqb q) ks ≡ true → Has q ks
any_has q [] e = cc
any_has q (k ∷ ks) e =
    elim (cases_eq k q) [
      | inl same ↦ inl same
      | inr other ↦ (let t : eqb q k ≡ false = grind (arith, nat_tests) in inr (any_has q ks (sym (ap (λ b. b || list_any (eqb q) ks) t) ∙ e)))
    ]

pub length_below : (ks : List ℕ) (n : ℕ) → AreDistinct ks → ((k : ℕ) → Has k ks → k < n) → length ks ≤ n
length_below ks n u h = length-le_from_distinct_below ks n (distinct_eqb ks u) (λ q e. h q (any_has q ks e))
