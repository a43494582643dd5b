-- Names that come one after another to those that are known.
use Rattle.std.specs.Prelude.{◌≡◌, ℕ, suc, ◌<◌, ◌≤◌, length, slice_index_or, flat_map, List, [], ◌∷◌, ◌++◌, Bool, true, false, ◌||◌, refl, bytes_eq, if◌then◌else◌}
use Rattle.std.specs.Borrow.{Bor}
use Rattle.std.specs.List.{list_any}
use Rattle.std.proofs.Common.{sym, ◌∙◌, ap, append_assoc, drop, drop-cons}
use Rattle.std.proofs.lemmas.List.{append-nil, drop_all, map-append}
use Rattle.std.proofs.lemmas.List.Folds.{list_any-append}
use Rattle.elab_model.specs.Names.{is_among, first_of_each}
use Rattle.elab_variables.specs.Naming.{key_texts, with_names}

-- which names were seen is what counts, and not their order
same-first : (s t ns : List (List ℕ)) → ((n : List ℕ) → is_among n s ≡ is_among n t) → first_of_each s ns ≡ first_of_each t ns
same-first s t [] h = refl
same-first s t (n ∷ ns) h =
    ap (λ b. if b then first_of_each s ns else n ∷ first_of_each (n ∷ s) ns) (h n)
    ∙ by (is_among n t) (same-first s t ns h) (same-first (n ∷ s) (n ∷ t) ns (λ m. ap (λ b. bytes_eq m n || b) (h m)))
  where
    by : (b : Bool) → first_of_each s ns ≡ first_of_each t ns → first_of_each (n ∷ s) ns ≡ first_of_each (n ∷ t) ns
        → (if b then first_of_each s ns else n ∷ first_of_each (n ∷ s) ns) ≡ (if b then first_of_each t ns else n ∷ first_of_each (n ∷ t) ns)
    by true e f = e
    by false e f = ap (λ ms. n ∷ ms) f

among-moved : (m n : List ℕ) (s t : List (List ℕ)) → is_among m (n ∷ (s ++ t)) ≡ is_among m (s ++ n ∷ t)
among-moved m n s t =
    ap (λ b. bytes_eq m n || b) (list_any-append (bytes_eq m) s t) ∙ by (bytes_eq m n) (is_among m s) (is_among m t) ∙ sym (list_any-append (bytes_eq m) s (n ∷ t))
  where
    by : (a b c : Bool) → (a || (b || c)) ≡ (b || (a || c))
    by true true c = refl
    by true false c = refl
    by false b c = refl

first-append : (known xs ys : List (List ℕ)) → first_of_each known (xs ++ ys) ≡ first_of_each known xs ++ first_of_each (known ++ first_of_each known xs) ys
first-append known [] ys = ap (λ k. first_of_each k ys) (sym (append-nil known))
first-append known (x ∷ xs) ys = by (is_among x known) (first-append known xs ys) (first-append (x ∷ known) xs ys)
  where
    by : (b : Bool) → first_of_each known (xs ++ ys) ≡ first_of_each known xs ++ first_of_each (known ++ first_of_each known xs) ys
        → first_of_each (x ∷ known) (xs ++ ys) ≡ first_of_each (x ∷ known) xs ++ first_of_each (x ∷ (known ++ first_of_each (x ∷ known) xs)) ys
        → (if b then first_of_each known (xs ++ ys) else x ∷ first_of_each (x ∷ known) (xs ++ ys))
        ≡ (if b then first_of_each known xs else x ∷ first_of_each (x ∷ known) xs) ++ first_of_each (known ++ (if b then first_of_each known xs else x ∷ first_of_each (x ∷ known) xs)) ys
    by true e f = e
    by false e f =
        ap (λ ns. x ∷ ns) (f ∙ ap (λ ns. first_of_each (x ∷ known) xs ++ ns)
        (same-first (x ∷ (known ++ first_of_each (x ∷ known) xs)) (known ++ x ∷ first_of_each (x ∷ known) xs) ys (λ m. among-moved m x known (first_of_each (x ∷ known) xs))))

pub with-none : (known : List (List ℕ)) → known ≡ with_names known []
unfolding with_names
with-none known = sym (append-nil known)

pub with-both : (known xs ys : List (List ℕ)) → with_names (with_names known xs) ys ≡ with_names known (xs ++ ys)
unfolding with_names
with-both known xs ys = append_assoc known (first_of_each known xs) (first_of_each (known ++ first_of_each known xs) ys) ∙ ap (λ ns. known ++ ns) (sym (first-append known xs ys))

pub all-new : (xs : List (List ℕ)) → with_names [] xs ≡ first_of_each [] xs
unfolding with_names
all-new xs = refl

-- a name that is put into the set
among-keys : (n : List ℕ) (keys : List (Bor (List ℕ))) → is_among n (key_texts keys) ≡ list_any (λ k. bytes_eq n k.now) keys
among-keys n [] = refl
among-keys n (k ∷ ks) = ap (λ b. bytes_eq n k.now || b) (among-keys n ks)

pub one-put : (keys after : List (Bor (List ℕ))) (k : Bor (List ℕ)) → after ≡ (if list_any (λ y. bytes_eq k.now y.now) keys then keys else keys ++ k ∷ [])
    → key_texts after ≡ with_names (key_texts keys) (k.now ∷ [])
unfolding with_names
one-put keys after k e = by (list_any (λ y. bytes_eq k.now y.now) keys) (among-keys k.now keys) e
  where
    by : (b : Bool) → is_among k.now (key_texts keys) ≡ b → after ≡ (if b then keys else keys ++ k ∷ [])
        → key_texts after ≡ key_texts keys ++ (if is_among k.now (key_texts keys) then [] else k.now ∷ [])
    by true a e = ap key_texts e ∙ sym (ap (λ b. key_texts keys ++ (if b then [] else k.now ∷ [])) a ∙ append-nil (key_texts keys))
    by false a e = ap key_texts e ∙ map-append (λ y. y.now) keys (k ∷ []) ∙ sym (ap (λ b. key_texts keys ++ (if b then [] else k.now ∷ [])) a)

-- two that come one after the other
pub one-more : (known mid after : List (List ℕ)) (xs ys : List (List ℕ)) → mid ≡ with_names known xs → after ≡ with_names mid ys → after ≡ with_names known (xs ++ ys)
one-more known mid after xs ys e f = f ∙ ap (λ k. with_names k ys) e ∙ with-both known xs ys

pub both-sides : (known mid after : List (List ℕ)) (xs ys : List (List ℕ)) → mid ≡ with_names known xs → after ≡ with_names mid ys → after ≡ with_names known (xs ++ (ys ++ []))
both-sides known mid after xs ys e f = one-more known mid after xs ys e f ∙ ap (λ zs. with_names known (xs ++ zs)) (sym (append-nil ys))

-- a loop over what has names
pub next-part : {A : Type 0} (f : A → List (List ℕ)) (xs : List A) (i : ℕ) (x : A) (known mid total : List (List ℕ)) → i < length xs → x ≡ slice_index_or xs i x → mid ≡ with_names known (f x)
    → with_names known (flat_map f (drop i xs)) ≡ total → with_names mid (flat_map f (drop (suc i) xs)) ≡ total
next-part f xs i x known mid total lt is e h =
    ap (λ k. with_names k (flat_map f (drop (suc i) xs))) e
    ∙ with-both known (f x) (flat_map f (drop (suc i) xs))
    ∙ ap (λ ys. with_names known (flat_map f ys)) (sym (drop-cons xs i x lt ∙ ap (λ y. y ∷ drop (suc i) xs) (sym is)))
    ∙ h

pub no-more-parts : {A : Type 0} (f : A → List (List ℕ)) (xs : List A) (i : ℕ) (known total : List (List ℕ)) → length xs ≤ i → with_names known (flat_map f (drop i xs)) ≡ total → known ≡ total
no-more-parts f xs i known total le h = with-none known ∙ ap (λ ys. with_names known (flat_map f ys)) (sym (drop_all i xs le)) ∙ h
