-- Each key of a list once, where it stands first, without those seen before.
use Rattle.std.specs.Prelude.{◌≡◌, ℕ, ◌+◌, List, [], ◌∷◌, ◌++◌, Bool, true, false, ◌&&◌, ◌||◌, Some, find, flat_map, map, take, length, refl, cond, if◌then◌else◌}
use Rattle.std.specs.List.{AllByRecursion, enumerate_from, list_any}
use Rattle.std.specs.Bool.{Decides}
use Rattle.std.proofs.Common.{sym, ◌∙◌, ap, inl, inr, append_assoc, append-nil, length-append}
use Rattle.std.proofs.lemmas.Bool.Decides.{same_from_decides}
use Rattle.std.proofs.lemmas.Grind.{flat_map-append}
use Rattle.std.proofs.lemmas.List.{map-append}
use Rattle.std.proofs.lemmas.List.Folds.{list_any-append}
use Rattle.elab_laws.proofs.Lists.{In, all-weaker, Pairwise}

pub and-both : (x y : Bool) → (x && y) ≡ true → (x ≡ true) × (y ≡ true)
and-both true y h = (refl, h)
and-both false y h = cc

pub or-neither : (x y : Bool) → (x || y) ≡ false → (x ≡ false) × (y ≡ false)
or-neither true y h = cc
or-neither false y h = (refl, h)

abbrev pub firsts : {A K : Type 0} → (K → K → Bool) → (A → K) → List K → List A → List A
firsts same key seen [] = []
firsts same key seen (x ∷ xs) = if list_any (same (key x)) seen then firsts same key seen xs else x ∷ firsts same key (key x ∷ seen) xs

-- ---- the test decides whether keys are equal

abbrev pub AreTold : {K : Type 0} → (K → K → Bool) → Type 0
AreTold {K} same = (a b : K) → Decides (same a b) (a ≡ b)

pub told-turned : {K : Type 0} (same : K → K → Bool) → AreTold same → (a b : K) → same a b ≡ same b a
told-turned same d a b = same_from_decides (same a b) (same b a) (d a b) (λ h. sym ((d b a).0 h), λ h. (d b a).1 (sym h))

-- a key is the same as one of a list exactly where it is one of them
pub told-in : {K : Type 0} (same : K → K → Bool) → AreTold same → (k : K) (ks : List K) → In k ks → list_any (same k) ks ≡ true
told-in same d k [] h = absurd h
told-in same d k (l ∷ ks) (inl e) = ap (λ t. t || list_any (same k) ks) ((d k l).1 e)
told-in same d k (l ∷ ks) (inr h) = or-right (same k l) (list_any (same k) ks) (told-in same d k ks h)
  where
    or-right : (x y : Bool) → y ≡ true → (x || y) ≡ true
    or-right true y h = refl
    or-right false y h = h

pub in-told : {K : Type 0} (same : K → K → Bool) → AreTold same → (k : K) (ks : List K) → list_any (same k) ks ≡ true → In k ks
in-told same d k [] h = cc
in-told {K} same d k (l ∷ ks) h = by (same k l) refl h (in-told same d k ks)
  where
    by : (t : Bool) → same k l ≡ t → (t || list_any (same k) ks) ≡ true → (list_any (same k) ks ≡ true → In k ks) → In k (l ∷ ks)
    by true e h later = inl ((d k l).0 e)
    by false e h later = inr (later h)

-- ---- what the firsts are

-- each is none of those seen
pub firsts-unseen : {A K : Type 0} (same : K → K → Bool) (key : A → K) (seen : List K) (xs : List A) → AllByRecursion (λ x. list_any (same (key x)) seen ≡ false) (firsts same key seen xs)
firsts-unseen same key seen [] = tt
firsts-unseen {A} {K} same key seen (x ∷ xs) = by (list_any (same (key x)) seen) refl (firsts-unseen same key seen xs) (firsts-unseen same key (key x ∷ seen) xs)
  where
    IsNew : List K → A → Type 0
    IsNew seen x = list_any (same (key x)) seen ≡ false

    by : (t : Bool) → list_any (same (key x)) seen ≡ t → AllByRecursion (IsNew seen) (firsts same key seen xs) → AllByRecursion (IsNew (key x ∷ seen)) (firsts same key (key x ∷ seen) xs)
        → AllByRecursion (IsNew seen) (if t then firsts same key seen xs else x ∷ firsts same key (key x ∷ seen) xs)
    by true e h g = h
    by false e h g = (e, all-weaker (IsNew (key x ∷ seen)) (IsNew seen) (firsts same key (key x ∷ seen) xs) (λ y k. (or-neither (same (key y) (key x)) (list_any (same (key y)) seen) k).1) g)

-- and none stands twice
pub firsts-apart : {A K : Type 0} (same : K → K → Bool) → AreTold same → (key : A → K) (seen : List K) (xs : List A) → Pairwise (λ x y. same (key x) (key y) ≡ false) (firsts same key seen xs)
firsts-apart same d key seen [] = tt
firsts-apart {A} {K} same d key seen (x ∷ xs) =
    by (list_any (same (key x)) seen) (firsts-apart same d key seen xs) (firsts-apart same d key (key x ∷ seen) xs) (firsts-unseen same key (key x ∷ seen) xs)
  where
    Other : A → A → Type 0
    Other x y = same (key x) (key y) ≡ false

    IsNew : A → Type 0
    IsNew y = list_any (same (key y)) (key x ∷ seen) ≡ false

    by : (t : Bool) → Pairwise Other (firsts same key seen xs) → Pairwise Other (firsts same key (key x ∷ seen) xs) → AllByRecursion IsNew (firsts same key (key x ∷ seen) xs)
        → Pairwise Other (if t then firsts same key seen xs else x ∷ firsts same key (key x ∷ seen) xs)
    by true h g k = h
    by false h g k =
        (all-weaker IsNew (Other x) (firsts same key (key x ∷ seen) xs) (λ y e. told-turned same d (key x) (key y) ∙ (or-neither (same (key y) (key x)) (list_any (same (key y)) seen) e).0) k, g)

-- each is one of the list
pub in-firsts : {A K : Type 0} (same : K → K → Bool) (key : A → K) (x : A) (seen : List K) (xs : List A) → In x (firsts same key seen xs) → In x xs
in-firsts same key x seen [] h = absurd h
in-firsts {A} {K} same key x seen (y ∷ xs) h = by (list_any (same (key y)) seen) h (in-firsts same key x seen xs) (in-firsts same key x (key y ∷ seen) xs)
  where
    by : (t : Bool) → In x (if t then firsts same key seen xs else y ∷ firsts same key (key y ∷ seen) xs) → (In x (firsts same key seen xs) → In x xs)
        → (In x (firsts same key (key y ∷ seen) xs) → In x xs) → In x (y ∷ xs)
    by true h f g = inr (f h)
    by false (inl e) f g = inl e
    by false (inr h) f g = inr (g h)

-- and each key of the list is one of theirs, but for those seen
pub key-in_firsts : {A K : Type 0} (same : K → K → Bool) → AreTold same → (key : A → K) (k : K) (seen : List K) (xs : List A) → In k (map key xs) → list_any (same k) seen ≡ false
    → In k (map key (firsts same key seen xs))
key-in_firsts same d key k seen [] h n = absurd h
key-in_firsts {A} {K} same d key k seen (x ∷ xs) h n =
    by (same k (key x)) refl (list_any (same (key x)) seen) refl (λ i. key-in_firsts same d key k seen xs i n) (key-in_firsts same d key k (key x ∷ seen) xs)
  where
    at : In k (key x ∷ map key xs) → same k (key x) ≡ false → In k (map key xs)
    at (inl e) f = let t : same k (key x) ≡ true = (d k (key x)).1 e in cc
    at (inr i) f = i

    by : (q : Bool) → same k (key x) ≡ q → (t : Bool) → list_any (same (key x)) seen ≡ t → (In k (map key xs) → In k (map key (firsts same key seen xs)))
        → (In k (map key xs) → list_any (same k) (key x ∷ seen) ≡ false → In k (map key (firsts same key (key x ∷ seen) xs)))
        → In k (map key (if t then firsts same key seen xs else x ∷ firsts same key (key x ∷ seen) xs))
    by q e true t f g = f (at h (other q e))
      where
        other : (q : Bool) → same k (key x) ≡ q → same k (key x) ≡ false
        other true e = let s : list_any (same k) seen ≡ true = ap (λ l. list_any (same l) seen) ((d k (key x)).0 e) ∙ t in cc
        other false e = e
    by true e false t f g = inl ((d k (key x)).0 e)
    by false e false t f g = inr (g (at h e) (ap (λ q. q || list_any (same k) seen) e ∙ n))

-- ---- lists one after another

or-swap : (x y z : Bool) → (x || (y || z)) ≡ (y || (x || z))
or-swap true true z = refl
or-swap true false z = refl
or-swap false y z = refl

-- what was seen matters by its keys alone
abbrev pub HaveSameKeys : {K : Type 0} → (K → K → Bool) → List K → List K → Type 0
HaveSameKeys {K} same ks ls = (k : K) → list_any (same k) ks ≡ list_any (same k) ls

pub firsts-same : {A K : Type 0} (same : K → K → Bool) (key : A → K) (ks ls : List K) (xs : List A) → HaveSameKeys same ks ls → firsts same key ks xs ≡ firsts same key ls xs
firsts-same same key ks ls [] h = refl
firsts-same same key ks ls (x ∷ xs) h =
    ap (λ t. if t then firsts same key ks xs else x ∷ firsts same key (key x ∷ ks) xs) (h (key x))
    ∙ ap (λ us. if list_any (same (key x)) ls then us else x ∷ firsts same key (key x ∷ ks) xs) (firsts-same same key ks ls xs h)
    ∙ ap (λ us. if list_any (same (key x)) ls then firsts same key ls xs else x ∷ us) (firsts-same same key (key x ∷ ks) (key x ∷ ls) xs (λ k. ap (λ t. same k (key x) || t) (h k)))

pub firsts-append : {A K : Type 0} (same : K → K → Bool) → AreTold same → (key : A → K) (seen : List K) (xs ys : List A)
    → firsts same key seen (xs ++ ys) ≡ firsts same key seen xs ++ firsts same key (seen ++ map key xs) ys
firsts-append same d key seen [] ys = ap (λ ks. firsts same key ks ys) (sym (append-nil seen))
firsts-append {A} {K} same d key seen (x ∷ xs) ys = by (list_any (same (key x)) seen) refl (firsts-append same d key seen xs ys) (firsts-append same d key (key x ∷ seen) xs ys)
  where
    ks : List K
    ks = map key xs

    moved : HaveSameKeys same ((key x ∷ seen) ++ ks) (seen ++ key x ∷ ks)
    moved k =
        ap (λ t. same k (key x) || t) (list_any-append (same k) seen ks)
        ∙ or-swap (same k (key x)) (list_any (same k) seen) (list_any (same k) ks)
        ∙ sym (list_any-append (same k) seen (key x ∷ ks))

    absorbed : list_any (same (key x)) seen ≡ true → HaveSameKeys same (seen ++ ks) (seen ++ key x ∷ ks)
    absorbed t k = list_any-append (same k) seen ks ∙ both (same k (key x)) refl ∙ sym (list_any-append (same k) seen (key x ∷ ks))
      where
        there : same k (key x) ≡ true → list_any (same k) seen ≡ true
        there e = ap (λ l. list_any (same l) seen) ((d k (key x)).0 e) ∙ t

        both : (r : Bool) → same k (key x) ≡ r → (list_any (same k) seen || list_any (same k) ks) ≡ (list_any (same k) seen || (r || list_any (same k) ks))
        both true e = ap (λ q. q || list_any (same k) ks) (there e) ∙ sym (ap (λ q. q || true) (there e))
        both false e = refl

    by : (t : Bool) → list_any (same (key x)) seen ≡ t → firsts same key seen (xs ++ ys) ≡ firsts same key seen xs ++ firsts same key (seen ++ ks) ys
        → firsts same key (key x ∷ seen) (xs ++ ys) ≡ firsts same key (key x ∷ seen) xs ++ firsts same key ((key x ∷ seen) ++ ks) ys
        → (if t then firsts same key seen (xs ++ ys) else x ∷ firsts same key (key x ∷ seen) (xs ++ ys))
        ≡ (if t then firsts same key seen xs else x ∷ firsts same key (key x ∷ seen) xs) ++ firsts same key (seen ++ key x ∷ ks) ys
    by true e h g = h ∙ ap (λ zs. firsts same key seen xs ++ zs) (firsts-same same key (seen ++ ks) (seen ++ key x ∷ ks) ys (absorbed e))
    by false e h g = ap (λ zs. x ∷ zs) (g ∙ ap (λ zs. firsts same key (key x ∷ seen) xs ++ zs) (firsts-same same key ((key x ∷ seen) ++ ks) (seen ++ key x ∷ ks) ys moved))

-- what a test of keys finds in the list it finds among the firsts
pub find-firsts : {A K : Type 0} (same : K → K → Bool) → AreTold same → (key : A → K) (p : K → Bool) (seen : List K) (xs : List A) → list_any p seen ≡ false
    → find (λ x. p (key x)) (firsts same key seen xs) ≡ find (λ x. p (key x)) xs
find-firsts same d key p seen [] n = refl
find-firsts {A} {K} same d key p seen (x ∷ xs) n = by (list_any (same (key x)) seen) refl (find-firsts same d key p seen xs n) (p (key x)) refl (find-firsts same d key p (key x ∷ seen) xs)
  where
    f : A → Bool
    f x = p (key x)

    none : (ks : List K) → In (key x) ks → list_any p ks ≡ false → p (key x) ≡ false
    none [] h n = absurd h
    none (k ∷ ks) (inl e) n = ap p e ∙ (or-neither (p k) (list_any p ks) n).0
    none (k ∷ ks) (inr h) n = none ks h (or-neither (p k) (list_any p ks) n).1

    by : (t : Bool) → list_any (same (key x)) seen ≡ t → find f (firsts same key seen xs) ≡ find f xs → (q : Bool) → p (key x) ≡ q
        → (list_any p (key x ∷ seen) ≡ false → find f (firsts same key (key x ∷ seen) xs) ≡ find f xs)
        → find f (if t then firsts same key seen xs else x ∷ firsts same key (key x ∷ seen) xs) ≡ cond (p (key x)) (Some x) (find f xs)
    by true t h q e g = h ∙ ap (λ q. cond q (Some x) (find f xs)) (sym (none seen (in-told same d (key x) seen t) n))
    by false t h true e g = rw e refl
    by false t h false e g = rw e (g (rw e n))

-- ---- pieces of a list

take-front : {A : Type 0} (xs ys : List A) → take (length xs) (xs ++ ys) ≡ xs
take-front [] [] = refl
take-front [] (y ∷ ys) = refl
take-front (x ∷ xs) ys = ap (λ zs. x ∷ zs) (take-front xs ys)

-- of each piece those whose keys no piece before it has: the firsts of all pieces
pub firsts-between : {A B K : Type 0} (same : K → K → Bool) → AreTold same → (key : B → K) (f : A → List B) (before some after : List A)
    → flat_map (λ x. firsts same key (map key (flat_map f (take x.0 (before ++ (some ++ after))))) (f x.1)) (enumerate_from (length before) some)
    ≡ firsts same key (map key (flat_map f before)) (flat_map f some)
firsts-between same d key f before [] after = refl
firsts-between {A} {B} {K} same d key f before (x ∷ some) after =
    ap (λ zs. first zs (f x) ++ rest (length before + 1) (before ++ (x ∷ (some ++ after)))) (take-front before (x ∷ (some ++ after)))
    ∙ ap (λ zs. first before (f x) ++ rest (length before + 1) zs) (sym (append_assoc before (x ∷ []) (some ++ after)))
    ∙ ap (λ k. first before (f x) ++ rest k ((before ++ x ∷ []) ++ (some ++ after))) (sym (length-append before (x ∷ [])))
    ∙ ap (λ zs. first before (f x) ++ zs) (firsts-between same d key f (before ++ x ∷ []) some after)
    ∙ ap (λ zs. first before (f x) ++ firsts same key (map key zs) (flat_map f some)) (flat_map-append f before (x ∷ []) ∙ ap (λ zs. flat_map f before ++ zs) (append-nil (f x)))
    ∙ ap (λ ks. first before (f x) ++ firsts same key ks (flat_map f some)) (map-append key (flat_map f before) (f x))
    ∙ sym (firsts-append same d key (map key (flat_map f before)) (f x) (flat_map f some))
  where
    first : List A → List B → List B
    first before bs = firsts same key (map key (flat_map f before)) bs

    rest : ℕ → List A → List B
    rest k all = flat_map (λ x. first (take x.0 all) (f x.1)) (enumerate_from k some)
