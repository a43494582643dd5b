-- Faults that are looked for one after another.
use Rattle.std.specs.Prelude.{◌≡◌, ℕ, zero, suc, ◌+◌, ◌-◌, ◌<◌, ◌≤◌, List, [], ◌∷◌, ◌++◌, Bool, true, false, Result, Ok, Err, IfErr, flat_map, length, take, slice_index_or, zip, refl}
use Rattle.std.proofs.Common.{sym, ◌∙◌, ap, arith, subst, drop, drop-cons}
use Rattle.std.proofs.lemmas.List.{drop_all, take_all}
use Rattle.std.proofs.lemmas.Slice.Zip.{length-zip, get_or-zip}
use Rattle.sg_text.specs.declared.places.Place.{Place}
use Rattle.sg_text.specs.declared.refusals.Refused.{Refused}
use Rattle.sg_text.specs.declared.refusals.Refused.TheVariants as refused
use Rattle.elab_model.specs.declared.kinds.ElabKind.{ElabKind}
use Rattle.elab_model.specs.Faults.{Fault, fault_if, RefusesOneOf}
use Rattle.elab_declared.proofs.Refusals.{refused-left, refused-right}
use Rattle.elab_modules.specs.Telling.{Tells}

-- ---- at the end of a function

-- what an exit returns
pub exit : {A : Type 0} (result : Result A (Refused ElabKind)) (fs : List Fault) (e : Refused ElabKind) → ((x : Refused ElabKind) × (result ≡ Err x) × (x ≡ e)) → RefusesOneOf fs e → Tells fs result
exit result fs e (x, r, s) h = rw r (subst (RefusesOneOf fs) (sym s) h)

pub exit-if : {A : Type 0} (result : Result A (Refused ElabKind)) (P : Refused ElabKind → Type 0) (e : Refused ElabKind) → ((x : Refused ElabKind) × (result ≡ Err x) × (x ≡ e)) → P e → IfErr result P
exit-if result P e (x, r, s) h = rw r (subst P (sym s) h)

-- of two parts, the first has no fault
pub tells-second : {A : Type 0} (fs gs : List Fault) (r : Result A (Refused ElabKind)) → fs ≡ [] → Tells gs r → Tells (fs ++ gs) r
tells-second fs gs (Ok x) e h = ap (λ hs. hs ++ gs) e ∙ h
tells-second fs gs (Err r) e h = refused-right fs gs r h

-- ---- in a loop

-- the faults of those that are left are those of all
next-of : {A : Type 0} (f : A → List Fault) (xs : List A) (i : ℕ) (x : A) → i < length xs → x ≡ slice_index_or xs i x → flat_map f (drop i xs) ≡ f x ++ flat_map f (drop (i + 1) xs)
next-of f xs i x lt e =
    let n : suc i ≡ i + 1 = omega arith in
    ap (flat_map f) (drop-cons xs i x lt ∙ ap (λ y. y ∷ drop (suc i) xs) (sym e)) ∙ ap (λ k. f x ++ flat_map f (drop k xs)) n

pub next-faultless : {A : Type 0} (f : A → List Fault) (xs : List A) (i : ℕ) (x : A) → i < length xs → x ≡ slice_index_or xs i x → f x ≡ [] → flat_map f (drop i xs) ≡ flat_map f xs
    → flat_map f (drop (i + 1) xs) ≡ flat_map f xs
next-faultless f xs i x lt at e left = ap (λ fs. fs ++ flat_map f (drop (i + 1) xs)) (sym e) ∙ sym (next-of f xs i x lt at) ∙ left

pub this-refused : {A : Type 0} (f : A → List Fault) (xs : List A) (i : ℕ) (x : A) (r : Refused ElabKind) → i < length xs → x ≡ slice_index_or xs i x → flat_map f (drop i xs) ≡ flat_map f xs
    → RefusesOneOf (f x) r → RefusesOneOf (flat_map f xs) r
this-refused f xs i x r lt at left h =
    subst (λ fs. RefusesOneOf fs r) (sym (next-of f xs i x lt at) ∙ left) (refused-left (f x) (flat_map f (drop (i + 1) xs)) r h)

pub none-left : {A : Type 0} (f : A → List Fault) (xs : List A) (i : ℕ) → length xs ≤ i → flat_map f (drop i xs) ≡ flat_map f xs → flat_map f xs ≡ []
none-left f xs i le left = sym left ∙ ap (flat_map f) (drop_all i xs le)

-- ---- one fault where a test holds

pub fault-told : (test : Bool) (k : ElabKind) (p : Place) → test ≡ true → RefusesOneOf (fault_if test k p) (refused.Fault k p)
fault-told test k p e = subst (λ b. RefusesOneOf (fault_if b k p) (refused.Fault k p)) (sym e) (0, (omega arith, refl))

pub no-fault : (test : Bool) (k : ElabKind) (p : Place) → test ≡ false → fault_if test k p ≡ []
no-fault test k p e = ap (λ b. fault_if b k p) e

-- ---- exits of functions that look for several parts in turn

pub exit-first : {A : Type 0} (fs gs : List Fault) (result : Result A (Refused ElabKind)) (e : Refused ElabKind) → ((x : Refused ElabKind) × (result ≡ Err x) × (x ≡ e)) → RefusesOneOf fs e
    → Tells (fs ++ gs) result
exit-first fs gs result e x h = exit result (fs ++ gs) e x (refused-left fs gs e h)

pub exit-second : {A : Type 0} (fs gs : List Fault) (result : Result A (Refused ElabKind)) (e : Refused ElabKind) → ((x : Refused ElabKind) × (result ≡ Err x) × (x ≡ e)) → RefusesOneOf gs e
    → Tells (fs ++ gs) result
exit-second fs gs result e x h = exit result (fs ++ gs) e x (refused-right fs gs e h)

pub exit-middle : {A : Type 0} (fs gs hs : List Fault) (result : Result A (Refused ElabKind)) (e : Refused ElabKind) → ((x : Refused ElabKind) × (result ≡ Err x) × (x ≡ e)) → RefusesOneOf gs e
    → Tells (fs ++ (gs ++ hs)) result
exit-middle fs gs hs result e x h = exit-second fs (gs ++ hs) result e x (refused-left gs hs e h)

-- ---- the same where elements are read by a default

at-place : {A : Type 0} (xs : List A) (i : ℕ) (d : A) → i < length xs → slice_index_or xs i d ≡ slice_index_or xs i (slice_index_or xs i d)
at-place [] i d lt = absurd (omega arith)
at-place (x ∷ xs) zero d lt = refl
at-place {A} (x ∷ xs) (suc i) d lt = again xs i d _ (omega arith)
  where
    again : (xs : List A) (i : ℕ) (d e : A) → i < length xs → slice_index_or xs i d ≡ slice_index_or xs i e
    again [] i d e lt = absurd (omega arith)
    again (x ∷ xs) zero d e lt = refl
    again (x ∷ xs) (suc i) d e lt = again xs i d e (omega arith)

pub next-faultless_at : {A : Type 0} (f : A → List Fault) (xs : List A) (i : ℕ) (d : A) → i < length xs → f (slice_index_or xs i d) ≡ [] → flat_map f (drop i xs) ≡ flat_map f xs
    → flat_map f (drop (i + 1) xs) ≡ flat_map f xs
next-faultless_at f xs i d lt e left = next-faultless f xs i (slice_index_or xs i d) lt (at-place xs i d lt) e left

pub this-refused_at : {A : Type 0} (f : A → List Fault) (xs : List A) (i : ℕ) (d : A) (r : Refused ElabKind) → i < length xs → flat_map f (drop i xs) ≡ flat_map f xs
    → RefusesOneOf (f (slice_index_or xs i d)) r → RefusesOneOf (flat_map f xs) r
this-refused_at f xs i d r lt left h = this-refused f xs i (slice_index_or xs i d) r lt (at-place xs i d lt) left h

-- ---- of two lists side by side

zip-reaches : {A B : Type 0} (xs : List A) (ys : List B) (i : ℕ) → i < length ys → length ys ≤ length xs → i < length (zip xs ys)
zip-reaches xs ys i lt le = let z = length-zip xs ys in omega arith

pub next-pair_faultless : {A B : Type 0} (f : A × B → List Fault) (xs : List A) (ys : List B) (i : ℕ) (d : A) (y : B) → i < length ys → length ys ≤ length xs → y ≡ slice_index_or ys i y
    → f (slice_index_or xs i d, y) ≡ [] → flat_map f (drop i (zip xs ys)) ≡ flat_map f (zip xs ys) → flat_map f (drop (i + 1) (zip xs ys)) ≡ flat_map f (zip xs ys)
next-pair_faultless f xs ys i d y lt le at e left =
    let pair : slice_index_or (zip xs ys) i (d, y) ≡ (slice_index_or xs i d, y) = get_or-zip xs ys i (d, y) (omega arith) lt ∙ ap (λ z. (slice_index_or xs i d, z)) (sym at) in
    next-faultless_at f (zip xs ys) i (d, y) (zip-reaches xs ys i lt le) (ap f pair ∙ e) left

pub this-pair_refused : {A B : Type 0} (f : A × B → List Fault) (xs : List A) (ys : List B) (i : ℕ) (d : A) (y : B) (r : Refused ElabKind) → i < length ys → length ys ≤ length xs
    → y ≡ slice_index_or ys i y → flat_map f (drop i (zip xs ys)) ≡ flat_map f (zip xs ys) → RefusesOneOf (f (slice_index_or xs i d, y)) r → RefusesOneOf (flat_map f (zip xs ys)) r
this-pair_refused f xs ys i d y r lt le at left h =
    let pair : slice_index_or (zip xs ys) i (d, y) ≡ (slice_index_or xs i d, y) = get_or-zip xs ys i (d, y) (omega arith) lt ∙ ap (λ z. (slice_index_or xs i d, z)) (sym at) in
    this-refused_at f (zip xs ys) i (d, y) r (zip-reaches xs ys i lt le) left (subst (λ p. RefusesOneOf (f p) r) (sym pair) h)

pub no-pair_left : {A B : Type 0} (f : A × B → List Fault) (xs : List A) (ys : List B) (i : ℕ) → length ys ≤ i → flat_map f (drop i (zip xs ys)) ≡ flat_map f (zip xs ys) → flat_map f (zip xs ys) ≡ []
no-pair_left f xs ys i le left = let z = length-zip xs ys in none-left f (zip xs ys) i (omega arith) left

pub first-and_rest : {A : Type 0} (xs : List A) (x : A) → 1 ≤ length xs → x ≡ slice_index_or xs 0 x → xs ≡ x ∷ drop 1 xs
first-and_rest [] x le e = absurd (omega arith)
first-and_rest (y ∷ xs) x le e = ap (λ z. z ∷ xs) (sym e)

pub rest-of : {A : Type 0} (xs : List A) → take (length xs - 1) (drop 1 xs) ≡ drop 1 xs
rest-of [] = refl
rest-of (x ∷ xs) = let n : suc (length xs) - 1 ≡ length xs = omega arith in ap (λ k. take k xs) n ∙ take_all (length xs) xs (omega arith)
