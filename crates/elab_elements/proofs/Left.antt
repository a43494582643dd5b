-- What is left of a list that a loop walks, and a refusal on the way.
use Rattle.std.specs.Prelude.{◌≡◌, ℕ, suc, ◌+◌, ◌-◌, ◌<◌, ◌≤◌, List, [], ◌∷◌, ◌++◌, flat_map, length, zip, min}
use Rattle.std.specs.Borrow.{Bor}
use Rattle.std.specs.List.{range_with_len}
use Rattle.std.proofs.Common.{sym, ◌∙◌, ap, arith, drop, drop-cons, get_or, length-append}
use Rattle.std.proofs.lemmas.List.{drop_all}
use Rattle.std.proofs.lemmas.Slice.Zip.{length-zip, get_or-zip}
use Rattle.sg_text.specs.declared.refusals.Refused.{Refused}
use Rattle.elab_model.specs.declared.kinds.ElabKind.{ElabKind}
use Rattle.elab_elements.specs.declared.placing.Placing.{Placing}
use Rattle.elab_elements.specs.Puts.{Put, Puts, RefusesPuts}
use Rattle.elab_elements.proofs.Putting.{Completes, completes-more, refuses-left}

-- ---- a list

next-of : {A B : Type 0} (f : A → List B) (xs : List A) (i : ℕ) (d : A) → i < length xs → flat_map f (drop i xs) ≡ f (get_or xs i d) ++ flat_map f (drop (i + 1) xs)
next-of f xs i d lt =
    let n : suc i ≡ i + 1 = omega arith in
    ap (flat_map f) (drop-cons xs i d lt) ∙ ap (λ k. f (get_or xs i d) ++ flat_map f (drop k xs)) n

pub none-of : {A B : Type 0} (f : A → List B) (xs : List A) (i : ℕ) → length xs ≤ i → flat_map f (drop i xs) ≡ []
none-of f xs i le = ap (flat_map f) (drop_all i xs le)

pub list-more : {A : Type 0} (f : A → List Put) (xs : List A) (i : ℕ) (d : A) (old cur new : Placing) → i < length xs → Completes old (flat_map f xs) cur (flat_map f (drop i xs)) → Puts cur new (f (get_or xs i d))
    → Completes old (flat_map f xs) new (flat_map f (drop (i + 1) xs))
list-more f xs i d old cur new lt h k = completes-more old cur new (flat_map f xs) (flat_map f (drop i xs)) (f (get_or xs i d)) (flat_map f (drop (i + 1) xs)) h (next-of f xs i d lt) k

pub list-refused : {A : Type 0} (f : A → List Put) (xs : List A) (i : ℕ) (d : A) (old cur : Placing) (r : Refused ElabKind) → i < length xs → Completes old (flat_map f xs) cur (flat_map f (drop i xs))
    → RefusesPuts cur (f (get_or xs i d)) r → RefusesPuts old (flat_map f xs) r
list-refused f xs i d old cur r lt h k = refuses-left old cur (flat_map f xs) (flat_map f (drop i xs)) (f (get_or xs i d)) (flat_map f (drop (i + 1) xs)) r h (next-of f xs i d lt) k

-- ---- numbers

next-number : {B : Type 0} (f : ℕ → List B) (p e : ℕ) → p < e → flat_map f (range_with_len p (e - p)) ≡ f p ++ flat_map f (range_with_len (p + 1) (e - (p + 1)))
next-number f p e lt = let n : e - p ≡ suc (e - (p + 1)) = omega arith in ap (λ k. flat_map f (range_with_len p k)) n

pub no-number : {B : Type 0} (f : ℕ → List B) (p e : ℕ) → e ≤ p → flat_map f (range_with_len p (e - p)) ≡ []
no-number f p e le = let n : e - p ≡ 0 = omega arith in ap (λ k. flat_map f (range_with_len p k)) n

pub numbers-more : (f : ℕ → List Put) (total : List Put) (p e : ℕ) (old cur new : Placing) → p < e → Completes old total cur (flat_map f (range_with_len p (e - p))) → Puts cur new (f p)
    → Completes old total new (flat_map f (range_with_len (p + 1) (e - (p + 1))))
numbers-more f total p e old cur new lt h k = completes-more old cur new total (flat_map f (range_with_len p (e - p))) (f p) (flat_map f (range_with_len (p + 1) (e - (p + 1)))) h (next-number f p e lt) k

pub numbers-refused : (f : ℕ → List Put) (total : List Put) (p e : ℕ) (old cur : Placing) (r : Refused ElabKind) → p < e → Completes old total cur (flat_map f (range_with_len p (e - p))) → RefusesPuts cur (f p) r
    → RefusesPuts old total r
numbers-refused f total p e old cur r lt h k = refuses-left old cur total (flat_map f (range_with_len p (e - p))) (f p) (flat_map f (range_with_len (p + 1) (e - (p + 1)))) r h (next-number f p e lt) k

-- ---- two lists side by side

next-pair : {A B C : Type 0} (f : A × B → List C) (xs : List A) (ys : List B) (i : ℕ) (x : A) (y : B) → i < length xs → i < length ys → x ≡ get_or xs i x → y ≡ get_or ys i y
    → flat_map f (drop i (zip xs ys)) ≡ f (x, y) ++ flat_map f (drop (i + 1) (zip xs ys))
next-pair f xs ys i x y lt lu e g =
    let l : length (zip xs ys) ≡ min (length xs) (length ys) = length-zip xs ys in
    let below : i < length (zip xs ys) = omega arith in
    let pair : get_or (zip xs ys) i (x, y) ≡ (x, y) = get_or-zip xs ys i (x, y) lt lu ∙ (λ j. (sym e j, sym g j)) in
    next-of f (zip xs ys) i (x, y) below ∙ ap (λ p. f p ++ flat_map f (drop (i + 1) (zip xs ys))) pair

pub pair-step : {A B C : Type 0} (f : A × B → List C) (ks : List A) (vs : List B) (xs : List (Bor A × Bor B)) (p : Bor A × Bor B)
    → (length xs < length ks) × (length xs < length vs) × ((d : A) → p.0.now ≡ get_or ks (length xs) d) × ((d : B) → p.1.now ≡ get_or vs (length xs) d)
    → flat_map f (drop (length xs) (zip ks vs)) ≡ f (p.0.now, p.1.now) ++ flat_map f (drop (length (xs ++ p ∷ [])) (zip ks vs))
pair-step f ks vs xs p at =
    let n : length xs + 1 ≡ length (xs ++ p ∷ []) = sym (length-append xs (p ∷ [])) in
    next-pair f ks vs (length xs) p.0.now p.1.now at.0 at.1 (at.2 p.0.now) (at.3 p.1.now) ∙ ap (λ j. f (p.0.now, p.1.now) ++ flat_map f (drop j (zip ks vs))) n

pub pair-last : {A B C : Type 0} (f : A × B → List C) (ks : List A) (vs : List B) (xs : List (Bor A × Bor B)) → length xs ≡ min (length ks) (length vs) → flat_map f (drop (length xs) (zip ks vs)) ≡ []
pair-last f ks vs xs e =
    let l : length (zip ks vs) ≡ min (length ks) (length vs) = length-zip ks vs in
    none-of f (zip ks vs) (length xs) (omega arith)
