-- Lists that grow in turn: what is there, followed by what is left, is the whole.
use Rattle.std.specs.Prelude.{◌≡◌, ◌⊎◌, ℕ, zero, suc, ◌+◌, ◌<◌, ◌≤◌, List, [], ◌∷◌, ◌++◌, All, length, map, flat_map, slice_index_or, take, zip, refl}
use Rattle.std.proofs.Common.{sym, ◌∙◌, ap, arith, subst, inl, inr, drop, drop-cons, append_assoc, append-nil}
use Rattle.std.proofs.lemmas.List.{map-append, take_more, drop_all}
use Rattle.std.proofs.lemmas.List.Elements.{All-push}
use Rattle.std.proofs.lemmas.Grind.{flat_map-append}

-- ---- an item of a list

dropped : {A : Type 0} (xs : List A) (i : ℕ) (x : A) → i < length xs → x ≡ slice_index_or xs i x → drop i xs ≡ x ∷ drop (i + 1) xs
dropped xs i x lt at =
    let n : suc i ≡ i + 1 = omega arith in
    drop-cons xs i x lt ∙ ap (λ y. y ∷ drop (suc i) xs) (sym at) ∙ ap (λ k. x ∷ drop k xs) n

pub taken : {A : Type 0} (xs : List A) (i : ℕ) (x : A) → i < length xs → x ≡ slice_index_or xs i x → take (i + 1) xs ≡ take i xs ++ x ∷ []
taken xs i x lt at = take_more xs i x lt ∙ ap (λ y. take i xs ++ y ∷ []) (sym at)

pub grown-all : {A : Type 0} (P : A → Type 0) (xs new : List A) (x : A) → new ≡ xs ++ x ∷ [] → All P xs → P x → All P new
grown-all P xs new x grown all one = subst (All P) (sym grown) (All-push P xs x all one)

-- the item that is read with a default
item-read : {A : Type 0} (xs : List A) (i : ℕ) (d : A) → i < length xs → slice_index_or xs i d ≡ slice_index_or xs i (slice_index_or xs i d)
item-read [] i d lt = absurd (omega (arith, lt))
item-read (x ∷ xs) zero d lt = refl
item-read (x ∷ xs) (suc i) d lt = item-read xs i d (omega (arith, lt))

-- ---- a list of A, seen as B

module _ {A B : Type 0} (F : A → B) where
  one-more : (list new : List A) (p : A) (left rest whole : List B) → new ≡ list ++ p ∷ [] → left ≡ F p ∷ rest → map F list ++ left ≡ whole → map F new ++ rest ≡ whole
  one-more list new p left rest whole grown is h =
      ap (λ l. map F l ++ rest) grown ∙ ap (λ l. l ++ rest) (map-append F list (p ∷ [])) ∙ append_assoc (map F list) (F p ∷ []) rest ∙ ap (λ r. map F list ++ r) (sym is) ∙ h

  some-more : (list new : List A) (more left rest whole : List B) → map F new ≡ map F list ++ more → left ≡ more ++ rest → map F list ++ left ≡ whole → map F new ++ rest ≡ whole
  some-more list new more left rest whole grown is h = ap (λ l. l ++ rest) grown ∙ append_assoc (map F list) more rest ∙ ap (λ r. map F list ++ r) (sym is) ∙ h

  at-end : (list : List A) (left whole : List B) → left ≡ [] → map F list ++ left ≡ whole → map F list ≡ whole
  at-end list left whole none h = sym (append-nil (map F list)) ∙ ap (λ r. map F list ++ r) (sym none) ∙ h

  -- ---- from one bit to each

  module _ {C D : Type 0} (f : C → B) (g : D → C) (bit : ℕ → D) (xs : List ℕ) where
    pub from-step : (i d : ℕ) (list new : List A) (p : A) (whole : List B) → i < length xs → new ≡ list ++ p ∷ [] → F p ≡ f (g (bit (slice_index_or xs i d)))
        → map F list ++ map f (map g (map bit (drop i xs))) ≡ whole → map F new ++ map f (map g (map bit (drop (i + 1) xs))) ≡ whole
    from-step i d list new p whole lt grown is h =
        one-more list new p (map f (map g (map bit (drop i xs)))) (map f (map g (map bit (drop (i + 1) xs)))) whole grown
        (ap (λ ys. map f (map g (map bit ys))) (dropped xs i (slice_index_or xs i d) lt (item-read xs i d lt)) ∙ ap (λ b. b ∷ map f (map g (map bit (drop (i + 1) xs)))) (sym is)) h

  -- ---- from each bit to each

  module _ {C D : Type 0} (f : C → B) (g : List ℕ → D → List C) (bit : ℕ → D) (os outs ys xs : List ℕ) where
    pub full-step : (i d : ℕ) (list new : List A) (whole : List B) → os ≡ outs → ys ≡ xs → i < length ys → map F new ≡ map F list ++ map f (g os (bit (slice_index_or ys i d)))
        → map F list ++ map f (flat_map (g outs) (map bit (drop i xs))) ≡ whole → map F new ++ map f (flat_map (g outs) (map bit (drop (i + 1) xs))) ≡ whole
    full-step i d list new whole out same lt grown h =
        let x = slice_index_or ys i d in
        some-more list new (map f (g outs (bit x))) (map f (flat_map (g outs) (map bit (drop i xs)))) (map f (flat_map (g outs) (map bit (drop (i + 1) xs)))) whole
        (grown ∙ ap (λ zs. map F list ++ map f (g zs (bit x))) out)
        (ap (λ zs. map f (flat_map (g outs) (map bit (drop i zs)))) (sym same) ∙ ap (λ zs. map f (flat_map (g outs) (map bit zs))) (dropped ys i x lt (item-read ys i d lt))
        ∙ map-append f (g outs (bit x)) (flat_map (g outs) (map bit (drop (i + 1) ys))) ∙ ap (λ zs. map f (g outs (bit x)) ++ map f (flat_map (g outs) (map bit (drop (i + 1) zs)))) same)
        h

  -- ---- bit by bit

  zip-none : {C D : Type 0} (xs : List C) (ys : List D) → ys ≡ [] → zip xs ys ≡ []
  zip-none [] [] none = refl
  zip-none (x ∷ xs) [] none = refl
  zip-none [] (y ∷ ys) none = cc
  zip-none (x ∷ xs) (y ∷ ys) none = cc

  ordered : (a b : ℕ) → (a ≤ b) ⊎ (b ≤ a)
  ordered zero b = inl (omega arith)
  ordered (suc a) zero = inr (omega arith)
  ordered (suc a) (suc b) = elim (ordered a b) [ inl o ↦ inl (omega (arith, o)) | inr o ↦ inr (omega (arith, o)) ]

  module _ {D : Type 0} (f : D × D → B) (bit : ℕ → D) (xs ys : List ℕ) where
    pub pair-step : (i x y : ℕ) (list new : List A) (p : A) (whole : List B) → i < length xs → i < length ys → x ≡ slice_index_or xs i x → y ≡ slice_index_or ys i y → new ≡ list ++ p ∷ []
        → F p ≡ f (bit x, bit y) → map F list ++ map f (zip (map bit (drop i xs)) (map bit (drop i ys))) ≡ whole
        → map F new ++ map f (zip (map bit (drop (i + 1) xs)) (map bit (drop (i + 1) ys))) ≡ whole
    pair-step i x y list new p whole lt less at there grown is h =
        one-more list new p (map f (zip (map bit (drop i xs)) (map bit (drop i ys)))) (map f (zip (map bit (drop (i + 1) xs)) (map bit (drop (i + 1) ys)))) whole grown
        (ap (λ zs. map f (zip (map bit zs) (map bit (drop i ys)))) (dropped xs i x lt at) ∙ ap (λ zs. map f (zip (map bit (x ∷ drop (i + 1) xs)) (map bit zs))) (dropped ys i y less there)
        ∙ ap (λ b. b ∷ map f (zip (map bit (drop (i + 1) xs)) (map bit (drop (i + 1) ys)))) (sym is))
        h

    pair-end_left : (i : ℕ) (list : List A) (whole : List B) → length xs ≤ i → map F list ++ map f (zip (map bit (drop i xs)) (map bit (drop i ys))) ≡ whole → map F list ≡ whole
    pair-end_left i list whole le h =
        at-end list (map f (zip (map bit (drop i xs)) (map bit (drop i ys)))) whole (ap (λ zs. map f (zip (map bit zs) (map bit (drop i ys)))) (drop_all i xs le)) h

    pair-end_right : (i : ℕ) (list : List A) (whole : List B) → length ys ≤ i → map F list ++ map f (zip (map bit (drop i xs)) (map bit (drop i ys))) ≡ whole → map F list ≡ whole
    pair-end_right i list whole le h =
        at-end list (map f (zip (map bit (drop i xs)) (map bit (drop i ys)))) whole (ap (map f) (zip-none (map bit (drop i xs)) (map bit (drop i ys)) (ap (map bit) (drop_all i ys le)))) h

    -- the shorter is at its end
    pub pair-end : (i count : ℕ) (list : List A) (whole : List B) → (length xs ≤ length ys → count ≡ length xs) → (length ys ≤ length xs → count ≡ length ys) → count ≤ i
        → map F list ++ map f (zip (map bit (drop i xs)) (map bit (drop i ys))) ≡ whole → map F list ≡ whole
    pair-end i count list whole left right le h =
        elim (ordered (length xs) (length ys)) [
          | inl o ↦ pair-end_left i list whole (omega (arith, left o, le)) h
          | inr o ↦ pair-end_right i list whole (omega (arith, right o, le)) h
        ]

-- ---- those so far of a list that is seen by a view

module _ {A B C : Type 0} (view : A → B) (xs : List A) where
  pub map-taken : (f : B → C) (i : ℕ) (x : A) → i < length xs → x ≡ slice_index_or xs i x → map f (map view (take (i + 1) xs)) ≡ map f (map view (take i xs)) ++ f (view x) ∷ []
  map-taken f i x lt at = ap (λ ys. map f (map view ys)) (taken xs i x lt at) ∙ ap (map f) (map-append view (take i xs) (x ∷ [])) ∙ map-append f (map view (take i xs)) (view x ∷ [])

  pub flat-taken : (f : B → List C) (i : ℕ) (x : A) → i < length xs → x ≡ slice_index_or xs i x → flat_map f (map view (take (i + 1) xs)) ≡ flat_map f (map view (take i xs)) ++ f (view x)
  flat-taken f i x lt at =
      ap (λ ys. flat_map f (map view ys)) (taken xs i x lt at) ∙ ap (flat_map f) (map-append view (take i xs) (x ∷ [])) ∙ flat_map-append f (map view (take i xs)) (view x ∷ [])
      ∙ ap (λ l. flat_map f (map view (take i xs)) ++ l) (append-nil (f (view x)))

-- what a list has at a place of another, of which it is a view
pub at-view : {A B C : Type 0} (view : A → B) (f : B → C) (d : C) (xs : List A) (i : ℕ) (x : A) → i < length xs → x ≡ slice_index_or xs i x → slice_index_or (map f (map view xs)) i d ≡ f (view x)
at-view view f d [] i x lt at = absurd (omega (arith, lt))
at-view view f d (y ∷ ys) zero x lt at = ap (λ z. f (view z)) (sym at)
at-view view f d (y ∷ ys) (suc i) x lt at = at-view view f d ys i x (omega (arith, lt)) at
