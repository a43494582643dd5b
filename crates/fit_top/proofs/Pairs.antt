-- Two lists side by side, as a loop walks them.
use Rattle.std.proofs.Common.{◌≡◌, ◌∙◌, sym, ap, refl, arith, ℕ, suc, ◌+◌, ◌<◌, List, [], ◌∷◌, ◌++◌, drop, drop-cons, get_or, length, length-append, map}
use Rattle.std.proofs.lemmas.List.{drop_all}
use Rattle.std.proofs.lemmas.Slice.Zip.{length-zip, get_or-zip}
use Rattle.std.specs.Borrow.{Bor}
use Rattle.std.specs.Prelude.{min, zip}

module _ {A B : Type 0} (ks : List A) (vs : List B) where
  at_pair : (i : ℕ) (x : A) (y : B) → i < length ks → i < length vs → x ≡ get_or ks i x → y ≡ get_or vs i y → drop i (zip ks vs) ≡ (x, y) ∷ drop (i + 1) (zip ks vs)
  at_pair i x y lt lu e g =
      let l : length (zip ks vs) ≡ min (length ks) (length vs) = length-zip ks vs in
      let below : i < length (zip ks vs) = omega arith in
      let next : suc i ≡ i + 1 = omega arith in
      let pair : get_or (zip ks vs) i (x, y) ≡ (x, y) = get_or-zip ks vs i (x, y) lt lu ∙ (λ j. (sym e j, sym g j)) in
      drop-cons (zip ks vs) i (x, y) below ∙ ap (λ p. p ∷ drop (suc i) (zip ks vs)) pair ∙ ap (λ k. (x, y) ∷ drop k (zip ks vs)) next

  -- one pair more
  pub pair_step : (xs : List (Bor A × Bor B)) (p : Bor A × Bor B)
      → (length xs < length ks) × (length xs < length vs) × ((d : A) → p.0.now ≡ get_or ks (length xs) d) × ((d : B) → p.1.now ≡ get_or vs (length xs) d)
      → drop (length xs) (zip ks vs) ≡ (p.0.now, p.1.now) ∷ drop (length (xs ++ p ∷ [])) (zip ks vs)
  pair_step xs p at =
      let n : length xs + 1 ≡ length (xs ++ p ∷ []) = sym (length-append xs (p ∷ [])) in
      at_pair (length xs) p.0.now p.1.now at.0 at.1 (at.2 p.0.now) (at.3 p.1.now) ∙ ap (λ j. (p.0.now, p.1.now) ∷ drop j (zip ks vs)) n

  -- and none behind the last
  pub pair_last : (xs : List (Bor A × Bor B)) → length xs ≡ min (length ks) (length vs) → drop (length xs) (zip ks vs) ≡ []
  pair_last xs e =
      let l : length (zip ks vs) ≡ min (length ks) (length vs) = length-zip ks vs in
      drop_all (length xs) (zip ks vs) (omega arith)

-- both seen otherwise
pub zip_seen : {A B C D : Type 0} (f : A → C) (g : B → D) (ks : List A) (vs : List B) → zip (map f ks) (map g vs) ≡ map (λ p. (f p.0, g p.1)) (zip ks vs)
zip_seen f g [] vs = refl
zip_seen f g (k ∷ ks) [] = refl
zip_seen f g (k ∷ ks) (v ∷ vs) = ap (λ l. (f k, g v) ∷ l) (zip_seen f g ks vs)
