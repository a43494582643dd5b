-- Lists that grow by what one element more adds.
use Rattle.std.specs.Prelude.{◌≡◌, ℕ, ◌+◌, ◌<◌, List, [], ◌∷◌, ◌++◌, length, map, take, flat_map, slice_index_or}
use Rattle.std.proofs.Common.{sym, ◌∙◌, ap}
use Rattle.std.proofs.lemmas.Grind.{flat_map-append}
use Rattle.std.proofs.lemmas.List.{append-nil, map_more, map-append, take_more}

pub maps-next : {A B C : Type 0} (f : A → C) (g : B → C) (xs ys : List A) (c : C) (zs : List B) (i : ℕ) (z : B) → i < length zs → map f ys ≡ map f xs ++ c ∷ [] → c ≡ g (slice_index_or zs i z)
    → map f xs ≡ map g (take i zs) → map f ys ≡ map g (take (i + 1) zs)
maps-next f g xs ys c zs i z lt e h k =
    e ∙ ap (λ ws. ws ++ c ∷ []) k ∙ ap (λ d. map g (take i zs) ++ d ∷ []) h ∙ sym (map_more g zs i z lt)

pub flat-more : {A B C : Type 0} (f : B → C) (g : A → List B) (xs : List A) (i : ℕ) (x : A) → i < length xs
    → map f (flat_map g (take (i + 1) xs)) ≡ map f (flat_map g (take i xs)) ++ map f (g (slice_index_or xs i x))
flat-more f g xs i x lt =
    let next = slice_index_or xs i x in
    ap (λ ws. map f (flat_map g ws)) (take_more xs i x lt) ∙ ap (map f) (flat_map-append g (take i xs) (next ∷ []) ∙ ap (λ ws. flat_map g (take i xs) ++ ws) (append-nil (g next)))
    ∙ map-append f (flat_map g (take i xs)) (g next)

pub flats-next : {A B C : Type 0} (f : B → C) (g : A → List B) (old new : List C) (xs : List A) (i : ℕ) (x : A) → i < length xs → new ≡ old ++ map f (g (slice_index_or xs i x))
    → old ≡ map f (flat_map g (take i xs)) → new ≡ map f (flat_map g (take (i + 1) xs))
flats-next f g old new xs i x lt e k = e ∙ ap (λ ws. ws ++ map f (g (slice_index_or xs i x))) k ∙ sym (flat-more f g xs i x lt)
