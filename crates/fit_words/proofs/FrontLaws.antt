-- A list of words by its first one and the others.
use Rattle.std.proofs.Common.{◌≡◌, ℕ, suc, ◌-◌, ◌≤◌, List, [], ◌∷◌, take, drop, map, length, slice_index_or, refl, sym, ap, ◌∙◌, arith}
use Rattle.std.proofs.lemmas.List.{take_all}

first_and_rest : {A : Type 0} (xs : List A) (x : A) → 1 ≤ length xs → x ≡ slice_index_or xs 0 x → xs ≡ x ∷ drop 1 xs
first_and_rest [] x le e = absurd (omega arith)
first_and_rest (y ∷ xs) x le e = ap (λ z. z ∷ xs) (sym e)

rest_of : {A : Type 0} (xs : List A) → take (length xs - 1) (drop 1 xs) ≡ drop 1 xs
rest_of [] = refl
rest_of (x ∷ xs) = let n : suc (length xs) - 1 ≡ length xs = omega arith in ap (λ k. take k xs) n ∙ take_all (length xs) xs (omega arith)

pub front_words : {W : Type 0} (f : W → List ℕ) (words : List W) (word : W) (text : List ℕ) → 1 ≤ length words → word ≡ slice_index_or words 0 word → text ≡ f word → map f words ≡ text ∷ map f (take (length words - 1) (drop 1 words))
front_words f words word text some is spelled =
    ap (map f) (first_and_rest words word some is) ∙ ap (λ t. t ∷ map f (drop 1 words)) (sym spelled) ∙ ap (λ ws. text ∷ map f ws) (sym (rest_of words))
