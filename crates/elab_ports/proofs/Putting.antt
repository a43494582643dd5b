-- Elements of a list that others take the place of.
use Rattle.std.specs.Prelude.{◌≡◌, ℕ, suc, ◌+◌, ◌<◌, ◌≤◌, List, [], ◌∷◌, ◌++◌, Option, Some, None, length, map, take, drop, refl, slice_get}
use Rattle.std.specs.List.{range_with_len, take-map, drop-map}
use Rattle.std.proofs.Common.{sym, ◌∙◌, ap, arith, append_assoc, drop-cons, length-append, set, get_or, add-zero}
use Rattle.std.proofs.Math.Seq.{take-append_seam, drop-append_seam, drop-append-add, set-append_seam}
use Rattle.std.proofs.lemmas.List.{map-append, length-map, length-take-le, length-drop, take_more}
use Rattle.elab_ports.specs.Binding.{put}

-- in the midst of a list
pub put-seam : {A : Type 0} (xs vs zs ys : List A) → length ys ≡ length vs → put (length xs) ys (xs ++ (vs ++ zs)) ≡ xs ++ (ys ++ zs)
put-seam xs vs zs ys e =
    ap (λ front. front ++ (ys ++ drop (length xs + length ys) (xs ++ (vs ++ zs)))) (take-append_seam xs (vs ++ zs))
    ∙ ap (λ rest. xs ++ (ys ++ rest)) (drop-append-add xs (vs ++ zs) (length ys) ∙ ap (λ n. drop n (vs ++ zs)) e ∙ drop-append_seam vs zs)

-- one element more
pub put-more : {A : Type 0} (start k : ℕ) (x d : A) (ys xs : List A) → length ys ≡ k → start + k < length xs → set (put start ys xs) (start + k) x ≡ put start (ys ++ x ∷ []) xs
put-more start k x d ys xs e lt =
    let whole : put start ys xs ≡ (take start xs ++ ys) ++ get_or xs (start + k) d ∷ drop (suc (start + k)) xs =
    ap (λ n. take start xs ++ (ys ++ drop (start + n) xs)) e ∙ ap (λ zs. take start xs ++ (ys ++ zs)) (drop-cons xs (start + k) d lt)
    ∙ sym (append_assoc (take start xs) ys (get_or xs (start + k) d ∷ drop (suc (start + k)) xs)) in
    let t : length (take start xs) ≡ start = length-take-le start xs (omega arith) in
    let n : length (take start xs ++ ys) ≡ start + k = length-append (take start xs) ys ∙ ap (λ j. j + length ys) t ∙ ap (λ j. start + j) e in
    let m : start + length (ys ++ x ∷ []) ≡ suc (start + k) = ap (λ j. start + j) (length-append ys (x ∷ [])) ∙ omega arith in
    ap (λ zs. set zs (start + k) x) whole
    ∙ ap (λ j. set ((take start xs ++ ys) ++ get_or xs (start + k) d ∷ drop (suc (start + k)) xs) j x) (sym n)
    ∙ set-append_seam (take start xs ++ ys) (get_or xs (start + k) d) (drop (suc (start + k)) xs) x
    ∙ append_assoc (take start xs) ys (x ∷ drop (suc (start + k)) xs)
    ∙ ap (λ zs. take start xs ++ zs) (sym (append_assoc ys (x ∷ []) (drop (suc (start + k)) xs)))
    ∙ ap (λ j. take start xs ++ ((ys ++ x ∷ []) ++ drop j xs)) (sym m)

pub map-put : {A B : Type 0} (f : A → B) (start : ℕ) (ys xs : List A) → map f (put start ys xs) ≡ put start (map f ys) (map f xs)
map-put f start ys xs =
    map-append f (take start xs) (ys ++ drop (start + length ys) xs)
    ∙ ap (λ zs. map f (take start xs) ++ zs) (map-append f ys (drop (start + length ys) xs))
    ∙ ap (λ zs. zs ++ (map f ys ++ map f (drop (start + length ys) xs))) (sym (take-map f start xs))
    ∙ ap (λ zs. take start (map f xs) ++ (map f ys ++ zs)) (sym (drop-map f (start + length ys) xs) ∙ ap (λ n. drop (start + n) (map f xs)) (sym (length-map ys f)))

pub length-put : {A : Type 0} (start : ℕ) (ys xs : List A) → start + length ys ≤ length xs → length (put start ys xs) ≡ length xs
length-put start ys xs h =
    let t : length (take start xs) ≡ start = length-take-le start xs (omega arith) in
    length-append (take start xs) (ys ++ drop (start + length ys) xs) ∙ ap (λ j. j + length (ys ++ drop (start + length ys) xs)) t
    ∙ ap (λ j. start + j) (length-append ys (drop (start + length ys) xs) ∙ ap (λ j. length ys + j) (length-drop (start + length ys) xs)) ∙ omega arith

-- a function of the place, over the places of a list
pub by-places : {A B : Type 0} (f : ℕ → B) (g : A → B) (a : ℕ) (xs : List A) → ((j : ℕ) (x : A) → slice_get xs j ≡ Some x → f (a + j) ≡ g x) → map f (range_with_len a (length xs)) ≡ map g xs
by-places f g a [] h = refl
by-places f g a (x ∷ xs) h =
    let e : f a ≡ g x = ap f (sym (add-zero a)) ∙ h 0 x refl in
    rw e (ap (λ ys. g x ∷ ys) (by-places f g (a + 1) xs (λ j y k. let s : (a + 1) + j ≡ a + suc j = omega arith in ap f s ∙ h (suc j) y k)))

pub put-next : {A : Type 0} (start k : ℕ) (d : A) (bs : List A) (row old : List (Option A)) → k < length bs → start + length bs ≤ length old → row ≡ put start (map Some (take k bs)) old
    → set row (start + k) (Some (get_or bs k d)) ≡ put start (map Some (take (k + 1) bs)) old
put-next start k d bs row old lt le e =
    let n : length (map Some (take k bs)) ≡ k = length-map (take k bs) Some ∙ length-take-le k bs (omega arith) in
    ap (λ xs. set xs (start + k) (Some (get_or bs k d))) e
    ∙ put-more start k (Some (get_or bs k d)) None (map Some (take k bs)) old n (omega arith)
    ∙ ap (λ ys. put start ys old) (sym (ap (map Some) (take_more bs k d lt) ∙ map-append Some (take k bs) (get_or bs k d ∷ [])))
