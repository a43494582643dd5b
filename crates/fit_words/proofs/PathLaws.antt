-- Lists of texts that are distinct, and paths of the same parts.
use Rattle.std.proofs.Common.{◌≡◌, ◌∙◌, sym, ap, refl, arith, ℕ, suc, ◌-◌, ◌≤◌, ◌||◌, ◌&&◌, not, true, false, Bor, List, [], ◌∷◌, drop, length, map, slice_index_or, take}
use Rattle.std.proofs.lemmas.List.{take_all}
use Rattle.std.specs.Cmp.Lexicographic.{pointwise}
use Rattle.std.specs.Cmp.Derive.Mapped.{pointwise-map}
use Rattle.std.specs.List.{list_any}
use Rattle.std.specs.Str.{bytes_eq}
use Rattle.fit_words.specs.Paths.{are_distinct}

any_now : (text : List ℕ) (texts : List (Bor (List ℕ))) → list_any (λ (t : Bor (List ℕ)). bytes_eq t.now text) texts ≡ list_any (λ t. bytes_eq t text) (map (λ t. t.now) texts)
any_now text [] = refl
any_now text (t ∷ ts) = ap (λ b. bytes_eq t.now text || b) (any_now text ts)

rest_of : {A : Type 0} (x : A) (xs : List A) → take (length (x ∷ xs) - 1) (drop 1 (x ∷ xs)) ≡ xs
rest_of x xs = let n : suc (length xs) - 1 ≡ length xs = omega arith in ap (λ k. take k xs) n ∙ take_all (length xs) xs (omega arith)

-- the first one comes again
pub comes_again : (left : List (Bor (List ℕ))) (d : Bor (List ℕ)) → 1 ≤ length left
    → list_any (λ (t : Bor (List ℕ)). bytes_eq t.now (slice_index_or left 0 d).now) (take (length left - 1) (drop 1 left)) ≡ true → false ≡ are_distinct (map (λ t. t.now) left)
comes_again [] d some e = absurd (omega arith)
comes_again (x ∷ xs) d some e =
    let found : list_any (λ t. bytes_eq t x.now) (map (λ t. t.now) xs) ≡ true =
    sym (any_now x.now xs) ∙ sym (ap (list_any (λ (t : Bor (List ℕ)). bytes_eq t.now x.now)) (rest_of x xs)) ∙ e in
    sym (ap (λ b. not b && are_distinct (map (λ (t : Bor (List ℕ)). t.now) xs)) found)

-- or it doesn't
pub comes_once : (left : List (Bor (List ℕ))) (d : Bor (List ℕ)) → 1 ≤ length left
    → list_any (λ (t : Bor (List ℕ)). bytes_eq t.now (slice_index_or left 0 d).now) (take (length left - 1) (drop 1 left)) ≡ false
    → are_distinct (map (λ t. t.now) (take (length left - 1) (drop 1 left))) ≡ are_distinct (map (λ t. t.now) left)
comes_once [] d some e = absurd (omega arith)
comes_once (x ∷ xs) d some e =
    let found : list_any (λ t. bytes_eq t x.now) (map (λ t. t.now) xs) ≡ false =
    sym (any_now x.now xs) ∙ sym (ap (list_any (λ (t : Bor (List ℕ)). bytes_eq t.now x.now)) (rest_of x xs)) ∙ e in
    ap (λ (ts : List (Bor (List ℕ))). are_distinct (map (λ t. t.now) ts)) (rest_of x xs) ∙ sym (ap (λ b. not b && are_distinct (map (λ (t : Bor (List ℕ)). t.now) xs)) found)

pub same_parts : (one other : List (Bor (List ℕ))) (a b : List (List ℕ)) → map (λ n. n.now) one ≡ a → map (λ n. n.now) other ≡ b → pointwise (λ (x y : Bor (List ℕ)). bytes_eq x.now y.now) one other ≡ pointwise bytes_eq a b
same_parts one other a b e f = sym (pointwise-map (λ (n : Bor (List ℕ)). n.now) bytes_eq one other) ∙ ap (λ l. pointwise bytes_eq l (map (λ (n : Bor (List ℕ)). n.now) other)) e ∙ ap (pointwise bytes_eq a) f
