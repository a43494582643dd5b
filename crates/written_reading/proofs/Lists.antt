-- What holds of the parts of lists that are joined, filtered and put in order.
use Rattle.std.specs.Prelude.{◌≡◌, ℕ, ◌==◌, Bool, true, false, List, [], ◌∷◌, ◌++◌, map, flat_map, cond}
use Rattle.std.specs.List.{AllByRecursion, filter, list_any}
use Rattle.std.proofs.lemmas.Bool.{or_parts}
use Rattle.written_model.specs.Entries.{by_rank}

module _ {A : Type 0} (P : A → Type 0) where
  pub all_append : (xs ys : List A) → AllByRecursion P xs → AllByRecursion P ys → AllByRecursion P (xs ++ ys)
  all_append [] ys h k = k
  all_append (x ∷ xs) ys h k = (h.0, all_append xs ys h.1 k)

  pub all_front : (xs ys : List A) → AllByRecursion P (xs ++ ys) → AllByRecursion P xs
  all_front [] ys h = tt
  all_front (x ∷ xs) ys h = (h.0, all_front xs ys h.1)

  pub all_back : (xs ys : List A) → AllByRecursion P (xs ++ ys) → AllByRecursion P ys
  all_back [] ys h = h
  all_back (x ∷ xs) ys h = all_back xs ys h.1

  pub all_flat : {B : Type 0} (f : B → List A) (bs : List B) → AllByRecursion (λ b. AllByRecursion P (f b)) bs → AllByRecursion P (flat_map f bs)
  all_flat f [] h = tt
  all_flat f (b ∷ bs) h = all_append (f b) (flat_map f bs) h.0 (all_flat f bs h.1)

  pub all_pieces : {B : Type 0} (f : B → List A) (bs : List B) → AllByRecursion P (flat_map f bs) → AllByRecursion (λ b. AllByRecursion P (f b)) bs
  all_pieces f [] h = tt
  all_pieces f (b ∷ bs) h = (all_front (f b) (flat_map f bs) h, all_pieces f bs (all_back (f b) (flat_map f bs) h))

  pub all_map : {B : Type 0} (f : B → A) (bs : List B) → AllByRecursion (λ b. P (f b)) bs → AllByRecursion P (map f bs)
  all_map f [] h = tt
  all_map f (b ∷ bs) h = (h.0, all_map f bs h.1)

  pub all_mapped : {B : Type 0} (f : B → A) (bs : List B) → AllByRecursion P (map f bs) → AllByRecursion (λ b. P (f b)) bs
  all_mapped f [] h = tt
  all_mapped f (b ∷ bs) h = (h.0, all_mapped f bs h.1)

  pub all_filter : (p : A → Bool) (xs : List A) → AllByRecursion P xs → AllByRecursion P (filter p xs)
  all_filter p [] h = tt
  all_filter p (x ∷ xs) h = by (p x) (all_filter p xs h.1)
    where
      by : (b : Bool) → AllByRecursion P (filter p xs) → AllByRecursion P (cond b (x ∷ filter p xs) (filter p xs))
      by true rest = (h.0, rest)
      by false rest = rest

  pub all_by_rank : (rank : A → ℕ) (xs : List A) → AllByRecursion P xs → AllByRecursion P (by_rank rank xs)
  all_by_rank rank xs h = all_flat (λ n. filter (λ x. rank x == n) xs) (0 ∷ 1 ∷ 2 ∷ 3 ∷ 4 ∷ []) (each 0, (each 1, (each 2, (each 3, (each 4, tt)))))
    where
      each : (n : ℕ) → AllByRecursion P (filter (λ x. rank x == n) xs)
      each n = all_filter (λ x. rank x == n) xs h

  pub all_with : (Q R : A → Type 0) → ((x : A) → P x → Q x → R x) → (xs : List A) → AllByRecursion P xs → AllByRecursion Q xs → AllByRecursion R xs
  all_with Q R f [] h k = tt
  all_with Q R f (x ∷ xs) h k = (f x h.0 k.0, all_with Q R f xs h.1 k.1)

-- ---- tests that no element passes

pub none_passes : {A : Type 0} (p : A → Bool) (xs : List A) → list_any p xs ≡ false → AllByRecursion (λ x. p x ≡ false) xs
none_passes p [] e = tt
none_passes p (x ∷ xs) e = let h = or_parts (p x) (list_any p xs) e in (h.0, none_passes p xs h.1)
