-- A test of some of a list's places, by the list of those that pass another.
use Rattle.std.specs.Prelude.{◌≡◌, refl, ℕ, zero, suc, ◌<◌, ◌&&◌, ◌||◌, nat_lt, Bool, true, false, if◌then◌else◌, List, [], ◌∷◌, length, slice_index_or}
use Rattle.std.specs.List.{list_any}
use Rattle.std.proofs.Common.{ap, sym, ◌∙◌, subst, arith, inl, inr}
use Rattle.std.proofs.lemmas.Bool.{cases_eq, and_from, or_parts, or_right, and_parts}
use Rattle.annotation_model.specs.Listed.{occurrences, IsListOf}
use Rattle.annotation_model.proofs.ListedLaws.{occurs_later, stands_here, stands_later}
use Rattle.annotation_model.proofs.TableLaws.{is_below, below_if}

pub and-off : (a b : Bool) → a ≡ true → (a && b) ≡ false → b ≡ false
and-off a b e f = sym (ap (λ c. c && b) e) ∙ f

-- what occurs passes the test
pub counted : (b : Bool) (n : ℕ) → n ≡ (if b then 1 else 0) → 0 < n → b ≡ true
counted true n e l = refl
counted false n e l = absurd (omega (arith, e, l))

any_here : (q : ℕ → Bool) (k : ℕ) (ks : List ℕ) → 0 < occurrences k ks → q k ≡ true → list_any q ks ≡ true
any_here q k [] l e = absurd (omega arith)
any_here q k (x ∷ ks) l e = elim (cases_eq x k) [
  | inl same ↦ ap (λ b. b || list_any q ks) (ap q same ∙ e)
  | inr other ↦ (let m : 0 < occurrences k ks = subst (λ n. 0 < n) (occurs_later x k ks other) l in
      or_right (q x) (list_any q ks) (any_here q k ks m e))
]

none_here : (q : ℕ → Bool) (ks : List ℕ) → ((k : ℕ) → 0 < occurrences k ks → q k ≡ false) → list_any q ks ≡ false
none_here q [] h = refl
none_here q (x ∷ ks) h = ap (λ b. b || list_any q ks) (h x (stands_here x ks)) ∙ none_here q ks (λ k l. h k (stands_later k x ks l))

module _ {X : Type 0} where
  -- a place at which a test passes
  pub passes_at : (q : X → Bool) (xs : List X) (d : X) → list_any q xs ≡ true → (j : ℕ) × (j < length xs) × (q (slice_index_or xs j d) ≡ true)
  passes_at q [] d e = absurd cc
  passes_at q (x ∷ xs) d e = by (q x) refl e (λ h. passes_at q xs d h)
    where
      by : (b : Bool) → q x ≡ b → (b || list_any q xs) ≡ true → (list_any q xs ≡ true → (j : ℕ) × (j < length xs) × (q (slice_index_or xs j d) ≡ true))
          → (j : ℕ) × (j < length (x ∷ xs)) × (q (slice_index_or (x ∷ xs) j d) ≡ true)
      by true p h rec = (0, omega arith, p)
      by false p h rec = let r = rec h in (suc r.0, omega (arith, r.1), r.2)

  pub fails_at : (q : X → Bool) (xs : List X) (d : X) (k : ℕ) → list_any q xs ≡ false → k < length xs → q (slice_index_or xs k d) ≡ false
  fails_at q [] d k e l = absurd (omega arith)
  fails_at q (x ∷ xs) d zero e l = (or_parts (q x) (list_any q xs) e).0
  fails_at q (x ∷ xs) d (suc k) e l = fails_at q xs d k (or_parts (q x) (list_any q xs) e).1 (omega arith)

  -- Where a list has the places that pass one test, another passes at one of them exactly where both pass at some place.
  pub any_listed : (p q : X → Bool) (xs : List X) (d : X) (ks : List ℕ) → IsListOf (λ k. nat_lt k (length xs) && p (slice_index_or xs k d)) ks
      → list_any (λ k. q (slice_index_or xs k d)) ks ≡ list_any (λ x. p x && q x) xs
  any_listed p q xs d ks is = by (list_any (λ x. p x && q x) xs) refl
    where
      test : ℕ → Bool
      test k = nat_lt k (length xs) && p (slice_index_or xs k d)

      by : (b : Bool) → list_any (λ x. p x && q x) xs ≡ b → list_any (λ k. q (slice_index_or xs k d)) ks ≡ b
      by true e =
          let f = passes_at (λ x. p x && q x) xs d e in
          let x : X = slice_index_or xs f.0 d in
          let t : test f.0 ≡ true = and_from (nat_lt f.0 (length xs)) (p x) (is_below f.0 (length xs) f.1) (and_parts (p x) (q x) f.2).0 in
          let n : occurrences f.0 ks ≡ 1 = is.each f.0 ∙ ap (λ b. if b then 1 else 0) t in
          any_here (λ k. q (slice_index_or xs k d)) f.0 ks (omega (arith, n)) (and_parts (p x) (q x) f.2).1
      by false e = none_here (λ k. q (slice_index_or xs k d)) ks none
        where
          none : (k : ℕ) → 0 < occurrences k ks → q (slice_index_or xs k d) ≡ false
          none k l =
              let t : test k ≡ true = counted (test k) (occurrences k ks) (is.each k) l in
              let x : X = slice_index_or xs k d in
              and-off (p x) (q x) (and_parts (nat_lt k (length xs)) (p x) t).1 (fails_at (λ y. p y && q y) xs d k e (below_if k (length xs) (and_parts (nat_lt k (length xs)) (p x) t).0))
