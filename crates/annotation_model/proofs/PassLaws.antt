-- A pass over places that stand once in their list sees each as it was.
use Rattle.std.specs.Prelude.{◌≡◌, refl, ℕ, ◌+◌, ◌<◌, ◌≤◌, ◌==◌, ◌||◌, Bool, true, false, if◌then◌else◌, List, [], ◌∷◌, length, drop, slice_index_or, slice_set}
use Rattle.std.specs.List.{list_any}
use Rattle.std.proofs.Common.{ap, ◌∙◌, subst, arith}
use Rattle.std.proofs.lemmas.List.{get_or-set_other, drop_more}
use Rattle.annotation_model.specs.Listed.{occurrences, IsListOf, written}
use Rattle.annotation_model.specs.Passes.{meets_large}
use Rattle.annotation_model.proofs.ListedLaws.{occurs_here, stands_here, stands_later}

pub any_alike : (p q : ℕ → Bool) (ks : List ℕ) → ((j : ℕ) → 0 < occurrences j ks → p j ≡ q j) → list_any p ks ≡ list_any q ks
any_alike p q [] h = refl
any_alike p q (x ∷ ks) h = ap (λ b. b || list_any p ks) (h x (stands_here x ks)) ∙ ap (λ b. q x || b) (any_alike p q ks (λ j l. h j (stands_later j x ks l)))

pub meets_once : {A : Type 0} (large : ℕ → A → Bool) (f : ℕ → A → A) (d : A) (ks : List ℕ) (xs : List A) → ((j : ℕ) → occurrences j ks ≤ 1)
    → meets_large large f d ks xs ≡ list_any (λ k. large k (slice_index_or xs k d)) ks
meets_once large f d [] xs once = refl
meets_once {A} large f d (k ∷ ks) xs once =
    ap (λ b. large k (slice_index_or xs k d) || b) (meets_once large f d ks new fewer ∙ any_alike (λ j. large j (slice_index_or new j d)) (λ j. large j (slice_index_or xs j d)) ks same)
  where
    new : List A
    new = slice_set xs k (f k (slice_index_or xs k d))

    fewer : (j : ℕ) → occurrences j ks ≤ 1
    fewer j = let g : (n a : ℕ) → n + a ≤ 1 → a ≤ 1 = (λ n a h. omega arith) in g (if k == j then 1 else 0) (occurrences j ks) (once j)

    gone : occurrences k ks ≡ 0
    gone = let e : occurrences k (k ∷ ks) ≡ occurrences k ks + 1 = occurs_here k k ks refl in omega (arith, e, once k)

    same : (j : ℕ) → 0 < occurrences j ks → large j (slice_index_or new j d) ≡ large j (slice_index_or xs j d)
    same j l = ap (large j) (get_or-set_other xs k j (f k (slice_index_or xs k d)) d (λ e. absurd (let h : 0 < occurrences k ks = subst (λ n. 0 < occurrences n ks) e l in omega (arith, gone))))

once_listed : (b : Bool) (n : ℕ) → n ≡ (if b then 1 else 0) → n ≤ 1
once_listed true n e = omega (arith, e)
once_listed false n e = omega (arith, e)

pub listed_once : (test : ℕ → Bool) (ks : List ℕ) → IsListOf test ks → (j : ℕ) → occurrences j ks ≤ 1
listed_once test ks is j = once_listed (test j) (occurrences j ks) (is.each j)

-- ---- a loop that goes over the list: what is left completes the pass

pub meets_step : {A : Type 0} (large : ℕ → A → Bool) (f : ℕ → A → A) (d : A) (ks : List ℕ) (i blank : ℕ) (xs : List A) → i < length ks
    → meets_large large f d (drop i ks) xs
    ≡ (large (slice_index_or ks i blank) (slice_index_or xs (slice_index_or ks i blank) d)
    || meets_large large f d (drop (i + 1) ks) (slice_set xs (slice_index_or ks i blank) (f (slice_index_or ks i blank) (slice_index_or xs (slice_index_or ks i blank) d))))
meets_step large f d ks i blank xs l = ap (λ js. meets_large large f d js xs) (drop_more ks i blank l)

pub writes_step : {A : Type 0} (f : ℕ → A → A) (d : A) (ks : List ℕ) (i blank : ℕ) (xs : List A) → i < length ks
    → written f d (drop i ks) xs ≡ written f d (drop (i + 1) ks) (slice_set xs (slice_index_or ks i blank) (f (slice_index_or ks i blank) (slice_index_or xs (slice_index_or ks i blank) d)))
writes_step f d ks i blank xs l = ap (λ js. written f d js xs) (drop_more ks i blank l)
