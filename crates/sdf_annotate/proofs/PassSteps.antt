-- A loop over places: what is left of them completes the pass.
use Rattle.std.specs.Prelude.{◌≡◌, refl, ℕ, suc, zero, ◌+◌, ◌<◌, ◌≤◌, ◌||◌, Bool, true, false, List, [], ◌∷◌, length, drop, slice_index_or, slice_set}
use Rattle.std.proofs.Common.{ap, sym, ◌∙◌}
use Rattle.std.proofs.lemmas.List.{drop_all}
use Rattle.annotation_model.specs.Listed.{occurrences, written}
use Rattle.annotation_model.specs.Passes.{meets_large}
use Rattle.annotation_model.proofs.ListedLaws.{stands_here, stands_later}
use Rattle.annotation_model.proofs.PassLaws.{meets_step, writes_step}

pub record Left {A : Type 0} (large : ℕ → A → Bool) (write : ℕ → A → A) (d : A) (ks : List ℕ) (old : List A) (i : ℕ) (now : List A) : Type 0 where
  pub meets : meets_large large write d (drop i ks) now ≡ meets_large large write d ks old
  pub writes : written write d (drop i ks) now ≡ written write d ks old

module _ {A : Type 0} (large : ℕ → A → Bool) (write : ℕ → A → A) (d : A) (ks : List ℕ) (old : List A) where
  pub left_first : Left large write d ks old 0 old
  left_first = record { meets = refl; writes = refl }

  pub left_more : (i blank : ℕ) (now new : List A) → i < length ks
      → large (slice_index_or ks i blank) (slice_index_or now (slice_index_or ks i blank) d) ≡ false
      → new ≡ slice_set now (slice_index_or ks i blank) (write (slice_index_or ks i blank) (slice_index_or now (slice_index_or ks i blank) d))
      → Left large write d ks old i now → Left large write d ks old (i + 1) new
  left_more i blank now new l small n left = record {
    meets = ap (λ xs. meets_large large write d (drop (i + 1) ks) xs) n ∙ (sym here ∙ left.meets);
    writes = ap (λ xs. written write d (drop (i + 1) ks) xs) n ∙ (sym (writes_step write d ks i blank now l) ∙ left.writes);
  }
    where
      k : ℕ
      k = slice_index_or ks i blank

      after : List A
      after = slice_set now k (write k (slice_index_or now k d))

      here : meets_large large write d (drop i ks) now ≡ meets_large large write d (drop (i + 1) ks) after
      here = meets_step large write d ks i blank now l ∙ ap (λ b. b || meets_large large write d (drop (i + 1) ks) after) small

  pub left_large : (i blank : ℕ) (now : List A) → i < length ks
      → large (slice_index_or ks i blank) (slice_index_or now (slice_index_or ks i blank) d) ≡ true
      → Left large write d ks old i now → meets_large large write d ks old ≡ true
  left_large i blank now l big left =
      sym left.meets ∙ (meets_step large write d ks i blank now l
      ∙ ap (λ b. b || meets_large large write d (drop (i + 1) ks) (slice_set now k (write k (slice_index_or now k d)))) big)
    where
      k : ℕ
      k = slice_index_or ks i blank

  pub left_small : (i : ℕ) (now : List A) → length ks ≤ i → Left large write d ks old i now → meets_large large write d ks old ≡ false
  left_small i now l left = sym left.meets ∙ ap (λ js. meets_large large write d js now) (drop_all i ks l)

  pub left_whole : (i : ℕ) (now : List A) → length ks ≤ i → Left large write d ks old i now → now ≡ written write d ks old
  left_whole i now l left = ap (λ js. written write d js now) (sym (drop_all i ks l)) ∙ left.writes

-- ---- passes that do the same at the places of their list

pub writes_listed : {A : Type 0} (f g : ℕ → A → A) (d : A) (ks : List ℕ) (xs : List A) → ((k : ℕ) → 0 < occurrences k ks → (v : A) → f k v ≡ g k v) → written f d ks xs ≡ written g d ks xs
writes_listed f g d [] xs h = refl
writes_listed f g d (k ∷ ks) xs h =
    ap (λ v. written f d ks (slice_set xs k v)) (h k (stands_here k ks) (slice_index_or xs k d))
    ∙ writes_listed f g d ks (slice_set xs k (g k (slice_index_or xs k d))) (λ j l. h j (stands_later j k ks l))

pub meets_listed : {A : Type 0} (p q : ℕ → A → Bool) (f g : ℕ → A → A) (d : A) (ks : List ℕ) (xs : List A)
    → ((k : ℕ) → 0 < occurrences k ks → (v : A) → p k v ≡ q k v) → ((k : ℕ) → 0 < occurrences k ks → (v : A) → f k v ≡ g k v)
    → meets_large p f d ks xs ≡ meets_large q g d ks xs
meets_listed p q f g d [] xs h e = refl
meets_listed p q f g d (k ∷ ks) xs h e =
    ap (λ b. b || meets_large p f d ks (slice_set xs k (f k (slice_index_or xs k d)))) (h k (stands_here k ks) (slice_index_or xs k d))
    ∙ ap (λ b. q k (slice_index_or xs k d) || b)
    (ap (λ v. meets_large p f d ks (slice_set xs k v)) (e k (stands_here k ks) (slice_index_or xs k d))
    ∙ meets_listed p q f g d ks (slice_set xs k (g k (slice_index_or xs k d))) (λ j l. h j (stands_later j k ks l)) (λ j l. e j (stands_later j k ks l)))

-- ---- a pass that changes nothing

set_back : {A : Type 0} (xs : List A) (k : ℕ) (d : A) → slice_set xs k (slice_index_or xs k d) ≡ xs
set_back [] k d = refl
set_back (x ∷ xs) zero d = refl
set_back (x ∷ xs) (suc k) d = ap (λ ys. x ∷ ys) (set_back xs k d)

pub nothing_written : {A : Type 0} (d : A) (ks : List ℕ) (xs : List A) → written (λ k v. v) d ks xs ≡ xs
nothing_written d [] xs = refl
nothing_written d (k ∷ ks) xs = ap (λ ys. written (λ j v. v) d ks ys) (set_back xs k d) ∙ nothing_written d ks xs

pub nothing_large : {A : Type 0} (write : ℕ → A → A) (d : A) (ks : List ℕ) (xs : List A) → meets_large (λ k v. false) write d ks xs ≡ false
nothing_large write d [] xs = refl
nothing_large write d (k ∷ ks) xs = nothing_large write d ks (slice_set xs k (write k (slice_index_or xs k d)))
