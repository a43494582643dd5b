-- A table of all places, and what an entry makes of it.
use Rattle.std.specs.Prelude.{◌≡◌, refl, ℕ, ◌<◌, ◌&&◌, nat_lt, Bool, true, false, if◌then◌else◌, List, [], ◌∷◌, ◌++◌, length, map, slice_index_or}
use Rattle.std.specs.List.{filter}
use Rattle.std.proofs.Common.{ap, sym, ◌∙◌, subst, arith}
use Rattle.std.proofs.lemmas.List.{ext_get_or, get_or-map, length-map}
use Rattle.std.proofs.lemmas.Bool.Decides.{nat_tests}
use Rattle.annotation_model.specs.Given.{Given}
use Rattle.annotation_model.specs.Spots.{after}
use Rattle.annotation_model.specs.Listed.{IsListOf, written}
use Rattle.annotation_model.proofs.ListedLaws.{length-written, written-once, written-other}
use Rattle.annotation_model.proofs.AfterLaws.{after-yes, after-no}

pub is_below : (j n : ℕ) → j < n → nat_lt j n ≡ true
is_below j n l = grind (arith, nat_tests)

pub below_if : (j n : ℕ) → nat_lt j n ≡ true → j < n
below_if j n e = grind (arith, nat_tests)

module _ {X V : Type 0} (test : Given → X → Bool) (f : Given → X → V → V) (start : X → V) where
  -- the value of a place after the entries of a list
  abbrev pub value_after : List Given → X → V
  value_after gs x = after (λ g. f g x) (filter (λ g. test g x) gs) (start x)

  -- Going over the places that an entry is for, each once, makes the table of the entries with one more.
  pub table-more : (xs : List X) (gs : List Given) (g : Given) (ks : List ℕ) (d : X) (e : V)
      → IsListOf (λ k. nat_lt k (length xs) && test g (slice_index_or xs k d)) ks
      → written (λ k v. f g (slice_index_or xs k d) v) e ks (map (value_after gs) xs) ≡ map (value_after (gs ++ g ∷ [])) xs
  table-more xs gs g ks d e is = ext_get_or e _ _ lengths at
    where
      write : ℕ → V → V
      write k v = f g (slice_index_or xs k d) v

      lengths : length (written write e ks (map (value_after gs) xs)) ≡ length (map (value_after (gs ++ g ∷ [])) xs)
      lengths = length-written write e ks (map (value_after gs) xs) ∙ (length-map xs (value_after gs) ∙ sym (length-map xs (value_after (gs ++ g ∷ []))))

      old : (j : ℕ) → j < length xs → slice_index_or (map (value_after gs) xs) j e ≡ value_after gs (slice_index_or xs j d)
      old j l = get_or-map (value_after gs) xs j d e l

      new : (j : ℕ) → j < length xs → slice_index_or (map (value_after (gs ++ g ∷ [])) xs) j e ≡ value_after (gs ++ g ∷ []) (slice_index_or xs j d)
      new j l = get_or-map (value_after (gs ++ g ∷ [])) xs j d e l

      passes : (j : ℕ) → j < length xs → (b : Bool) → test g (slice_index_or xs j d) ≡ b → (nat_lt j (length xs) && test g (slice_index_or xs j d)) ≡ b
      passes j l b q = ap (λ a. a && test g (slice_index_or xs j d)) (is_below j (length xs) l) ∙ q

      case : (j : ℕ) → j < length xs → (b : Bool) → test g (slice_index_or xs j d) ≡ b
          → slice_index_or (written write e ks (map (value_after gs) xs)) j e ≡ value_after (gs ++ g ∷ []) (slice_index_or xs j d)
      case j l true q =
          written-once write e ks (map (value_after gs) xs) j e (subst (λ n. j < n) (sym (length-map xs (value_after gs))) l) (is.each j ∙ ap (λ b. if b then 1 else 0) (passes j l true q))
          ∙ (ap (write j) (old j l) ∙ sym (after-yes (λ h. test h (slice_index_or xs j d)) (λ h. f h (slice_index_or xs j d)) gs g (start (slice_index_or xs j d)) q))
      case j l false q =
          written-other write e ks (map (value_after gs) xs) j e (is.each j ∙ ap (λ b. if b then 1 else 0) (passes j l false q))
          ∙ (old j l ∙ sym (after-no (λ h. test h (slice_index_or xs j d)) (λ h. f h (slice_index_or xs j d)) gs g (start (slice_index_or xs j d)) q))

      at : (j : ℕ) → j < length (written write e ks (map (value_after gs) xs))
          → slice_index_or (written write e ks (map (value_after gs) xs)) j e ≡ slice_index_or (map (value_after (gs ++ g ∷ [])) xs) j e
      at j l = let m : j < length xs = subst (λ n. j < n) (length-written write e ks (map (value_after gs) xs) ∙ length-map xs (value_after gs)) l in
          case j m (test g (slice_index_or xs j d)) refl ∙ sym (new j m)
