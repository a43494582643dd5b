-- One value of a list more.
use Rattle.std.specs.Prelude.{◌≡◌, refl, ℕ, zero, suc, ◌+◌, ◌<◌, ◌||◌, Bool, true, false, Option, List, [], ◌∷◌, length, take, slice_index_or, slice_set}
use Rattle.std.proofs.Common.{ap, sym, ◌∙◌, arith}
use Rattle.std.proofs.Math.Bool.{or-false, or_assoc}
use Rattle.sg_delay.specs.declared.limits.Limit.{Limit}
use Rattle.sg_circuit.specs.Timings.{Timing}
use Rattle.sg_circuit.specs.TimingsSeen.{timings_of}
use Rattle.annotation_model.specs.Applied.{Change, changed, is_change_large, changed_each, is_each_large}

module _ (increment : Bool) where
  -- what comes later stands as it was
  pub each_at : (cs : List (Option Change)) (ts : List Timing) (i : ℕ) (t : Timing) → slice_index_or (changed_each increment (take i cs) ts) i t ≡ slice_index_or ts i t
  each_at cs ts zero t = refl
  each_at [] ts (suc i) t = refl
  each_at (c ∷ cs) [] (suc i) t = refl
  each_at (c ∷ cs) (x ∷ ts) (suc i) t = each_at cs ts i t

  pub each_more : (cs : List (Option Change)) (ts : List Timing) (i : ℕ) (d : Option Change) (t : Timing) → i < length cs → i < length ts
      → changed_each increment (take (suc i) cs) ts ≡ slice_set (changed_each increment (take i cs) ts) i (changed increment (slice_index_or cs i d) (slice_index_or ts i t))
  each_more [] ts i d t l m = absurd (omega arith)
  each_more (c ∷ cs) [] i d t l m = absurd (omega arith)
  each_more (c ∷ cs) (x ∷ ts) zero d t l m = refl
  each_more (c ∷ cs) (x ∷ ts) (suc i) d t l m = ap (λ ys. changed increment c x ∷ ys) (each_more cs ts i d t (omega arith) (omega arith))

  pub large_more : (cs : List (Option Change)) (ts : List Timing) (i : ℕ) (d : Option Change) (t : Timing) → i < length cs → i < length ts
      → is_each_large increment (take (suc i) cs) ts ≡ (is_each_large increment (take i cs) ts || is_change_large increment (slice_index_or cs i d) (slice_index_or ts i t))
  large_more [] ts i d t l m = absurd (omega arith)
  large_more (c ∷ cs) [] i d t l m = absurd (omega arith)
  large_more (c ∷ cs) (x ∷ ts) zero d t l m = or-false (is_change_large increment c x)
  large_more (c ∷ cs) (x ∷ ts) (suc i) d t l m =
      ap (λ b. is_change_large increment c x || b) (large_more cs ts i d t (omega arith) (omega arith))
      ∙ sym (or_assoc (is_change_large increment c x) (is_each_large increment (take i cs) ts) (is_change_large increment (slice_index_or cs i d) (slice_index_or ts i t)))

  pub large_front : (cs : List (Option Change)) (ts : List Timing) (n : ℕ) → is_each_large increment (take n cs) ts ≡ true → is_each_large increment cs ts ≡ true
  large_front cs ts zero e = absurd cc
  large_front [] ts (suc n) e = absurd cc
  large_front (c ∷ cs) [] (suc n) e = absurd cc
  large_front (c ∷ cs) (x ∷ ts) (suc n) e = by (is_change_large increment c x) e (λ h. large_front cs ts n h)
    where
      by : (b : Bool) → (b || is_each_large increment (take n cs) ts) ≡ true
          → (is_each_large increment (take n cs) ts ≡ true → is_each_large increment cs ts ≡ true) → (b || is_each_large increment cs ts) ≡ true
      by true h rec = refl
      by false h rec = rec h

  one_more : (i : ℕ) → suc i ≡ i + 1
  one_more i = omega arith

  pub changed_more : (cs : List (Option Change)) (old now new : List Timing) (i : ℕ) (d : Option Change) → i < length cs → i < length old → now ≡ changed_each increment (take i cs) old
      → ((t : Timing) → new ≡ slice_set now i (changed increment (slice_index_or cs i d) (slice_index_or now i t))) → (t : Timing) → new ≡ changed_each increment (take (i + 1) cs) old
  changed_more cs old now new i d l m is step t =
      step t ∙ (ap (λ ts. slice_set ts i (changed increment (slice_index_or cs i d) (slice_index_or ts i t))) is
      ∙ (ap (λ x. slice_set (changed_each increment (take i cs) old) i (changed increment (slice_index_or cs i d) x)) (each_at cs old i t)
      ∙ (sym (each_more cs old i d t l m) ∙ ap (λ n. changed_each increment (take n cs) old) (one_more i))))

  here_is : (cs : List (Option Change)) (old now : List Timing) (i : ℕ) (d : Option Change) (t : Timing) → now ≡ changed_each increment (take i cs) old
      → is_change_large increment (slice_index_or cs i d) (slice_index_or now i t) ≡ is_change_large increment (slice_index_or cs i d) (slice_index_or old i t)
  here_is cs old now i d t is = ap (λ x. is_change_large increment (slice_index_or cs i d) x) (ap (λ ts. slice_index_or ts i t) is ∙ each_at cs old i t)

  pub small_more : (cs : List (Option Change)) (old now : List Timing) (i : ℕ) (d : Option Change) (t : Timing) → i < length cs → i < length old → now ≡ changed_each increment (take i cs) old
      → is_each_large increment (take i cs) old ≡ false → is_change_large increment (slice_index_or cs i d) (slice_index_or now i t) ≡ false → is_each_large increment (take (i + 1) cs) old ≡ false
  small_more cs old now i d t l m is small here =
      ap (λ n. is_each_large increment (take n cs) old) (sym (one_more i))
      ∙ (large_more cs old i d t l m ∙ (ap (λ b. b || is_change_large increment (slice_index_or cs i d) (slice_index_or old i t)) small
      ∙ (sym (here_is cs old now i d t is) ∙ here)))

  pub large_here : (cs : List (Option Change)) (old now : List Timing) (i : ℕ) (d : Option Change) (t : Timing) → i < length cs → i < length old → now ≡ changed_each increment (take i cs) old
      → is_each_large increment (take i cs) old ≡ false → is_change_large increment (slice_index_or cs i d) (slice_index_or now i t) ≡ true → is_each_large increment cs old ≡ true
  large_here cs old now i d t l m is small here =
      large_front cs old (suc i)
      (large_more cs old i d t l m ∙ (ap (λ b. b || is_change_large increment (slice_index_or cs i d) (slice_index_or old i t)) small
      ∙ (sym (here_is cs old now i d t is) ∙ here)))

pub length_timings : (ds : List ℕ) (ls : List Limit) (i : ℕ) → i < length ds → i < length ls → i < length (timings_of ds ls)
length_timings [] ls i l m = absurd (omega arith)
length_timings (d ∷ ds) [] i l m = absurd (omega arith)
length_timings (d ∷ ds) (x ∷ ls) zero l m = omega arith
length_timings (d ∷ ds) (x ∷ ls) (suc i) l m = let h : i < length (timings_of ds ls) = length_timings ds ls i (omega arith) (omega arith) in omega arith
