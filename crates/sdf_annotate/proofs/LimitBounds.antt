-- The limits that annotation makes are within bounds.
use Rattle.std.specs.Prelude.{◌≡◌, refl, ℕ, zero, suc, ◌+◌, ◌*◌, ◌<◌, ◌^◌, ℤ, pos, unsigned_abs, Bool, true, false, All, List, [], ◌∷◌, length, map, None, slice_index_or}
use Rattle.std.proofs.Common.{ap, sym, subst, arith, ◌∙◌}
use Rattle.std.proofs.lemmas.List.{get_or_default, get_or-map, length-map}
use Rattle.sg_delay.specs.declared.corners.Corner.{Corner}
use Rattle.sg_circuit.specs.Circuit.{Circuit}
use Rattle.sg_circuit.specs.Closed.{IsClosed}
use Rattle.sg_circuit.specs.Signals.{signals, takes_lates, AreShort, IsShort}
use Rattle.sg_circuit.specs.declared.checks.Check.{Check}
use Rattle.sg_circuit.specs.declared.checks.CheckTiming.{CheckTiming}
use Rattle.late_limits.specs.Adjustments.{with_limits}
use Rattle.late_limits.proofs.AlikeLaws.{limits-alike, signals-alike, windows-all, windows-at}
use Rattle.sdf_tree.specs.Meant.{Sdf}
use Rattle.annotation_model.specs.Annotated.{too_large}
use Rattle.annotation_model.specs.Finding.{check_at, no_check}
use Rattle.annotation_model.specs.Given.{given}
use Rattle.annotation_model.specs.Laws.{AreSmall}
use Rattle.annotation_model.specs.Spots.{Checked, all_checked, bounds, limits_after, weight_of}
use Rattle.annotation_model.proofs.KeptPlaces.{stay}
use Rattle.annotation_setting.specs.Limits.{AreKeptAt, AreLimitsOf, AreSmallAt}
use Rattle.sdf_annotate.proofs.CheckLaws.{check-count, check-kind, check-scope, check-timing}
use Rattle.sdf_annotate.proofs.KeptLimits.{second-after}

weighs-once : (limits : List ℤ) → All (λ l. unsigned_abs l < 2 ^ 60) limits → AreSmall 1 limits
weighs-once limits h i d l = subst (λ n. n < 2 ^ 60) (let e : unsigned_abs (slice_index_or limits i d) ≡ unsigned_abs (slice_index_or limits i d) * 1 = omega arith in e) (h i d l)

module _ (c : Circuit) (closed : IsClosed c) where
  abbrev scope_of_check : ℕ → ℕ
  scope_of_check n = (check_at c n).check.scope

  check-small : (n : ℕ) → n < length c.checks → AreSmall (bounds c (check_at c n)).weight (check_at c n).timing.limits
  check-small n l = by (takes_lates (check_at c n).timing.kind) refl
    where
      count : n < length c.check_timings
      count = omega (arith, closed.timing_of_each)

      timing : (check_at c n).timing ≡ slice_index_or c.check_timings n no_check.timing
      timing = check-timing c closed n no_check.timing l

      by : (b : Bool) → takes_lates (check_at c n).timing.kind ≡ b → AreSmall (weight_of c b (scope_of_check n)) (check_at c n).timing.limits
      by true e =
          subst (IsShort (length (signals c.checks c.check_timings (scope_of_check n)))) (sym timing)
          (windows-at (IsShort (length (signals c.checks c.check_timings (scope_of_check n)))) (scope_of_check n) 0 c.checks c.check_timings (closed.short (scope_of_check n))
          n no_check.check no_check.timing l count (sym (check-scope c closed n no_check.check l)) (subst (λ (t : CheckTiming). takes_lates t.kind ≡ true) timing e))
      by false e = weighs-once (check_at c n).timing.limits (subst (λ (t : CheckTiming). All (λ l. unsigned_abs l < 2 ^ 60) t.limits) (sym timing) (closed.check_timings n no_check.timing count).limits)

  checks-small : All (λ (k : Checked). AreSmall (bounds c k).weight k.timing.limits) (all_checked c)
  checks-small n d l =
      subst (λ (k : Checked). AreSmall (bounds c k).weight k.timing.limits) (get_or_default (all_checked c) n no_check d l) (check-small n (subst (λ m. n < m) (check-count c closed) l))

  module _ (sdf : Sdf) (corner : Corner) (fine : too_large c sdf corner ≡ None) (limits : List (List ℤ)) (are : limits ≡ map (limits_after c sdf corner (given sdf)) (all_checked c)) where
    count-of : length limits ≡ length c.checks
    count-of = ap length are ∙ (length-map (all_checked c) (limits_after c sdf corner (given sdf)) ∙ check-count c closed)

    limits-at : (n : ℕ) → n < length limits → slice_index_or limits n [] ≡ limits_after c sdf corner (given sdf) (check_at c n)
    limits-at n l =
        ap (λ ls. slice_index_or ls n []) are ∙ get_or-map (limits_after c sdf corner (given sdf)) (all_checked c) n no_check [] (subst (λ m. n < m) (count-of ∙ sym (check-count c closed)) l)

    small-at : (n : ℕ) → n < length limits → AreSmallAt c n (slice_index_or limits n [])
    small-at n l k t =
        let m : n < length c.checks = subst (λ j. n < j) count-of l in
        let all : n < length (all_checked c) = subst (λ j. n < j) (sym (check-count c closed)) m in
        subst (λ ls. AreSmall (weight_of c (takes_lates (slice_index_or c.check_timings n t).kind) (slice_index_or c.checks n k).scope) ls) (sym (limits-at n l))
        (subst (λ q. AreSmall (weight_of c (takes_lates q) (slice_index_or c.checks n k).scope) (limits_after c sdf corner (given sdf) (check_at c n))) (check-kind c closed n t m)
        (subst (λ s. AreSmall (weight_of c (takes_lates (check_at c n).timing.kind) s) (limits_after c sdf corner (given sdf) (check_at c n))) (check-scope c closed n k m)
        ((stay c sdf corner fine).check checks-small n no_check all)))

    kept-at : (n : ℕ) → n < length limits → AreKeptAt c n (slice_index_or limits n [])
    kept-at n l t one =
        let m : n < length c.checks = subst (λ j. n < j) count-of l in
        ap (λ ls. slice_index_or ls 1 (pos 0)) (limits-at n l)
        ∙ (second-after c sdf corner (check_at c n) (ap (λ q. takes_lates q) (check-kind c closed n t m) ∙ one) (given sdf) ∙ ap (λ (x : CheckTiming). slice_index_or x.limits 1 (pos 0)) (check-timing c closed n t m))

    pub limits-fit : AreLimitsOf c limits
    limits-fit = record { each_check = count-of ∙ sym closed.timing_of_each; small = small-at; kept = kept-at }

-- limits that fit are short, each in its scope
module _ (c : Circuit) (limits : List (List ℤ)) (fit : AreLimitsOf c limits) where
  new-at : (ts : List CheckTiming) (ls : List (List ℤ)) (n : ℕ) (t : CheckTiming) → n < length ts → n < length ls → slice_index_or (with_limits ts ls) n t ≡ record (slice_index_or ts n t) { limits = slice_index_or ls n [] }
  new-at [] ls n t l m = absurd (omega arith)
  new-at (u ∷ ts) [] n t l m = absurd (omega arith)
  new-at (u ∷ ts) (x ∷ ls) zero t l m = refl
  new-at (u ∷ ts) (x ∷ ls) (suc n) t l m = new-at ts ls n t (omega arith) (omega arith)

  length-new : (ts : List CheckTiming) (ls : List (List ℤ)) → length (with_limits ts ls) ≡ length ts
  length-new [] ls = refl
  length-new (t ∷ ts) [] = refl
  length-new (t ∷ ts) (l ∷ ls) = ap suc (length-new ts ls)

  abbrev new : List CheckTiming
  new = with_limits c.check_timings limits

  same : (scope : ℕ) → signals c.checks c.check_timings scope ≡ signals c.checks new scope
  same scope = sym (signals-alike c.checks new c.check_timings scope (limits-alike c.check_timings limits))

  pub limits-short : (scope : ℕ) → AreShort c.checks (with_limits c.check_timings limits) scope
  limits-short scope = windows-all (IsShort (length (signals c.checks new scope))) scope 0 c.checks new each
    where
      each : (n : ℕ) (k : Check) (t : CheckTiming) → n < length c.checks → n < length new → (slice_index_or c.checks n k).scope ≡ scope → takes_lates (slice_index_or new n t).kind ≡ true
          → IsShort (length (signals c.checks new scope)) (slice_index_or new n t)
      each n k t l m in_scope takes =
          let old : n < length c.check_timings = subst (λ j. n < j) (length-new c.check_timings limits) m in
          let there : n < length limits = subst (λ j. n < j) (sym fit.each_check) old in
          let at = new-at c.check_timings limits n t old there in
          subst (IsShort (length (signals c.checks new scope))) (sym at)
          (subst (λ ns. AreSmall (length ns + 1) (slice_index_or limits n [])) (same scope)
          (subst (λ s. AreSmall (length (signals c.checks c.check_timings s) + 1) (slice_index_or limits n [])) in_scope
          (subst (λ b. AreSmall (weight_of c b (slice_index_or c.checks n k).scope) (slice_index_or limits n [])) (subst (λ (u : CheckTiming). takes_lates u.kind ≡ true) at takes) (fit.small n there k t))))
