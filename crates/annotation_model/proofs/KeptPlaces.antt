-- Where no entry is too large, all places of a circuit stay within bounds.
use Rattle.std.specs.Prelude.{◌≡◌, refl, ℕ, ◌*◌, ◌<◌, ◌^◌, ◌&&◌, nat_lt, ℤ, pos, negsuc, unsigned_abs, Bool, true, false, if◌then◌else◌}
use Rattle.std.specs.Prelude.{List, [], ◌∷◌, ◌++◌, length, Option, Some, None, slice_index_or}
use Rattle.std.specs.List.{list_any}
use Rattle.std.proofs.Common.{sym, subst}
use Rattle.std.proofs.Math.Nat.{zero-mul}
use Rattle.std.proofs.lemmas.Bool.{not-false, or_parts}
use Rattle.std.proofs.lemmas.List.{append_assoc, append-nil}
use Rattle.std.proofs.lemmas.List.Elements.{All-from_recursion, recursion_from_All}
use Rattle.std.proofs.lemmas.Nat.{pow_pos}
use Rattle.sg_text.specs.declared.places.Place.{Place}
use Rattle.sg_time.specs.Ticks.{above}
use Rattle.sg_delay.specs.declared.corners.Corner.{Corner}
use Rattle.sg_circuit.specs.Timings.{Timing}
use Rattle.sg_circuit.specs.Closed.{AreTimings}
use Rattle.sg_circuit.specs.Circuit.{Circuit}
use Rattle.sdf_tree.specs.Meant.{Triple, Sdf}
use Rattle.annotation_model.specs.Given.{Given, given}
use Rattle.annotation_model.specs.Applied.{Grid, Bounds, chosen_if, limit_or, is_limit_large, are_limits_large, with_limits}
use Rattle.annotation_model.specs.Spots.{Spot, spots, spot_after, is_for_spot, is_large_at, applied_at, timings_of, grid, scope_of}
use Rattle.annotation_model.specs.Spots.{Checked, all_checked, limits_after, is_for_check, is_limit_large_at, limits_with, given_to, bounds}
use Rattle.annotation_model.specs.Annotated.{is_too_large_after, first_too_large, too_large}
use Rattle.annotation_model.proofs.AfterLaws.{after-more}
use Rattle.annotation_model.specs.Laws.{AreSmall, StayWithinBounds}
use Rattle.annotation_model.proofs.AnyLaws.{and-off, fails_at}
use Rattle.annotation_model.proofs.KeptLaws.{entry-kept}
use Rattle.annotation_model.proofs.TableLaws.{below_if}

-- ---- one entry at one place

light : (weight : ℕ) (limit : ℤ) → is_limit_large weight (Some limit) ≡ false → unsigned_abs limit * weight < 2 ^ 60
light weight limit e = below_if (unsigned_abs limit * weight) (2 ^ 60) (not-false (nat_lt (unsigned_abs limit * weight) (2 ^ 60)) e)

above-light : (weight : ℕ) (limit : ℤ) → unsigned_abs limit * weight < 2 ^ 60 → above limit * weight < 2 ^ 60
above-light weight (pos n) l = l
above-light weight (negsuc n) l = subst (λ k. k < 2 ^ 60) (sym (zero-mul weight)) (pow_pos 60)

limit-kept : (b : Bounds) (l : Option ℤ) (old : ℤ) → unsigned_abs old * b.weight < 2 ^ 60 → is_limit_large b.weight l ≡ false → unsigned_abs (limit_or b.signed l old) * b.weight < 2 ^ 60
limit-kept b None old s e = s
limit-kept b (Some limit) old s e = by b.signed
  where
    by : (signed : Bool) → unsigned_abs (limit_or signed (Some limit) old) * b.weight < 2 ^ 60
    by true = light b.weight limit e
    by false = above-light b.weight limit (light b.weight limit e)

pub limits-kept : (b : Bounds) (g : Grid) (l : Option Triple × Option Triple) (limits : List ℤ) → AreSmall b.weight limits → are_limits_large b g l ≡ false
    → AreSmall b.weight (with_limits b g l limits)
limits-kept b g l [] s e = s
limits-kept b g l (x ∷ []) s e = s
limits-kept b g l (x ∷ y ∷ rest) s e =
    let parts = or_parts (is_limit_large b.weight (chosen_if g l.0)) (is_limit_large b.weight (chosen_if g l.1)) e in
    let each = recursion_from_All (λ (n : ℤ). unsigned_abs n * b.weight < 2 ^ 60) (x ∷ y ∷ rest) s in
    All-from_recursion (λ (n : ℤ). unsigned_abs n * b.weight < 2 ^ 60) (with_limits b g l (x ∷ y ∷ rest))
    (limit-kept b (chosen_if g l.0) x each.0 parts.0, (limit-kept b (chosen_if g l.1) y each.1.0 parts.1, tt))

-- ---- all entries

none-first : (b : Bool) (place : Place) (rest : Option Place) → (if b then Some place else rest) ≡ None → (b ≡ false) × (rest ≡ None)
none-first true place rest e = absurd cc
none-first false place rest e = (refl, e)

module _ (c : Circuit) (sdf : Sdf) (corner : Corner) where
  spot-step : (done : List Given) (g : Given) (spot : Spot) → AreTimings (spot_after c sdf corner done spot)
      → (is_for_spot c sdf.divider g spot && is_large_at c sdf corner g spot (spot_after c sdf corner done spot)) ≡ false
      → AreTimings (spot_after c sdf corner (done ++ g ∷ []) spot)
  spot-step done g spot are e = subst AreTimings (sym more) (by (is_for_spot c sdf.divider g spot) refl)
    where
      old : List Timing
      old = spot_after c sdf corner done spot

      more : spot_after c sdf corner (done ++ g ∷ []) spot ≡ (if is_for_spot c sdf.divider g spot then applied_at c sdf corner g spot old else old)
      more = after-more (λ h. is_for_spot c sdf.divider h spot) (λ h. applied_at c sdf corner h spot) done g (timings_of spot)

      by : (b : Bool) → is_for_spot c sdf.divider g spot ≡ b → AreTimings (if b then applied_at c sdf corner g spot old else old)
      by true q = entry-kept (grid c sdf corner (scope_of spot)) g.entry old are (and-off (is_for_spot c sdf.divider g spot) (is_large_at c sdf corner g spot old) q e)
      by false q = are

  abbrev IsSmall : Checked → List ℤ → Type 0
  IsSmall k limits = AreSmall (bounds c k).weight limits

  check-step : (done : List Given) (g : Given) (k : Checked) → IsSmall k (limits_after c sdf corner done k)
      → (is_for_check c sdf.divider g k && is_limit_large_at c sdf corner g k) ≡ false → IsSmall k (limits_after c sdf corner (done ++ g ∷ []) k)
  check-step done g k s e = subst (IsSmall k) (sym more) (by (is_for_check c sdf.divider g k) refl)
    where
      old : List ℤ
      old = limits_after c sdf corner done k

      more : limits_after c sdf corner (done ++ g ∷ []) k ≡ (if is_for_check c sdf.divider g k then limits_with c sdf corner g k old else old)
      more = after-more (λ h. is_for_check c sdf.divider h k) (λ h. limits_with c sdf corner h k) done g k.timing.limits

      by : (b : Bool) → is_for_check c sdf.divider g k ≡ b → IsSmall k (if b then limits_with c sdf corner g k old else old)
      by true q = limits-kept (bounds c k) (grid c sdf corner k.check.scope) (given_to c sdf.divider g k) old s (and-off (is_for_check c sdf.divider g k) (is_limit_large_at c sdf corner g k) q e)
      by false q = s

  spot-kept : (done gs : List Given) (n : ℕ) (d : Spot) → n < length (spots c) → AreTimings (spot_after c sdf corner done (slice_index_or (spots c) n d))
      → first_too_large c sdf corner done gs ≡ None → AreTimings (spot_after c sdf corner (done ++ gs) (slice_index_or (spots c) n d))
  spot-kept done [] n d l are e = subst (λ hs. AreTimings (spot_after c sdf corner hs (slice_index_or (spots c) n d))) (sym (append-nil done)) are
  spot-kept done (g ∷ gs) n d l are e =
      let parts = none-first (is_too_large_after c sdf corner done g) g.entry.place (first_too_large c sdf corner (done ++ g ∷ []) gs) e in
      let fits = or_parts
      (list_any (λ spot. is_for_spot c sdf.divider g spot && is_large_at c sdf corner g spot (spot_after c sdf corner done spot)) (spots c))
      (list_any (λ k. is_for_check c sdf.divider g k && is_limit_large_at c sdf corner g k) (all_checked c)) parts.0 in
      let here = fails_at (λ spot. is_for_spot c sdf.divider g spot && is_large_at c sdf corner g spot (spot_after c sdf corner done spot)) (spots c) d n fits.0 l in
      subst (λ hs. AreTimings (spot_after c sdf corner hs (slice_index_or (spots c) n d))) (append_assoc done (g ∷ []) gs)
      (spot-kept (done ++ g ∷ []) gs n d l (spot-step done g (slice_index_or (spots c) n d) are here) parts.1)

  check-kept : (done gs : List Given) (n : ℕ) (d : Checked) → n < length (all_checked c) → IsSmall (slice_index_or (all_checked c) n d) (limits_after c sdf corner done (slice_index_or (all_checked c) n d))
      → first_too_large c sdf corner done gs ≡ None → IsSmall (slice_index_or (all_checked c) n d) (limits_after c sdf corner (done ++ gs) (slice_index_or (all_checked c) n d))
  check-kept done [] n d l s e = subst (λ hs. IsSmall (slice_index_or (all_checked c) n d) (limits_after c sdf corner hs (slice_index_or (all_checked c) n d))) (sym (append-nil done)) s
  check-kept done (g ∷ gs) n d l s e =
      let parts = none-first (is_too_large_after c sdf corner done g) g.entry.place (first_too_large c sdf corner (done ++ g ∷ []) gs) e in
      let fits = or_parts
      (list_any (λ spot. is_for_spot c sdf.divider g spot && is_large_at c sdf corner g spot (spot_after c sdf corner done spot)) (spots c))
      (list_any (λ k. is_for_check c sdf.divider g k && is_limit_large_at c sdf corner g k) (all_checked c)) parts.0 in
      let here = fails_at (λ k. is_for_check c sdf.divider g k && is_limit_large_at c sdf corner g k) (all_checked c) d n fits.1 l in
      subst (λ hs. IsSmall (slice_index_or (all_checked c) n d) (limits_after c sdf corner hs (slice_index_or (all_checked c) n d))) (append_assoc done (g ∷ []) gs)
      (check-kept (done ++ g ∷ []) gs n d l (check-step done g (slice_index_or (all_checked c) n d) s here) parts.1)

  pub stay : too_large c sdf corner ≡ None → StayWithinBounds c sdf corner
  stay e = record {
    spot = λ are n d l. spot-kept [] (given sdf) n d l (are n d l) e;
    check = λ s n d l. check-kept [] (given sdf) n d l (s n d l) e;
  }
