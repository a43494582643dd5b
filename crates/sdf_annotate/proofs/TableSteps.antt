-- The table of new timings, one place more.
use Rattle.std.specs.Prelude.{◌≡◌, refl, ℕ, suc, zero, ◌+◌, ◌<◌, true, false, List, [], ◌∷◌, length, Option, slice_index_or, slice_set}
use Rattle.std.specs.Global.{Box}
use Rattle.std.proofs.Common.{ap, sym, ◌∙◌, subst, arith}
use Rattle.sg_delay.specs.declared.corners.Corner.{Corner}
use Rattle.sg_circuit.specs.Circuit.{Circuit}
use Rattle.sg_circuit.specs.Timings.{Timing}
use Rattle.sg_circuit.specs.declared.elements.LegTiming.{LegTiming}
use Rattle.sdf_tree.specs.Meant.{Entry, Sdf}
use Rattle.annotation_model.specs.Applied.{applied, is_too_large}
use Rattle.annotation_model.specs.Finding.{no_spot, spot_at}
use Rattle.annotation_model.specs.Passes.{meets_large}
use Rattle.annotation_model.specs.Spots.{Spot, grid, scope_of, spots}
use Rattle.annotation_setting.specs.Table.{timings_or, timings_seen}
use Rattle.annotation_spots.specs.Rows.{AreRows, spot_of}
use Rattle.annotation_spots.specs.declared.spots.Spot as code_spot
use Rattle.sdf_annotate.specs.Seen.{is_spot_large, spot_with}
use Rattle.sdf_annotate.proofs.PassSteps.{Left, left_large, left_more}
use Rattle.sdf_annotate.proofs.RowLaws.{row-is}

abbrev pub Table : Type 0
Table = List (Option (Box LegTiming))

seen-at : (ss : List Spot) (ts : Table) (k : ℕ) (d : Option (Box LegTiming)) → k < length ss → k < length ts
    → slice_index_or (timings_seen ss ts) k [] ≡ timings_or (slice_index_or ss k no_spot) (slice_index_or ts k d)
seen-at [] ts k d l m = absurd (omega (arith, l))
seen-at (s ∷ ss) [] k d l m = absurd (omega (arith, m))
seen-at (s ∷ ss) (t ∷ ts) zero d l m = refl
seen-at (s ∷ ss) (t ∷ ts) (suc k) d l m = seen-at ss ts k d (omega (arith, l)) (omega (arith, m))

seen-set : (ss : List Spot) (ts : Table) (k : ℕ) (t : Option (Box LegTiming)) → timings_seen ss (slice_set ts k t) ≡ slice_set (timings_seen ss ts) k (timings_or (slice_index_or ss k no_spot) t)
seen-set [] ts k t = refl
seen-set (s ∷ ss) [] k t = refl
seen-set (s ∷ ss) (u ∷ ts) zero t = refl
seen-set (s ∷ ss) (u ∷ ts) (suc k) t = ap (λ xs. timings_or s u ∷ xs) (seen-set ss ts k t)

module _ (c : Circuit) (sdf : Sdf) (corner : Corner) (e : Entry) (rows : List code_spot.Spot) (are : AreRows c rows) (ks : List ℕ) (old : List (List Timing)) (i blank : ℕ) (now : Table) (as_many : length now ≡ length rows) (dr : code_spot.Spot) (d : Option (Box LegTiming)) (l : i < length ks) (m : slice_index_or ks i blank < length now) where
  abbrev pub k : ℕ
  k = slice_index_or ks i blank

  same : spot_of c (slice_index_or rows k dr) ≡ spot_at c k
  same = row-is c rows are k dr (subst (λ n. k < n) as_many m)

  at : slice_index_or (timings_seen (spots c) now) k [] ≡ timings_or (spot_at c k) (slice_index_or now k d)
  at = seen-at (spots c) now k d (subst (λ n. k < n) (as_many ∙ are.count) m) m

  -- an entry is applied to one more of the legs and paths
  pub spot_more : (row : code_spot.Spot) → row ≡ slice_index_or rows k dr → (was made : Option (Box LegTiming)) → was ≡ slice_index_or now k d
      → is_too_large (grid c sdf corner (scope_of (spot_of c row))) e (timings_or (spot_of c row) was) ≡ false
      → timings_or (spot_of c row) made ≡ applied (grid c sdf corner (scope_of (spot_of c row))) e (timings_or (spot_of c row) was)
      → (new : Table) → new ≡ slice_set now k made
      → Left (is_spot_large c sdf corner e) (spot_with c sdf corner e) [] ks old i (timings_seen (spots c) now)
      → Left (is_spot_large c sdf corner e) (spot_with c sdf corner e) [] ks old (i + 1) (timings_seen (spots c) new)
  spot_more row r was made w small large new n left =
      left_more (is_spot_large c sdf corner e) (spot_with c sdf corner e) [] ks old i blank (timings_seen (spots c) now) (timings_seen (spots c) new) l
      (ap (is_spot_large c sdf corner e k) (at ∙ ap (timings_or (spot_at c k)) (sym w)) ∙ subst (λ s. is_too_large (grid c sdf corner (scope_of s)) e (timings_or s was) ≡ false) here small)
      (ap (timings_seen (spots c)) n ∙ (seen-set (spots c) now k made ∙ ap (slice_set (timings_seen (spots c) now) k)
      (subst (λ s. timings_or s made ≡ applied (grid c sdf corner (scope_of s)) e (timings_or s was)) here large ∙ ap (spot_with c sdf corner e k) (sym (at ∙ ap (timings_or (spot_at c k)) (sym w))))))
      left
    where
      here : spot_of c row ≡ spot_at c k
      here = ap (spot_of c) r ∙ same

  -- one of them is too large
  pub spot_large : (row : code_spot.Spot) → row ≡ slice_index_or rows k dr → (was : Option (Box LegTiming)) → was ≡ slice_index_or now k d
      → is_too_large (grid c sdf corner (scope_of (spot_of c row))) e (timings_or (spot_of c row) was) ≡ true
      → Left (is_spot_large c sdf corner e) (spot_with c sdf corner e) [] ks old i (timings_seen (spots c) now)
      → meets_large (is_spot_large c sdf corner e) (spot_with c sdf corner e) [] ks old ≡ true
  spot_large row r was w big left =
      left_large (is_spot_large c sdf corner e) (spot_with c sdf corner e) [] ks old i blank (timings_seen (spots c) now) l
      (ap (is_spot_large c sdf corner e k) (at ∙ ap (timings_or (spot_at c k)) (sym w)) ∙ subst (λ s. is_too_large (grid c sdf corner (scope_of s)) e (timings_or s was) ≡ true) (ap (spot_of c) r ∙ same) big)
      left
