-- Timing checks by their numbers, and what entries give to them.
use Rattle.std.specs.Prelude.{◌≡◌, refl, ℕ, ℤ, suc, zero, ◌<◌, ◌&&◌, nat_lt, Bool, true, false, if◌then◌else◌, List, [], ◌∷◌, length, map, Option, slice_index_or}
use Rattle.std.proofs.Common.{ap, sym, ◌∙◌, arith}
use Rattle.std.proofs.lemmas.Bool.{and_parts}
use Rattle.sg_delay.specs.declared.corners.Corner.{Corner}
use Rattle.sg_circuit.specs.Checks.{CheckConditions}
use Rattle.sg_circuit.specs.Circuit.{Circuit}
use Rattle.sg_circuit.specs.Closed.{IsClosed}
use Rattle.sg_circuit.specs.Signals.{takes_lates}
use Rattle.sg_circuit.specs.declared.checks.Check.{Check}
use Rattle.sg_circuit.specs.declared.checks.CheckKind.{CheckKind}
use Rattle.sg_circuit.specs.declared.checks.CheckTiming.{CheckTiming}
use Rattle.sdf_tree.specs.declared.tree.CellCheck as code_check
use Rattle.sdf_tree.specs.declared.tree.EntryKind as code_kind
use Rattle.sdf_tree.specs.declared.tree.EntryKind.TheVariants as variant
use Rattle.sdf_meaning.specs.MeantSeen.{view_kind}
use Rattle.sdf_tree.specs.Meant.{CellCheck, EntryKind, Triple, Sdf, io_path, device, port_delay, interconnect, path_pulse, a_check, skipped_entry}
use Rattle.annotation_model.specs.Applied.{Bounds, Grid, are_limits_large, with_limits}
use Rattle.annotation_model.specs.Finding.{check_at, is_found_check, no_check}
use Rattle.annotation_model.specs.Given.{Given}
use Rattle.annotation_model.specs.Listed.{occurrences, IsListOf, written}
use Rattle.annotation_model.specs.Matching.{fits_check, given_by, limits_for, none_given}
use Rattle.annotation_model.specs.Passes.{meets_large}
use Rattle.annotation_model.specs.Scopes.{is_of_cell}
use Rattle.annotation_model.specs.Spots.{Checked, all_checked, bounds, checked, grid, is_for_check, is_given, is_limit_large_at, limits_with, weight_of}
use Rattle.annotation_model.proofs.AnyLaws.{counted}
use Rattle.annotation_places.proofs.PlaceLaws.{length-checked}
use Rattle.sdf_annotate.specs.Seen.{check_with, is_check_large}
use Rattle.sdf_annotate.proofs.PassSteps.{meets_listed, nothing_large, nothing_written, writes_listed}

-- ---- checks by their numbers

checked-at : (ks : List Check) (ts : List CheckTiming) (ws : List CheckConditions) (k : ℕ) (d : Check) (t : CheckTiming) → length ts ≡ length ks → length ws ≡ length ks → k < length ks
    → ((slice_index_or (checked ks ts ws) k no_check).check ≡ slice_index_or ks k d) × ((slice_index_or (checked ks ts ws) k no_check).timing ≡ slice_index_or ts k t)
checked-at [] ts ws k d t e f l = absurd (omega (arith, l))
checked-at (x ∷ ks) [] ws k d t e f l = absurd (omega (arith, e))
checked-at (x ∷ ks) (y ∷ ts) [] k d t e f l = absurd (omega (arith, f))
checked-at (x ∷ ks) (y ∷ ts) (w ∷ ws) zero d t e f l = (refl, refl)
checked-at (x ∷ ks) (y ∷ ts) (w ∷ ws) (suc k) d t e f l = checked-at ks ts ws k d t (omega (arith, e)) (omega (arith, f)) (omega (arith, l))

checked-limits : (ks : List Check) (ts : List CheckTiming) (ws : List CheckConditions) → length ts ≡ length ks → length ws ≡ length ks
    → map (λ (t : CheckTiming). t.limits) ts ≡ map (λ (k : Checked). k.timing.limits) (checked ks ts ws)
checked-limits [] [] ws e f = refl
checked-limits [] (t ∷ ts) ws e f = absurd (omega (arith, e))
checked-limits (k ∷ ks) [] ws e f = absurd (omega (arith, e))
checked-limits (k ∷ ks) (t ∷ ts) [] e f = absurd (omega (arith, f))
checked-limits (k ∷ ks) (t ∷ ts) (w ∷ ws) e f = ap (λ xs. t.limits ∷ xs) (checked-limits ks ts ws (omega (arith, e)) (omega (arith, f)))

module _ (c : Circuit) (closed : IsClosed c) where
  pub check-count : length (all_checked c) ≡ length c.checks
  check-count = length-checked c.checks c.check_timings c.check_conditions closed.timing_of_each closed.conditions_of_each

  pub check-scope : (k : ℕ) (d : Check) → k < length c.checks → (check_at c k).check.scope ≡ (slice_index_or c.checks k d).scope
  check-scope k d l = ap (λ (x : Check). x.scope) (checked-at c.checks c.check_timings c.check_conditions k d no_check.timing closed.timing_of_each closed.conditions_of_each l).0

  pub check-timing : (k : ℕ) (t : CheckTiming) → k < length c.checks → (check_at c k).timing ≡ slice_index_or c.check_timings k t
  check-timing k t l = (checked-at c.checks c.check_timings c.check_conditions k no_check.check t closed.timing_of_each closed.conditions_of_each l).1

  pub check-kind : (k : ℕ) (t : CheckTiming) → k < length c.checks → (check_at c k).timing.kind ≡ (slice_index_or c.check_timings k t).kind
  check-kind k t l = ap (λ (x : CheckTiming). x.kind) (check-timing k t l)

  pub check-limits : map (λ (t : CheckTiming). t.limits) c.check_timings ≡ map (λ (k : Checked). k.timing.limits) (all_checked c)
  check-limits = checked-limits c.checks c.check_timings c.check_conditions closed.timing_of_each closed.conditions_of_each

-- ---- what an entry gives to a check that it is for

module _ (c : Circuit) (sdf : Sdf) (corner : Corner) (g : Given) (n : ℕ) where
  abbrev at_scope : Grid
  at_scope = grid c sdf corner (check_at c n).check.scope

  abbrev at_bounds : Bounds
  at_bounds = bounds c (check_at c n)

  abbrev given_kind : EntryKind → Option Triple × Option Triple
  given_kind kind = given_by c sdf.divider g kind (check_at c n).check.scope (check_at c n).timing (check_at c n).written

  with-same : (kind : EntryKind) (limits : List ℤ) → is_given (given_kind kind) ≡ true → with_limits at_bounds at_scope (given_kind kind) limits ≡ check_with c sdf corner kind n limits
  with-same (a_check check) limits e = by (is_of_cell c sdf.divider g.cell_type g.instance (check_at c n).check.scope && fits_check c sdf.divider check (check_at c n).check.scope (check_at c n).timing (check_at c n).written) e
    where
      by : (b : Bool) → is_given (if b then limits_for check (check_at c n).timing.kind else none_given) ≡ true
          → with_limits at_bounds at_scope (if b then limits_for check (check_at c n).timing.kind else none_given) limits ≡ with_limits at_bounds at_scope (limits_for check (check_at c n).timing.kind) limits
      by true e = refl
      by false e = absurd cc
  with-same (io_path p f t ds) limits e = absurd cc
  with-same (device o ds) limits e = absurd cc
  with-same (port_delay p ds) limits e = absurd cc
  with-same (interconnect f t ds) limits e = absurd cc
  with-same (path_pulse p o r x) limits e = absurd cc
  with-same (skipped_entry s) limits e = absurd cc

  large-same : (kind : EntryKind) (limits : List ℤ) → is_given (given_kind kind) ≡ true → are_limits_large at_bounds at_scope (given_kind kind) ≡ is_check_large c sdf corner kind n limits
  large-same (a_check check) limits e = by (is_of_cell c sdf.divider g.cell_type g.instance (check_at c n).check.scope && fits_check c sdf.divider check (check_at c n).check.scope (check_at c n).timing (check_at c n).written) e
    where
      by : (b : Bool) → is_given (if b then limits_for check (check_at c n).timing.kind else none_given) ≡ true
          → are_limits_large at_bounds at_scope (if b then limits_for check (check_at c n).timing.kind else none_given) ≡ are_limits_large at_bounds at_scope (limits_for check (check_at c n).timing.kind)
      by true e = refl
      by false e = absurd cc
  large-same (io_path p f t ds) limits e = absurd cc
  large-same (device o ds) limits e = absurd cc
  large-same (port_delay p ds) limits e = absurd cc
  large-same (interconnect f t ds) limits e = absurd cc
  large-same (path_pulse p o r x) limits e = absurd cc
  large-same (skipped_entry s) limits e = absurd cc

module _ (c : Circuit) (sdf : Sdf) (corner : Corner) (g : Given) (ks : List ℕ) (is : IsListOf (is_found_check c sdf g) ks) where
  given-listed : (k : ℕ) → 0 < occurrences k ks → is_for_check c sdf.divider g (check_at c k) ≡ true
  given-listed k l = (and_parts (nat_lt k (length (all_checked c))) (is_for_check c sdf.divider g (check_at c k)) (counted (is_found_check c sdf g k) (occurrences k ks) (is.each k) l)).1

  -- a pass over the checks that an entry is for, by the entry's kind and by what it gives
  pub limits-written : (xs : List (List ℤ)) → written (check_with c sdf corner g.entry.kind) [] ks xs ≡ written (λ k ls. limits_with c sdf corner g (check_at c k) ls) [] ks xs
  limits-written xs = writes_listed (check_with c sdf corner g.entry.kind) (λ k ls. limits_with c sdf corner g (check_at c k) ls) [] ks xs
      (λ k l v. sym (with-same c sdf corner g k g.entry.kind v (given-listed k l)))

  pub limits-met : (xs : List (List ℤ)) → meets_large (is_check_large c sdf corner g.entry.kind) (check_with c sdf corner g.entry.kind) [] ks xs
      ≡ meets_large (λ k ls. is_limit_large_at c sdf corner g (check_at c k)) (λ k ls. limits_with c sdf corner g (check_at c k) ls) [] ks xs
  limits-met xs = meets_listed (is_check_large c sdf corner g.entry.kind) (λ k (ls : List ℤ). is_limit_large_at c sdf corner g (check_at c k))
      (check_with c sdf corner g.entry.kind) (λ k ls. limits_with c sdf corner g (check_at c k) ls) [] ks xs
      (λ k l v. sym (large-same c sdf corner g k g.entry.kind v (given-listed k l)))
      (λ k l v. sym (with-same c sdf corner g k g.entry.kind v (given-listed k l)))

-- ---- what the code knows of a check by its number

module _ (c : Circuit) (sdf : Sdf) (corner : Corner) (closed : IsClosed c) (n : ℕ) (l : n < length c.checks) (check : CellCheck) (b : Bounds) (gr : Grid) (kind : CheckKind) (k : Check) (t : CheckTiming) (limits : List ℤ)
    (in_bounds : b ≡ record { signed = takes_lates kind; weight = weight_of c (takes_lates kind) k.scope }) (in_scope : gr ≡ grid c sdf corner k.scope) (of_kind : kind ≡ t.kind) (k_is : k ≡ slice_index_or c.checks n k)
    (t_is : t ≡ slice_index_or c.check_timings n t) where
  same-scope : k.scope ≡ (check_at c n).check.scope
  same-scope = ap (λ (x : Check). x.scope) k_is ∙ sym (check-scope c closed n k l)

  same-grid : gr ≡ grid c sdf corner (check_at c n).check.scope
  same-grid = in_scope ∙ ap (λ s. grid c sdf corner s) same-scope

  same-kind : kind ≡ (check_at c n).timing.kind
  same-kind = of_kind ∙ (ap (λ (x : CheckTiming). x.kind) t_is ∙ sym (check-kind c closed n t l))

  same-bounds : b ≡ bounds c (check_at c n)
  same-bounds =
      in_bounds
      ∙ (ap (λ q. record { signed = takes_lates q; weight = weight_of c (takes_lates q) k.scope }) same-kind
      ∙ ap (λ s. record { signed = takes_lates (check_at c n).timing.kind; weight = weight_of c (takes_lates (check_at c n).timing.kind) s }) same-scope)

  pub known-large : are_limits_large b gr (limits_for check kind) ≡ is_check_large c sdf corner (a_check check) n limits
  known-large =
      ap (λ d. are_limits_large d gr (limits_for check kind)) same-bounds
      ∙ (ap (λ h. are_limits_large (bounds c (check_at c n)) h (limits_for check kind)) same-grid
      ∙ ap (λ x. are_limits_large (bounds c (check_at c n)) (grid c sdf corner (check_at c n).check.scope) (limits_for check x)) same-kind)

  pub known-with : with_limits b gr (limits_for check kind) limits ≡ check_with c sdf corner (a_check check) n limits
  known-with =
      ap (λ d. with_limits d gr (limits_for check kind) limits) same-bounds
      ∙ (ap (λ h. with_limits (bounds c (check_at c n)) h (limits_for check kind) limits) same-grid
      ∙ ap (λ x. with_limits (bounds c (check_at c n)) (grid c sdf corner (check_at c n).check.scope) (limits_for check x) limits) same-kind)

-- ---- an entry that isn't of a timing check

abbrev pub IsOther : code_kind.EntryKind → Type 0
IsOther kind = (check : code_check.CellCheck) → kind ≡ variant.Check check → ⊥

pub other-large : (c : Circuit) (sdf : Sdf) (corner : Corner) (kind : code_kind.EntryKind) (ks : List ℕ) (xs : List (List ℤ)) → IsOther kind
    → meets_large (is_check_large c sdf corner (view_kind kind)) (check_with c sdf corner (view_kind kind)) [] ks xs ≡ false
other-large c sdf corner (variant.IoPath p f t ds) ks xs h = nothing_large (λ k v. v) [] ks xs
other-large c sdf corner (variant.Device o ds) ks xs h = nothing_large (λ k v. v) [] ks xs
other-large c sdf corner (variant.Port p ds) ks xs h = nothing_large (λ k v. v) [] ks xs
other-large c sdf corner (variant.Interconnect f t ds) ks xs h = nothing_large (λ k v. v) [] ks xs
other-large c sdf corner (variant.PathPulse p o r e) ks xs h = nothing_large (λ k v. v) [] ks xs
other-large c sdf corner (variant.Check k) ks xs h = absurd (h k refl)
other-large c sdf corner (variant.Skipped s) ks xs h = nothing_large (λ k v. v) [] ks xs

pub other-written : (c : Circuit) (sdf : Sdf) (corner : Corner) (kind : code_kind.EntryKind) (ks : List ℕ) (xs : List (List ℤ)) → IsOther kind → xs ≡ written (check_with c sdf corner (view_kind kind)) [] ks xs
other-written c sdf corner (variant.IoPath p f t ds) ks xs h = sym (nothing_written [] ks xs)
other-written c sdf corner (variant.Device o ds) ks xs h = sym (nothing_written [] ks xs)
other-written c sdf corner (variant.Port p ds) ks xs h = sym (nothing_written [] ks xs)
other-written c sdf corner (variant.Interconnect f t ds) ks xs h = sym (nothing_written [] ks xs)
other-written c sdf corner (variant.PathPulse p o r e) ks xs h = sym (nothing_written [] ks xs)
other-written c sdf corner (variant.Check k) ks xs h = absurd (h k refl)
other-written c sdf corner (variant.Skipped s) ks xs h = sym (nothing_written [] ks xs)
