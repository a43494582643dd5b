-- The sizes of a scope, by its elements and timing checks.
use Rattle.std.proofs.Common.{◌≡◌, ℕ, ◌<◌, Bool, List, [], ◌∷◌, ◌++◌, length, map, take, slice_index_or, refl, sym, ◌∙◌, ap, arith}
use Rattle.std.specs.Prelude.{ℤ, ◌==◌, ◌&&◌, ◌||◌, flat_map, unsigned_abs}
use Rattle.std.specs.List.{list_any, zip}
use Rattle.std.proofs.Math.Bool.{or-false, or_assoc}
use Rattle.std.proofs.lemmas.List.{get_or-map}
use Rattle.std.proofs.lemmas.List.Folds.{list_any-append}
use Rattle.sg_delay.specs.declared.limits.Limit.{Limit}
use Rattle.sg_circuit.specs.declared.checks.CheckKind.{CheckKind}
use Rattle.sg_circuit.specs.declared.checks.CheckKind.TheVariants as kind
use Rattle.sg_circuit.specs.declared.elements.LegTiming.{LegTiming}
use Rattle.sg_circuit.specs.declared.checks.CheckTiming.{CheckTiming}
use Rattle.sg_circuit.specs.declared.circuits.Parts.{Parts}
use Rattle.sg_circuit.specs.Circuit.{Circuit, Element, element_at}
use Rattle.sg_circuit.specs.FanOut.{readers_at}
use Rattle.sg_circuit.specs.Seen.{circuit_seen}
use Rattle.sg_circuit.specs.Closed.{IsClosed, limit_count}
use Rattle.sg_circuit.specs.Timings.{Timing}
use Rattle.sg_circuit.specs.TimingsSeen.{leg_timing_seen, timings_at, timings_of}
use Rattle.annotation_model.specs.Finding.{check_at}
use Rattle.annotation_model.specs.Spots.{Checked, all_checked, Spot, leg_spot, path_spot, spots}
use Rattle.annotation_model.proofs.EntryLaws.{any-same}
use Rattle.written_model.specs.declared.parts.Part.{Part}
use Rattle.written_model.specs.Entries.{LegEntry, PathEntry, CheckEntry, numbers_of, path_key, legs_at, paths_at, parts_of, legs, path_entries, check_entries}
use Rattle.written_model.specs.Faults.{sizes, sizes_of}
use Rattle.written_entries.specs.declared.groups.Groups.{Groups}
use Rattle.written_entries.specs.Groups.{AreGroups}
use Rattle.written_entries.proofs.NumberLaws.{check_numbers}
use Rattle.written_faults.specs.Sizes.{any_size, check_size, delayed_size, has_size_of, limit_size, path_size}
use Rattle.written_faults.proofs.AnyLaws.{any-either, any-flat, any-if, any-map}
use Rattle.written_faults.proofs.ScopeLaws.{any_check_of, any_element, any_entry, any_spot, passes, timing_there}

-- delays and limits side by side
pub sizes_zipped : (wrong : ℕ → Bool) (ds : List ℕ) (ls : List Limit) → list_any (has_size_of wrong) (zip ds ls) ≡ any_size wrong (timings_of ds ls)
sizes_zipped wrong [] ls = refl
sizes_zipped wrong (d ∷ ds) [] = refl
sizes_zipped wrong (d ∷ ds) (l ∷ ls) = ap (λ b. has_size_of wrong (d, l) || b) (sizes_zipped wrong ds ls)

-- those at a place of a table
pub timing_sizes : (wrong : ℕ → Bool) (timings : List LegTiming) (place : ℕ) (t : LegTiming) (b : Bool) → place < length timings → t ≡ slice_index_or timings place t
    → b ≡ list_any (has_size_of wrong) (zip t.delays.at t.limits.at) → b ≡ any_size wrong (timings_at timings place)
timing_sizes wrong timings place t b l is h =
    h ∙ sizes_zipped wrong t.delays.at t.limits.at ∙ sym (ap (any_size wrong) (get_or-map (λ x. leg_timing_seen x) timings place t [] l ∙ ap (λ x. leg_timing_seen x) (sym is)))

-- those of each part of a check are those of its limits
pub limits_of_parts : (p : ℤ → Bool) (kind : CheckKind) (limits : List ℤ) → length limits ≡ 2 → list_any (λ (part : Part × ℤ). p part.1) (parts_of kind limits) ≡ list_any p (take (limit_count kind) limits)
limits_of_parts p kind [] e = absurd (omega (arith, e))
limits_of_parts p kind (a ∷ []) e = absurd (omega (arith, e))
limits_of_parts p kind.Setup (a ∷ b ∷ ls) e = refl
limits_of_parts p kind.Hold (a ∷ b ∷ ls) e = refl
limits_of_parts p kind.Recovery (a ∷ b ∷ ls) e = refl
limits_of_parts p kind.Removal (a ∷ b ∷ ls) e = refl
limits_of_parts p kind.Skew (a ∷ b ∷ ls) e = refl
limits_of_parts p kind.Setuphold (a ∷ b ∷ ls) e = refl
limits_of_parts p kind.Recrem (a ∷ b ∷ ls) e = refl
limits_of_parts p kind.Width (a ∷ b ∷ ls) e = refl
limits_of_parts p kind.Period (a ∷ b ∷ ls) e = refl

-- the sizes of a leg or of a path
sizes_any : (wrong : ℕ → Bool) (timings : List Timing) → list_any wrong (flat_map sizes_of (map numbers_of timings)) ≡ any_size wrong timings
sizes_any wrong timings = any-flat wrong sizes_of (map numbers_of timings) ∙ any-map (λ n. list_any wrong (sizes_of n)) numbers_of timings

module _ (wrong : ℕ → Bool) where
  abbrev leg_wrong : LegEntry → Bool
  leg_wrong e = list_any wrong (flat_map sizes_of e.numbers)

  abbrev path_wrong : PathEntry → Bool
  path_wrong e = list_any wrong (flat_map sizes_of e.numbers)

  spot_sizes : (s : ℕ) (spot : Spot) → (list_any leg_wrong (legs_at s spot) || list_any path_wrong (paths_at s spot)) ≡ passes (any_size wrong) (path_size wrong) s spot
  spot_sizes s (leg_spot scope inputs output timings) =
      or-false (list_any leg_wrong (legs_at s (leg_spot scope inputs output timings)))
      ∙ (any-if (scope == s) leg_wrong (record { net = output; numbers = map numbers_of timings } ∷ [])
      ∙ ap (λ b. (scope == s) && b) (or-false (list_any wrong (flat_map sizes_of (map numbers_of timings))) ∙ sizes_any wrong timings))
  spot_sizes s (path_spot scope output p) =
      any-if (scope == s) path_wrong (record { key = path_key output p; numbers = map numbers_of p.timings } ∷ [])
      ∙ ap (λ b. (scope == s) && b) (or-false (list_any wrong (flat_map sizes_of (map numbers_of p.timings))) ∙ sizes_any wrong p.timings)

  -- the sizes of a scope are those of its elements and of its timing checks
  pub sizes_of_scope : (c : Circuit) (s : ℕ) → list_any wrong (sizes c s)
      ≡ (list_any (λ (e : Element). (e.scope == s) && delayed_size wrong e.kind) c.elements || list_any (λ (k : Checked). (k.check.scope == s) && list_any (λ (part : Part × ℤ). wrong (unsigned_abs part.1)) (parts_of k.timing.kind k.timing.limits)) (all_checked c))
  sizes_of_scope c s =
      list_any-append wrong (flat_map (λ (e : LegEntry). flat_map sizes_of e.numbers) (legs c s)) (flat_map (λ (e : PathEntry). flat_map sizes_of e.numbers) (path_entries c s) ++ map (λ (e : CheckEntry). unsigned_abs e.limit) (check_entries c s))
      ∙ (ap (λ b. list_any wrong (flat_map (λ (e : LegEntry). flat_map sizes_of e.numbers) (legs c s)) || b)
      (list_any-append wrong (flat_map (λ (e : PathEntry). flat_map sizes_of e.numbers) (path_entries c s)) (map (λ (e : CheckEntry). unsigned_abs e.limit) (check_entries c s)))
      ∙ (sym (or_assoc (list_any wrong (flat_map (λ (e : LegEntry). flat_map sizes_of e.numbers) (legs c s))) (list_any wrong (flat_map (λ (e : PathEntry). flat_map sizes_of e.numbers) (path_entries c s))) (list_any wrong (map (λ (e : CheckEntry). unsigned_abs e.limit) (check_entries c s))))
      ∙ (ap (λ b. b || list_any wrong (map (λ (e : CheckEntry). unsigned_abs e.limit) (check_entries c s))) delays
      ∙ ap (λ b. list_any (λ (e : Element). (e.scope == s) && delayed_size wrong e.kind) c.elements || b)
      (any-map wrong (λ (e : CheckEntry). unsigned_abs e.limit) (check_entries c s) ∙ any_entry c s (λ e. wrong (unsigned_abs e.limit))))))
    where
      delays : (list_any wrong (flat_map (λ (e : LegEntry). flat_map sizes_of e.numbers) (legs c s)) || list_any wrong (flat_map (λ (e : PathEntry). flat_map sizes_of e.numbers) (path_entries c s)))
          ≡ list_any (λ (e : Element). (e.scope == s) && delayed_size wrong e.kind) c.elements
      delays =
          ap (λ b. b || list_any wrong (flat_map (λ (e : PathEntry). flat_map sizes_of e.numbers) (path_entries c s))) (any-flat wrong (λ (e : LegEntry). flat_map sizes_of e.numbers) (legs c s) ∙ any-flat leg_wrong (legs_at s) (spots c))
          ∙ (ap (λ b. list_any (λ spot. list_any leg_wrong (legs_at s spot)) (spots c) || b) (any-flat wrong (λ (e : PathEntry). flat_map sizes_of e.numbers) (path_entries c s) ∙ any-flat path_wrong (paths_at s) (spots c))
          ∙ (any-either (λ spot. list_any leg_wrong (legs_at s spot)) (λ spot. list_any path_wrong (paths_at s spot)) (spots c)
          ∙ (any-same (λ spot. list_any leg_wrong (legs_at s spot) || list_any path_wrong (paths_at s spot)) (passes (any_size wrong) (path_size wrong) s) (spots c) (spot_sizes s)
          ∙ any_spot (any_size wrong) (path_size wrong) c s)))

-- a timing check's, by its number
pub check_sizes : (wrong : ℕ → Bool) (parts : Parts) → IsClosed (circuit_seen parts) → (n : ℕ) (t : CheckTiming) (b : Bool) → n < length parts.checks.items → t ≡ slice_index_or parts.check_timings.items n t → length t.limits ≡ 2
    → b ≡ limit_size wrong t.kind t.limits → b ≡ check_size wrong (check_at (circuit_seen parts) n).timing
check_sizes wrong parts closed n t b l is two h =
    h ∙ (sym (limits_of_parts (λ z. wrong (unsigned_abs z)) t.kind t.limits two) ∙ ap (check_size wrong) (sym (timing_there (circuit_seen parts) closed n t l is)))

-- what is found by the numbers of a scope's elements and timing checks
pub sizes_found : (wrong : ℕ → Bool) (parts : Parts) (g : Groups) (s : ℕ) → IsClosed (circuit_seen parts) → AreGroups parts g → s < length parts.scopes.items
    → list_any wrong (sizes (circuit_seen parts) s) ≡ (list_any (λ n. delayed_size wrong (element_at (circuit_seen parts) n).kind) (readers_at g.elements s) || list_any (λ n. check_size wrong (check_at (circuit_seen parts) n).timing) (readers_at g.checks s))
sizes_found wrong parts g s closed groups within =
    sizes_of_scope wrong (circuit_seen parts) s
    ∙ (ap (λ b. b || list_any (λ (k : Checked). (k.check.scope == s) && check_size wrong k.timing) (all_checked (circuit_seen parts))) (sym (any_element (any_size wrong) (path_size wrong) parts g s groups within))
    ∙ ap (λ b. list_any (λ n. delayed_size wrong (element_at (circuit_seen parts) n).kind) (readers_at g.elements s) || b) (sym (any_check_of (circuit_seen parts) closed (readers_at g.checks s) s (λ k. check_size wrong k.timing) (check_numbers parts g groups s within))))
