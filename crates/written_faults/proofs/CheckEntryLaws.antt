-- The pairs that are read of the timing checks of a scope differ where these disagree.
use Rattle.std.proofs.Common.{◌≡◌, refl, sym, ◌∙◌, ap, subst, ℕ, zero, suc, ◌+◌, ◌<◌, ℤ, Bool, true, false, List, [], ◌∷◌, ◌++◌, length, map, slice_get, slice_index_or, option_map, arith}
use Rattle.std.specs.Prelude.{◌==◌, ◌&&◌, ◌↔◌, All, IsTrue, flat_map, if◌then◌else◌}
use Rattle.std.proofs.lemmas.Bool.{eq-eqb}
use Rattle.std.proofs.lemmas.List.{length-map, map-append}
use Rattle.std.proofs.lemmas.List.Elements.{All-cons, All-map, All-nil, All-head, All-tail}
use Rattle.cond_expr.specs.Condition.{Condition}
use Rattle.late_limits.specs.Grouping.{pins_by}
use Rattle.sg_circuit.specs.declared.checks.Check.{Check}
use Rattle.sg_circuit.specs.declared.checks.CheckConditions as code_conditions
use Rattle.sg_circuit.specs.declared.checks.CheckTiming.{CheckTiming}
use Rattle.sg_circuit.specs.declared.checks.Event.{Event}
use Rattle.sg_circuit.specs.declared.circuits.Parts.{Parts}
use Rattle.sg_circuit.specs.Closed.{IsClosed}
use Rattle.sg_circuit.specs.ChecksSeen.{AreWritten, text_at, written_seen}
use Rattle.sg_circuit.specs.FanOut.{readers_at}
use Rattle.sg_circuit.specs.Pins.{elements_on}
use Rattle.sg_circuit.specs.Seen.{circuit_seen, AreIndexed}
use Rattle.annotation_model.specs.Spots.{checked}
use Rattle.written_entries.specs.declared.groups.Groups.{Groups}
use Rattle.written_entries.specs.Groups.{AreGroups, any_check, check_scope}
use Rattle.written_entries.proofs.NumberLaws.{check_numbers}
use Rattle.written_model.specs.declared.parts.Part.{Part}
use Rattle.written_model.specs.Entries.{CheckEntry, parts_of, event_key, check_entry, checks_at, check_entries}
use Rattle.written_model.specs.Faults.{Disagree}
use Rattle.written_faults.specs.Ambiguities.{of_item, check_pairs, pairs_of_check, pairs_of_checks}
use Rattle.written_faults.specs.Classes.{AreClasses}
use Rattle.written_faults.specs.Keys.{PartCode, event_codes, part_code}
use Rattle.written_faults.specs.Reading.{Differ}
use Rattle.written_faults.proofs.AlikeLaws.{part_keys, part_codes}
use Rattle.written_faults.proofs.GatherLaws.{all-flat, flat-same, flat-mapped, gathered_items}
use Rattle.written_faults.proofs.DisagreeLaws.{differ-alike}

-- a check, what it looks for, and the places of its conditions
record Coded : Type 0 where
  check : Check
  timing : CheckTiming
  written : code_conditions.CheckConditions

abbrev coded : List Check → List CheckTiming → List code_conditions.CheckConditions → List Coded
coded (k ∷ ks) (t ∷ ts) (w ∷ ws) = record { check = k; timing = t; written = w } ∷ coded ks ts ws
coded _ _ _ = []

abbrev coded_scope : Coded → ℕ
coded_scope w = w.check.scope

abbrev any_coded : Coded → Bool
any_coded w = true

pins-coded : (n : ℕ) (ks : List Check) (ts : List CheckTiming) (ws : List code_conditions.CheckConditions) → length ts ≡ length ks → length ws ≡ length ks → pins_by check_scope any_check n ks ≡ pins_by coded_scope any_coded n (coded ks ts ws)
pins-coded n [] ts ws l m = refl
pins-coded n (k ∷ ks) [] ws l m = absurd (omega (arith, l))
pins-coded n (k ∷ ks) (t ∷ ts) [] l m = absurd (omega (arith, m))
pins-coded n (k ∷ ks) (t ∷ ts) (w ∷ ws) l m = ap (λ ps. record { net = k.scope; element = n } ∷ ps) (pins-coded (n + 1) ks ts ws (omega (arith, l)) (omega (arith, m)))

coded-written : (P : code_conditions.CheckConditions → Type 0) (ks : List Check) (ts : List CheckTiming) (ws : List code_conditions.CheckConditions) → All P ws → All (λ (w : Coded). P w.written) (coded ks ts ws)
coded-written P [] ts ws h = All-nil (λ (w : Coded). P w.written)
coded-written P (k ∷ ks) [] ws h = All-nil (λ (w : Coded). P w.written)
coded-written P (k ∷ ks) (t ∷ ts) [] h = All-nil (λ (w : Coded). P w.written)
coded-written P (k ∷ ks) (t ∷ ts) (w ∷ ws) h = All-cons (λ (x : Coded). P x.written) (record { check = k; timing = t; written = w }) (coded ks ts ws) (All-head P w ws h) (coded-written P ks ts ws (All-tail P w ws h))

-- a part of one
record Portion : Type 0 where
  timing : CheckTiming
  written : code_conditions.CheckConditions
  part : Part
  limit : ℤ

abbrev portion : CheckTiming → code_conditions.CheckConditions → Part × ℤ → Portion
portion t w p = record { timing = t; written = w; part = p.0; limit = p.1 }

abbrev portions : Bool → Coded → List Portion
portions there w = if there then map (portion w.timing w.written) (parts_of w.timing.kind w.timing.limits) else []

module _ (conditions : List Condition) (classes : List ℕ) (s : ℕ) where
  abbrev portion_pair : Portion → PartCode × ℤ
  portion_pair x = (part_code (event_codes classes x.timing x.written) x.part, x.limit)

  abbrev portion_entry : Portion → CheckEntry
  portion_entry x = record {
    key = record {
      part = x.part;
      refer = event_key x.timing.refer (text_at conditions x.written.refer);
      datum = option_map (λ (e : Event). event_key e (text_at conditions x.written.datum)) x.timing.datum;
    };
    limit = x.limit;
  }

  abbrev portions_of : Coded → List Portion
  portions_of w = portions (w.check.scope == s) w

  pairs-of-coded : (ks : List Check) (ts : List CheckTiming) (ws : List code_conditions.CheckConditions) → length ts ≡ length ks → length ws ≡ length ks → (n : ℕ)
      → pairs_of_check classes (slice_get ts n) (slice_get ws n) ≡ of_item (λ (w : Coded). check_pairs classes w.timing w.written) (slice_get (coded ks ts ws) n)
  pairs-of-coded [] [] ws l m n = refl
  pairs-of-coded [] (t ∷ ts) ws l m n = absurd (omega (arith, l))
  pairs-of-coded (k ∷ ks) [] ws l m n = absurd (omega (arith, l))
  pairs-of-coded (k ∷ ks) (t ∷ ts) [] l m n = absurd (omega (arith, m))
  pairs-of-coded (k ∷ ks) (t ∷ ts) (w ∷ ws) l m zero = refl
  pairs-of-coded (k ∷ ks) (t ∷ ts) (w ∷ ws) l m (suc n) = pairs-of-coded ks ts ws (omega (arith, l)) (omega (arith, m)) n

  pairs-of-parts : (t : CheckTiming) (w : code_conditions.CheckConditions) (ps : List (Part × ℤ)) → map (λ (p : Part × ℤ). (part_code (event_codes classes t w) p.0, p.1)) ps ≡ map portion_pair (map (portion t w) ps)
  pairs-of-parts t w [] = refl
  pairs-of-parts t w (p ∷ ps) = ap (λ qs. (part_code (event_codes classes t w) p.0, p.1) ∷ qs) (pairs-of-parts t w ps)

  no-portions : (there : Bool) (w : Coded) → (there && true) ≡ false → map portion_pair (portions there w) ≡ []
  no-portions true w h = absurd cc
  no-portions false w h = refl

  entries-of-parts : (k : Check) (t : CheckTiming) (w : code_conditions.CheckConditions) (ps : List (Part × ℤ)) → map (check_entry (record { check = k; timing = t; written = written_seen conditions w })) ps ≡ map portion_entry (map (portion t w) ps)
  entries-of-parts k t w [] = refl
  entries-of-parts k t w (p ∷ ps) = ap (λ qs. portion_entry (portion t w p) ∷ qs) (entries-of-parts k t w ps)

  entries-there : (there : Bool) (k : Check) (t : CheckTiming) (w : code_conditions.CheckConditions)
      → (if there then map (check_entry (record { check = k; timing = t; written = written_seen conditions w })) (parts_of t.kind t.limits) else []) ≡ map portion_entry (portions there (record { check = k; timing = t; written = w }))
  entries-there true k t w = entries-of-parts k t w (parts_of t.kind t.limits)
  entries-there false k t w = refl

  entries-of-coded : (ks : List Check) (ts : List CheckTiming) (ws : List code_conditions.CheckConditions) → flat_map (checks_at s) (checked ks ts (map (written_seen conditions) ws)) ≡ map portion_entry (flat_map portions_of (coded ks ts ws))
  entries-of-coded [] ts ws = refl
  entries-of-coded (k ∷ ks) [] ws = refl
  entries-of-coded (k ∷ ks) (t ∷ ts) [] = refl
  entries-of-coded (k ∷ ks) (t ∷ ts) (w ∷ ws) =
      ap (λ es. es ++ flat_map (checks_at s) (checked ks ts (map (written_seen conditions) ws))) (entries-there (k.scope == s) k t w)
      ∙ (ap (λ es. map portion_entry (portions (k.scope == s) (record { check = k; timing = t; written = w })) ++ es) (entries-of-coded ks ts ws)
      ∙ sym (map-append portion_entry (portions (k.scope == s) (record { check = k; timing = t; written = w })) (flat_map portions_of (coded ks ts ws))))

  abbrev IsFine : Portion → Type 0
  IsFine x = AreWritten (length conditions) x.written

  fine-portions : (there : Bool) (w : Coded) → AreWritten (length conditions) w.written → All IsFine (portions there w)
  fine-portions false w h = All-nil IsFine
  fine-portions true w h = All-map IsFine (portion w.timing w.written) (parts_of w.timing.kind w.timing.limits) (λ k d l. h)

module _ (parts : Parts) (classes : List ℕ) (s : ℕ) (closed : IsClosed (circuit_seen parts)) where
  abbrev all_coded : List Coded
  all_coded = coded parts.checks.items parts.check_timings.items parts.check_conditions.items

  abbrev all_portions : List Portion
  all_portions = flat_map (portions_of parts.conditions.items classes s) all_coded

  conditions-of-each : length parts.check_conditions.items ≡ length parts.checks.items
  conditions-of-each = sym (length-map parts.check_conditions.items (written_seen parts.conditions.items)) ∙ closed.conditions_of_each

  check-pairs-are : (numbers : List ℕ) → numbers ≡ elements_on s (pins_by check_scope any_check 0 parts.checks.items) → pairs_of_checks parts classes numbers ≡ map (portion_pair parts.conditions.items classes s) all_portions
  check-pairs-are numbers e =
      ap (pairs_of_checks parts classes) (e ∙ ap (elements_on s) (pins-coded 0 parts.checks.items parts.check_timings.items parts.check_conditions.items closed.timing_of_each conditions-of-each))
      ∙ (flat-same (λ n. pairs_of_check classes (slice_get parts.check_timings.items n) (slice_get parts.check_conditions.items n)) (λ n. of_item (λ (w : Coded). check_pairs classes w.timing w.written) (slice_get all_coded n))
      (elements_on s (pins_by coded_scope any_coded 0 all_coded)) (pairs-of-coded parts.conditions.items classes s parts.checks.items parts.check_timings.items parts.check_conditions.items closed.timing_of_each conditions-of-each)
      ∙ (gathered_items coded_scope any_coded s all_coded (λ w. check_pairs classes w.timing w.written) (λ w. map (portion_pair parts.conditions.items classes s) (portions_of parts.conditions.items classes s w))
      (λ w same. pairs-of-parts parts.conditions.items classes s w.timing w.written (parts_of w.timing.kind w.timing.limits) ∙ sym (ap (λ b. map (portion_pair parts.conditions.items classes s) (portions b w)) (eq-eqb w.check.scope s same)))
      (λ w h. no-portions parts.conditions.items classes s (w.check.scope == s) w h)
      ∙ flat-mapped (portion_pair parts.conditions.items classes s) (portions_of parts.conditions.items classes s) all_coded))

  module _ (indexed : AreIndexed parts) (are : AreClasses parts.conditions.items classes) where
    all-fine : All (IsFine parts.conditions.items classes s) all_portions
    all-fine =
        all-flat (IsFine parts.conditions.items classes s) (portions_of parts.conditions.items classes s) all_coded
        (λ k d l. fine-portions parts.conditions.items classes s ((slice_index_or all_coded k d).check.scope == s) (slice_index_or all_coded k d)
        (coded-written (AreWritten (length parts.conditions.items)) parts.checks.items parts.check_timings.items parts.check_conditions.items indexed.written k d l))

    checks-alike : Differ (map (portion_pair parts.conditions.items classes s) all_portions) ↔ Disagree (λ (e : CheckEntry). e.key) (λ (e : CheckEntry). e.limit) (map (portion_entry parts.conditions.items classes s) all_portions)
    checks-alike =
        differ-alike (IsFine parts.conditions.items classes s) (portion_pair parts.conditions.items classes s) (portion_entry parts.conditions.items classes s) (λ (e : CheckEntry). e.key) (λ (e : CheckEntry). e.limit) all_portions all-fine
        (λ x y g f. part_codes parts.conditions.items classes are x.timing y.timing x.written y.written x.part y.part g f) (λ x y g f. part_keys parts.conditions.items classes are x.timing y.timing x.written y.written x.part y.part g f)
        (λ x y e. e) (λ x y e. e)

    pub checks_disagree : (g : Groups) → AreGroups parts g → s < length parts.scopes.items → (numbers : List ℕ) → numbers ≡ readers_at g.checks s → (b : Bool) → IsTrue b ↔ Differ (pairs_of_checks parts classes numbers)
        → IsTrue b ↔ Disagree (λ (e : CheckEntry). e.key) (λ (e : CheckEntry). e.limit) (check_entries (circuit_seen parts) s)
    checks_disagree g groups within numbers e b both =
        let is = check-pairs-are numbers (e ∙ check_numbers parts g groups s within) in
        subst (λ es. IsTrue b ↔ Disagree (λ (x : CheckEntry). x.key) (λ (x : CheckEntry). x.limit) es) (sym (entries-of-coded parts.conditions.items classes s parts.checks.items parts.check_timings.items parts.check_conditions.items))
        (λ t. checks-alike.0 (subst (λ ps. Differ ps) is (both.0 t)), λ d. both.1 (subst (λ ps. Differ ps) (sym is) (checks-alike.1 d)))
