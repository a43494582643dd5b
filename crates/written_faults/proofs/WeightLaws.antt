-- Limits of a scope that weigh too much, by its timing checks.
use Rattle.std.proofs.Common.{◌≡◌, ℕ, ◌<◌, Bool, true, false, List, Option, Some, None, length, slice_index_or, unwrap_or, refl, sym, ◌∙◌, ap, inl}
use Rattle.std.specs.Prelude.{ℤ, ◌==◌, ◌&&◌, ◌||◌, IfSome}
use Rattle.std.specs.Cmp.{unsigned_Decides}
use Rattle.std.specs.List.{list_any}
use Rattle.std.specs.Option.{option_map}
use Rattle.std.proofs.Math.Bool.{or-false}
use Rattle.std.proofs.lemmas.Bool.Decides.{same_from_decides}
use Rattle.cond_expr.specs.Condition.{Condition}
use Rattle.cond_expr.specs.Token.{Tok}
use Rattle.cond_expr.proofs.Cores.{one_core}
use Rattle.sg_circuit.specs.declared.checks.CheckConditions as code_conditions
use Rattle.sg_circuit.specs.declared.checks.CheckTiming.{CheckTiming}
use Rattle.sg_circuit.specs.declared.checks.Event.{Event}
use Rattle.sg_circuit.specs.declared.circuits.Parts.{Parts}
use Rattle.sg_circuit.specs.ChecksSeen.{text_at, written_seen, AreWritten}
use Rattle.sg_circuit.specs.Circuit.{Circuit}
use Rattle.sg_circuit.specs.Closed.{IsClosed}
use Rattle.sg_circuit.specs.FanOut.{readers_at}
use Rattle.sg_circuit.specs.PathsSeen.{written_at}
use Rattle.sg_circuit.specs.Seen.{circuit_seen}
use Rattle.sg_circuit.specs.Signals.{signals}
use Rattle.annotation_model.specs.Finding.{check_at}
use Rattle.annotation_model.specs.Same.{bare, fits_edge, fits_words, same_condition}
use Rattle.annotation_model.specs.Spots.{Checked, all_checked}
use Rattle.annotation_model.proofs.EntryLaws.{any-same}
use Rattle.annotation_conditions.proofs.SameLaws.{bare_is_core}
use Rattle.annotation_conditions.proofs.TokenLaws.{tokens_eq-decides}
use Rattle.written_entries.specs.declared.groups.Groups.{Groups}
use Rattle.written_entries.specs.Groups.{AreGroups}
use Rattle.written_entries.proofs.NumberLaws.{check_numbers}
use Rattle.written_model.specs.declared.parts.Part.{Part}
use Rattle.written_model.specs.Entries.{check_entries, check_entry, edge_of, event_key, limit_at, parts_of}
use Rattle.written_model.specs.Faults.{is_for_datum, is_for_event, is_heavy, is_part_of}
use Rattle.written_faults.specs.Classes.{AreClasses}
use Rattle.written_faults.specs.Weights.{check_heavy, fits_class, fits_datum, fits_event, fits_events, is_for_check, is_heavy_limit, part_heavy, part_key, parts_with}
use Rattle.written_faults.proofs.ScopeLaws.{any_check_of, any_entry, timing_there}

-- ---- conditions, by the numbers that tell them apart

-- without parentheses round it a list has none to take off
bare-bare : (ts : List Tok) → bare (bare ts) ≡ bare ts
bare-bare ts = one_core (bare ts) (bare (bare ts)) (bare ts) (bare_is_core (bare ts)) (record { pairs = 0; is = refl; balanced = inl refl; bare = (bare_is_core ts).bare })

module _ (conditions : List Condition) (classes : List ℕ) (are : AreClasses conditions classes) where
  class-is : (wanted written : Option ℕ) → IfSome wanted (λ p. p < length conditions) → IfSome written (λ p. p < length conditions)
      → fits_words (option_map bare (text_at conditions wanted)) (text_at conditions written) ≡ fits_class classes wanted written
  class-is None written l m = refl
  class-is (Some i) None l m = refl
  class-is (Some i) (Some j) l m =
      let one = written_at conditions i in
      let other = written_at conditions j in
      let same = are.same i j l m in
      let test = tokens_eq-decides (bare other) (bare (bare one)) in
      let numbers = unsigned_Decides (slice_index_or classes i 0) (slice_index_or classes j 0) in
      same_from_decides {P = bare other ≡ bare one} (same_condition other (bare one)) (slice_index_or classes i 0 == slice_index_or classes j 0)
      (λ e. test.0 e ∙ bare-bare one, λ e. test.1 (e ∙ sym (bare-bare one)))
      (λ e. sym (same.0 (numbers.0 e)), λ e. numbers.1 (same.1 (sym e)))

  event-is : (e other : Event) (wanted written : Option ℕ) → IfSome wanted (λ p. p < length conditions) → IfSome written (λ p. p < length conditions)
      → is_for_event (event_key e (text_at conditions wanted)) other (text_at conditions written) ≡ fits_event classes e wanted other written
  event-is e other wanted written l m = ap (λ b. (e.net == other.net) && (fits_edge (edge_of e.edge) other.edge && b)) (class-is wanted written l m)

  datum-is : (datum other : Option Event) (wanted written : Option ℕ) → IfSome wanted (λ p. p < length conditions) → IfSome written (λ p. p < length conditions)
      → is_for_datum (option_map (λ (e : Event). event_key e (text_at conditions wanted)) datum) other (text_at conditions written) ≡ fits_datum classes datum wanted other written
  datum-is None other wanted written l m = refl
  datum-is (Some e) None wanted written l m = refl
  datum-is (Some e) (Some other) wanted written l m = event-is e other wanted written l m

  pub for_is : (k w : Checked) (part : Part) (t o : CheckTiming) (wanted written : code_conditions.CheckConditions) → AreWritten (length conditions) wanted → AreWritten (length conditions) written
      → k.timing ≡ t → k.written ≡ written_seen conditions wanted → w.timing ≡ o → w.written ≡ written_seen conditions written
      → is_for_check (part_key k part) w ≡ (is_part_of part o.kind && fits_events classes t wanted o written)
  for_is k w part t o wanted written there written_there k_timing k_written w_timing w_written =
      ap (λ ws. is_part_of part w.timing.kind && (is_for_event (event_key k.timing.refer ws.refer) w.timing.refer w.written.refer && is_for_datum (option_map (λ (e : Event). event_key e ws.datum) k.timing.datum) w.timing.datum w.written.datum)) k_written
      ∙ (ap (λ ts. is_part_of part w.timing.kind && (is_for_event (event_key ts.refer (text_at conditions wanted.refer)) w.timing.refer w.written.refer && is_for_datum (option_map (λ (e : Event). event_key e (text_at conditions wanted.datum)) ts.datum) w.timing.datum w.written.datum)) k_timing
      ∙ (ap (λ ws. is_part_of part w.timing.kind && (is_for_event (event_key t.refer (text_at conditions wanted.refer)) w.timing.refer ws.refer && is_for_datum (option_map (λ (e : Event). event_key e (text_at conditions wanted.datum)) t.datum) w.timing.datum ws.datum)) w_written
      ∙ (ap (λ ts. is_part_of part ts.kind && (is_for_event (event_key t.refer (text_at conditions wanted.refer)) ts.refer (text_at conditions written.refer) && is_for_datum (option_map (λ (e : Event). event_key e (text_at conditions wanted.datum)) t.datum) ts.datum (text_at conditions written.datum))) w_timing
      ∙ (ap (λ b. is_part_of part o.kind && (b && is_for_datum (option_map (λ (e : Event). event_key e (text_at conditions wanted.datum)) t.datum) o.datum (text_at conditions written.datum))) (event-is t.refer o.refer wanted.refer written.refer there.refer written_there.refer)
      ∙ ap (λ b. is_part_of part o.kind && (fits_event classes t.refer wanted.refer o.refer written.refer && b)) (datum-is t.datum o.datum wanted.datum written.datum there.datum written_there.datum)))))

-- ---- the parts of a check

-- what is asked of a check's parts is asked of the first, and of the second where it has one
module _ (p : Part × ℤ → Bool) (limits : List ℤ) where
  first-passes : (found : Part × Option Part) (b : Bool) → b ≡ p (found.0, limit_at limits 0) → b ≡ true → true ≡ list_any p (parts_with found limits)
  first-passes (first, None) b e h = sym (ap (λ c. c || false) (sym e ∙ h))
  first-passes (first, Some second) b e h = sym (ap (λ c. c || (p (second, limit_at limits 1) || false)) (sym e ∙ h))

  second-passes : (found : Part × Option Part) (second : Part) (b d : Bool) → found.1 ≡ Some second → b ≡ p (found.0, limit_at limits 0) → b ≡ false → d ≡ p (second, limit_at limits 1) → d ≡ list_any p (parts_with found limits)
  second-passes (first, None) second b d is e h f = absurd cc
  second-passes (first, Some other) second b d is e h f =
      f ∙ (ap (λ (o : Option Part). p (unwrap_or o second, limit_at limits 1)) (sym is) ∙ sym (ap (λ c. c || (p (other, limit_at limits 1) || false)) (sym e ∙ h) ∙ or-false (p (other, limit_at limits 1))))

  none-passes : (found : Part × Option Part) (b : Bool) → found.1 ≡ None → b ≡ p (found.0, limit_at limits 0) → b ≡ false → false ≡ list_any p (parts_with found limits)
  none-passes (first, None) b is e h = sym (ap (λ c. c || false) (sym e ∙ h))
  none-passes (first, Some second) b is e h = absurd cc

module _ (c : Circuit) (closed : IsClosed c) (n : ℕ) (windows : List ℕ) (check : ℕ) (t : CheckTiming) (l : check < length c.checks) (is : t ≡ slice_index_or c.check_timings check t)
    (found : Part × Option Part) (are : (limits : List ℤ) → parts_with found limits ≡ parts_of t.kind limits) (b : Bool) (e : b ≡ part_heavy c n windows check (found.0, limit_at (check_at c check).timing.limits 0)) where
  by-parts : list_any (part_heavy c n windows check) (parts_with found (check_at c check).timing.limits) ≡ check_heavy c n windows check
  by-parts = ap (list_any (part_heavy c n windows check)) (are (check_at c check).timing.limits ∙ ap (λ (ts : CheckTiming). parts_of ts.kind (check_at c check).timing.limits) (sym (timing_there c closed check t l is)))

  pub first_heavy : b ≡ true → true ≡ check_heavy c n windows check
  first_heavy h = first-passes (part_heavy c n windows check) (check_at c check).timing.limits found b e h ∙ by-parts

  pub second_heavy : (second : Part) (d : Bool) → b ≡ false → found.1 ≡ Some second → d ≡ part_heavy c n windows check (second, limit_at (check_at c check).timing.limits 1) → d ≡ check_heavy c n windows check
  second_heavy second d h some f = second-passes (part_heavy c n windows check) (check_at c check).timing.limits found second b d some e h f ∙ by-parts

  pub none_heavy : b ≡ false → found.1 ≡ None → false ≡ check_heavy c n windows check
  none_heavy h none = none-passes (part_heavy c n windows check) (check_at c check).timing.limits found b none e h ∙ by-parts

-- ---- the limits of a scope

pub heavy_found : (parts : Parts) (g : Groups) (s : ℕ) → IsClosed (circuit_seen parts) → AreGroups parts g → s < length parts.scopes.items → (n : ℕ) → n ≡ length (signals parts.checks.items parts.check_timings.items s)
    → list_any (is_heavy (circuit_seen parts) s) (check_entries (circuit_seen parts) s) ≡ list_any (check_heavy (circuit_seen parts) n (readers_at g.checks s)) (readers_at g.checks s)
heavy_found parts g s closed groups within n many =
    any_entry c s (is_heavy c s)
    ∙ (sym (any_check_of c closed windows s (λ k. list_any (λ part. is_heavy c s (check_entry k part)) (parts_of k.timing.kind k.timing.limits)) (check_numbers parts g groups s within))
    ∙ any-same (λ i. list_any (λ part. is_heavy c s (check_entry (check_at c i) part)) (parts_of (check_at c i).timing.kind (check_at c i).timing.limits)) (check_heavy c n windows) windows
    (λ i. any-same (λ part. is_heavy c s (check_entry (check_at c i) part)) (part_heavy c n windows i) (parts_of (check_at c i).timing.kind (check_at c i).timing.limits) (λ part. one (check_at c i) part)))
  where
    c : Circuit
    c = circuit_seen parts

    windows : List ℕ
    windows = readers_at g.checks s

    one : (k : Checked) (part : Part × ℤ) → is_heavy c s (check_entry k part) ≡ (is_heavy_limit n part.1 && list_any (λ w. is_for_check (part_key k part.0) (check_at c w)) windows)
    one k part =
        ap (λ m. is_heavy_limit m part.1 && list_any (λ (w : Checked). (w.check.scope == s) && is_for_check (part_key k part.0) w) (all_checked c)) (sym many)
        ∙ ap (λ b. is_heavy_limit n part.1 && b) (sym (any_check_of c closed windows s (is_for_check (part_key k part.0)) (check_numbers parts g groups s within)))

-- of checks that are known by an equation
pub heavy_there : (c : Circuit) (n : ℕ) (ks ws : List ℕ) (b whole : Bool) → whole ≡ list_any (check_heavy c n ws) ws → ks ≡ ws → b ≡ list_any (check_heavy c n ks) ks → b ≡ whole
heavy_there c n ks ws b whole w e h = h ∙ (ap (λ xs. list_any (check_heavy c n xs) xs) e ∙ sym w)
