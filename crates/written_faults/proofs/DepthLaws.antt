-- The conditions of a scope that nest too deep, by its elements and timing checks.
use Rattle.std.proofs.Common.{◌≡◌, ℕ, zero, suc, ◌-◌, ◌<◌, ◌≤◌, Bool, true, false, All, List, [], ◌∷◌, ◌++◌, Option, Some, None, length, map, drop, take, slice_index_or, refl, sym, ◌∙◌, ap, arith, is_some}
use Rattle.std.specs.Prelude.{ℤ, ◌==◌, ◌&&◌, ◌||◌, IfSome, flat_map, max, nat_lt}
use Rattle.std.specs.List.{list_any}
use Rattle.std.specs.Option.{option_map}
use Rattle.std.proofs.Math.Bool.{and-false, or-false}
use Rattle.std.proofs.Math.Seq.{drop-cons}
use Rattle.std.proofs.lemmas.Bool.Decides.{nat_tests}
use Rattle.std.proofs.lemmas.List.{drop_all, take_all, length-map}
use Rattle.std.proofs.lemmas.List.Folds.{list_any-append}
use Rattle.cond_expr.specs.declared.tokens.Tok.TheVariants as tok
use Rattle.cond_expr.specs.Condition.{Condition}
use Rattle.cond_expr.specs.Token.{Tok}
use Rattle.sg_circuit.specs.declared.checks.CheckConditions as code_conditions
use Rattle.sg_circuit.specs.declared.checks.CheckKind.{CheckKind}
use Rattle.sg_circuit.specs.declared.checks.CheckKind.TheVariants as kind
use Rattle.sg_circuit.specs.declared.checks.CheckTiming.{CheckTiming}
use Rattle.sg_circuit.specs.declared.checks.Event.{Event}
use Rattle.sg_circuit.specs.declared.circuits.Parts.{Parts}
use Rattle.sg_circuit.specs.declared.elements.LegTiming.{LegTiming}
use Rattle.sg_circuit.specs.declared.paths.Path as code_path
use Rattle.sg_circuit.specs.declared.paths.PathCondition as code_condition
use Rattle.sg_circuit.specs.declared.paths.PathCondition.TheVariants as code
use Rattle.sg_circuit.specs.ChecksSeen.{text_at, written_seen, AreWritten}
use Rattle.sg_circuit.specs.Circuit.{Circuit, Element, element_at}
use Rattle.sg_circuit.specs.Closed.{IsClosed}
use Rattle.sg_circuit.specs.FanOut.{readers_at}
use Rattle.sg_circuit.specs.PathsSeen.{condition_seen, path_seen, paths_seen, written_at, IsIndexedCondition, IsIndexedPath}
use Rattle.sg_circuit.specs.Seen.{circuit_seen}
use Rattle.annotation_model.specs.Finding.{check_at}
use Rattle.annotation_model.specs.Same.{bare}
use Rattle.annotation_model.specs.Spots.{Checked, all_checked, Spot, leg_spot, path_spot, spots}
use Rattle.annotation_model.proofs.EntryLaws.{any-same}
use Rattle.written_entries.specs.declared.groups.Groups.{Groups}
use Rattle.written_entries.specs.Groups.{AreGroups}
use Rattle.written_entries.proofs.NumberLaws.{check_numbers}
use Rattle.written_model.specs.declared.parts.Part.{Part}
use Rattle.written_model.specs.Entries.{PathEntry, CheckEntry, check_entries, condition_of, event_key, numbers_of, parts_of, path_entries, path_key, paths_at}
use Rattle.written_model.specs.Faults.{conditions, datum_conditions, depth_from, event_conditions, is_too_deep, path_conditions}
use Rattle.written_faults.specs.Classes.{AreDeep}
use Rattle.written_faults.specs.Depths.{check_deep, condition_deep, delayed_deep, is_deep, leg_deep, open_behind, path_deep, place_deep}
use Rattle.written_faults.proofs.AnyLaws.{any-alike, any-flat, any-if, any-map}
use Rattle.written_faults.proofs.ScopeLaws.{any_check_of, any_element, any_entry, any_spot, passes}

-- ---- one condition

-- behind so many that are open no fewer are
depth-grows : (u : ℕ) (ts : List Tok) → u ≤ depth_from u ts
depth-grows u [] = omega arith
depth-grows u (tok.Left ∷ ts) = let h = depth-grows (suc u) ts in omega (arith, h)
depth-grows u (tok.Right ∷ ts) = omega arith
depth-grows u (tok.Name name ∷ ts) = depth-grows u ts
depth-grows u (tok.Index index ∷ ts) = depth-grows u ts
depth-grows u (tok.Const value ∷ ts) = depth-grows u ts
depth-grows u (tok.Op op ∷ ts) = depth-grows u ts

under-max : (u n : ℕ) → u ≤ 27 → nat_lt 27 (max u n) ≡ nat_lt 27 n
under-max u n l = grind (arith, nat_tests)

depth-step : (u : ℕ) (t : Tok) (ts : List Tok) → u ≤ 27 → nat_lt 27 (depth_from u (t ∷ ts)) ≡ nat_lt 27 (depth_from (open_behind u t) ts)
depth-step u tok.Left ts l = refl
depth-step u tok.Right ts l = under-max u (depth_from (u - 1) ts) l
depth-step u (tok.Name name) ts l = refl
depth-step u (tok.Index index) ts l = refl
depth-step u (tok.Const value) ts l = refl
depth-step u (tok.Op op) ts l = refl

-- so many are open behind the tokens so far, and what is left says whether all nest too deep
pub record IsLeft (ts : List Tok) (i unclosed : ℕ) : Type 0 where
  pub deep : nat_lt 27 (depth_from unclosed (drop i ts)) ≡ is_deep ts
  pub few : unclosed ≤ 27

pub left_first : (ts : List Tok) → IsLeft ts 0 0
left_first ts = record { deep = refl; few = omega arith }

next : (ts : List Tok) (i u : ℕ) (d : Tok) → i < length ts → IsLeft ts i u → nat_lt 27 (depth_from (open_behind u (slice_index_or ts i d)) (drop (suc i) ts)) ≡ is_deep ts
next ts i u d l h =
    sym (depth-step u (slice_index_or ts i d) (drop (suc i) ts) h.few) ∙ (ap (λ xs. nat_lt 27 (depth_from u xs)) (sym (drop-cons ts i d l)) ∙ h.deep)

pub left_more : (ts : List Tok) (i u v : ℕ) (d : Tok) → i < length ts → IsLeft ts i u → v ≡ open_behind u (slice_index_or ts i d) → v ≤ 27 → IsLeft ts (suc i) v
left_more ts i u v d l h is few = record { deep = ap (λ n. nat_lt 27 (depth_from n (drop (suc i) ts))) is ∙ next ts i u d l h; few = few }

pub left_over : (ts : List Tok) (i u v : ℕ) (t : Tok) → i < length ts → IsLeft ts i u → t ≡ slice_index_or ts i t → v ≡ open_behind u t → 27 < v → true ≡ is_deep ts
left_over ts i u v t l h is e over =
    let more = depth-grows v (drop (suc i) ts) in
    let deep : nat_lt 27 (depth_from v (drop (suc i) ts)) ≡ true = test (depth_from v (drop (suc i) ts)) (omega (arith, more, over)) in
    sym deep ∙ (ap (λ n. nat_lt 27 (depth_from n (drop (suc i) ts))) (e ∙ ap (open_behind u) is) ∙ next ts i u t l h)
  where
    test : (n : ℕ) → 27 < n → nat_lt 27 n ≡ true
    test n k = grind (arith, nat_tests)

pub left_none : (ts : List Tok) (i u : ℕ) → length ts ≤ i → IsLeft ts i u → false ≡ is_deep ts
left_none ts i u l h = sym (test u h.few) ∙ (ap (λ xs. nat_lt 27 (depth_from u xs)) (sym (drop_all i ts l)) ∙ h.deep)
  where
    test : (n : ℕ) → n ≤ 27 → nat_lt 27 n ≡ false
    test n k = grind (arith, nat_tests)

-- ---- the conditions of a table

module _ (conditions : List Condition) (deep : List Bool) (are : AreDeep conditions deep) where
  -- one place of the table
  place-is : (i : ℕ) → i < length conditions → (is_deep (bare (written_at conditions i)) || false) ≡ slice_index_or deep i false
  place-is i l = or-false (is_deep (bare (written_at conditions i))) ∙ sym (are.is i false l)

  condition-is : (p : code_condition.PathCondition) → IsIndexedCondition (length conditions) p → condition_deep deep p ≡ list_any is_deep (path_conditions (condition_of (condition_seen conditions p)))
  condition-is code.Always l = refl
  condition-is (code.If written bound) l = sym (place-is written l)
  condition-is code.IfNone l = refl

  -- the paths of a span
  pub paths_are : (timings : List LegTiming) (xs ys : List code_path.Path) (b : Bool) → ys ≡ xs → All (IsIndexedPath (length conditions) (length timings)) xs
      → b ≡ list_any (λ (p : code_path.Path). condition_deep deep p.condition) ys → b ≡ list_any path_deep (paths_seen conditions timings xs)
  paths_are timings xs ys b e each h =
      h ∙ (ap (list_any (λ (p : code_path.Path). condition_deep deep p.condition)) e
      ∙ (any-alike (λ (p : code_path.Path). condition_deep deep p.condition) (λ p. path_deep (path_seen conditions timings p)) xs (λ k d l. condition-is (slice_index_or xs k d).condition (each k d l).condition)
      ∙ sym (any-map path_deep (path_seen conditions timings) xs)))

  event-is : (place : Option ℕ) → IfSome place (λ p. p < length conditions) → list_any is_deep (event_conditions (option_map bare (text_at conditions place))) ≡ place_deep deep place
  event-is None l = refl
  event-is (Some place) l = place-is place l

  datum-is : (datum : Option Event) (place : Option ℕ) → IfSome place (λ p. p < length conditions) → list_any is_deep (datum_conditions (option_map (λ (e : Event). event_key e (text_at conditions place)) datum)) ≡ (is_some datum && place_deep deep place)
  datum-is None place l = refl
  datum-is (Some event) place l = event-is place l

  -- a timing check's
  pub check_is : (k : Checked) (t : CheckTiming) (w : code_conditions.CheckConditions) (b has_datum : Bool) → AreWritten (length conditions) w → k.timing ≡ t → k.written ≡ written_seen conditions w → has_datum ≡ is_some t.datum
      → b ≡ (place_deep deep w.refer || (has_datum && place_deep deep w.datum)) → b ≡ check_deep k
  check_is k t w b has_datum there timing written some h =
      let refer = event_conditions (option_map bare (text_at conditions w.refer)) in
      let datum = datum_conditions (option_map (λ (e : Event). event_key e (text_at conditions w.datum)) t.datum) in
      h ∙ (ap (λ c. place_deep deep w.refer || (c && place_deep deep w.datum)) some
      ∙ (ap (λ c. c || (is_some t.datum && place_deep deep w.datum)) (sym (event-is w.refer there.refer))
      ∙ (ap (λ c. list_any is_deep refer || c) (sym (datum-is t.datum w.datum there.datum))
      ∙ (sym (list_any-append is_deep refer datum)
      ∙ (ap (λ ts. list_any is_deep (refer ++ datum_conditions (option_map (λ (e : Event). event_key e (text_at conditions w.datum)) ts.datum))) (sym timing)
      ∙ ap (λ ws. list_any is_deep (event_conditions (option_map bare ws.refer) ++ datum_conditions (option_map (λ (e : Event). event_key e ws.datum) k.timing.datum))) (sym written))))))

-- which of them nest too deep
pub deep_of : (conditions : List Condition) (deep : List Bool) (n : ℕ) → deep ≡ map (λ c. is_deep (bare c.tokens)) (take n conditions) → length conditions ≤ n → AreDeep conditions deep
deep_of conditions deep n made all = record {
  each = ap length e ∙ length-map conditions (λ c. is_deep (bare c.tokens));
  is = λ i d l. at i d l;
}
  where
    e : deep ≡ map (λ c. is_deep (bare c.tokens)) conditions
    e = made ∙ ap (map (λ c. is_deep (bare c.tokens))) (take_all n conditions all)

    at : (i : ℕ) (d : Bool) → i < length conditions → slice_index_or deep i d ≡ is_deep (bare (written_at conditions i))
    at i d l = ap (λ xs. slice_index_or xs i d) e ∙ by conditions i d l
      where
        by : (cs : List Condition) (i : ℕ) (d : Bool) → i < length cs → slice_index_or (map (λ c. is_deep (bare c.tokens)) cs) i d ≡ is_deep (bare (written_at cs i))
        by [] i d l = absurd (omega (arith, l))
        by (c ∷ cs) zero d l = refl
        by (c ∷ cs) (suc i) d l = by cs i d (omega (arith, l))

-- ---- the conditions of a scope

any-part : (b : Bool) (kind : CheckKind) (limits : List ℤ) → list_any (λ (part : Part × ℤ). b) (parts_of kind limits) ≡ b
any-part b kind.Setup limits = or-false b
any-part b kind.Hold limits = or-false b
any-part b kind.Recovery limits = or-false b
any-part b kind.Removal limits = or-false b
any-part b kind.Skew limits = or-false b
any-part true kind.Setuphold limits = refl
any-part false kind.Setuphold limits = refl
any-part true kind.Recrem limits = refl
any-part false kind.Recrem limits = refl
any-part b kind.Width limits = or-false b
any-part b kind.Period limits = or-false b

abbrev path_has : PathEntry → Bool
path_has e = list_any is_deep (path_conditions e.key.condition)

abbrev check_has : CheckEntry → Bool
check_has e = list_any is_deep (event_conditions e.key.refer.condition ++ datum_conditions e.key.datum)

spot-conditions : (s : ℕ) (spot : Spot) → list_any path_has (paths_at s spot) ≡ passes leg_deep path_deep s spot
spot-conditions s (leg_spot scope inputs output timings) = sym (and-false (scope == s))
spot-conditions s (path_spot scope output p) =
    any-if (scope == s) path_has (record { key = path_key output p; numbers = map numbers_of p.timings } ∷ []) ∙ ap (λ b. (scope == s) && b) (or-false (path_deep p))

pub depths_of_scope : (c : Circuit) (s : ℕ) → is_too_deep c s ≡ (list_any (λ (e : Element). (e.scope == s) && delayed_deep e.kind) c.elements || list_any (λ (k : Checked). (k.check.scope == s) && check_deep k) (all_checked c))
depths_of_scope c s =
    list_any-append is_deep (flat_map (λ (e : PathEntry). path_conditions e.key.condition) (path_entries c s)) (flat_map (λ (e : CheckEntry). event_conditions e.key.refer.condition ++ datum_conditions e.key.datum) (check_entries c s))
    ∙ (ap (λ b. b || list_any is_deep (flat_map (λ (e : CheckEntry). event_conditions e.key.refer.condition ++ datum_conditions e.key.datum) (check_entries c s)))
    (any-flat is_deep (λ (e : PathEntry). path_conditions e.key.condition) (path_entries c s)
    ∙ (any-flat path_has (paths_at s) (spots c)
    ∙ (any-same (λ spot. list_any path_has (paths_at s spot)) (passes leg_deep path_deep s) (spots c) (spot-conditions s) ∙ any_spot leg_deep path_deep c s)))
    ∙ ap (λ b. list_any (λ (e : Element). (e.scope == s) && delayed_deep e.kind) c.elements || b)
    (any-flat is_deep (λ (e : CheckEntry). event_conditions e.key.refer.condition ++ datum_conditions e.key.datum) (check_entries c s)
    ∙ (any_entry c s check_has
    ∙ any-same (λ (k : Checked). (k.check.scope == s) && list_any (λ (part : Part × ℤ). check_deep k) (parts_of k.timing.kind k.timing.limits)) (λ (k : Checked). (k.check.scope == s) && check_deep k) (all_checked c)
    (λ k. ap (λ b. (k.check.scope == s) && b) (any-part (check_deep k) k.timing.kind k.timing.limits)))))

pub depths_found : (parts : Parts) (g : Groups) (s : ℕ) → IsClosed (circuit_seen parts) → AreGroups parts g → s < length parts.scopes.items
    → is_too_deep (circuit_seen parts) s ≡ (list_any (λ n. delayed_deep (element_at (circuit_seen parts) n).kind) (readers_at g.elements s) || list_any (λ n. check_deep (check_at (circuit_seen parts) n)) (readers_at g.checks s))
depths_found parts g s closed groups within =
    depths_of_scope (circuit_seen parts) s
    ∙ (ap (λ b. b || list_any (λ (k : Checked). (k.check.scope == s) && check_deep k) (all_checked (circuit_seen parts))) (sym (any_element leg_deep path_deep parts g s groups within))
    ∙ ap (λ b. list_any (λ n. delayed_deep (element_at (circuit_seen parts) n).kind) (readers_at g.elements s) || b) (sym (any_check_of (circuit_seen parts) closed (readers_at g.checks s) s check_deep (check_numbers parts g groups s within))))
