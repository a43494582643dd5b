-- A circuit with the timings and limits after entries is the annotated one.
use Rattle.std.specs.Prelude.{◌≡◌, ℕ, zero, suc, ◌+◌, ◌<◌, List, [], ◌∷◌, ◌++◌, length, map, drop, Option, Some, None, slice_index_or, refl, ℤ}
use Rattle.std.specs.Global.{Box}
use Rattle.std.specs.List.{flat_map}
use Rattle.std.proofs.Common.{◌∙◌, ap, sym, subst, arith}
use Rattle.std.proofs.lemmas.List.{length-append, length-map, get_or_append_left, get_or-append-add}
use Rattle.sg_delay.specs.declared.corners.Corner.{Corner}
use Rattle.sg_circuit.specs.Checks.{CheckConditions}
use Rattle.sg_circuit.specs.Paths as specify
use Rattle.sg_circuit.specs.Timings.{Timing}
use Rattle.sg_circuit.specs.Circuit.{Circuit, Element, Kind, Gate, Udp, Pass, Leg, Path, Late}
use Rattle.sg_circuit.specs.declared.checks.Check.{Check}
use Rattle.sg_circuit.specs.declared.checks.CheckTiming.{CheckTiming}
use Rattle.sg_circuit.specs.declared.elements.LegTiming.{LegTiming}
use Rattle.late_limits.specs.Adjustments as late
use Rattle.circuit_open.proofs.ChangeLaws.{both}
use Rattle.sdf_tree.specs.Meant.{Sdf}
use Rattle.annotation_model.specs.Annotated.{annotated_by, annotated_check, annotated_element, annotated_kind, annotated_path}
use Rattle.annotation_model.specs.Given.{Given}
use Rattle.annotation_model.specs.Spots.{Checked, Spot, leg_spot, path_spot, all_checked, checked, limits_after, spot_after, spots, spots_in, spots_of, timings_of}
use Rattle.annotation_setting.specs.Limits.{limited, with_all_limits}
use Rattle.annotation_setting.specs.Table.{timings_or, timings_seen}
use Rattle.annotation_setting.specs.Timings.{at, new_elements, new_kind, new_or, new_paths, with_timings}

-- ---- timings

abbrev Table : Type 0
Table = ℕ → Option (Box LegTiming)

-- what a table numbered from k has for some legs and paths
abbrev Gives : Table → ℕ → (Spot → List Timing) → List Spot → Type 0
Gives f k F ss = (j : ℕ) (d : Spot) → j < length ss → timings_or (slice_index_or ss j d) (f (k + j)) ≡ F (slice_index_or ss j d)

or-same : (s : Spot) (o : Option (Box LegTiming)) → new_or (timings_of s) o ≡ timings_or s o
or-same s None = refl
or-same s (Some new) = refl

table-gives : (ss : List Spot) (ts : List (Option (Box LegTiming))) (F : Spot → List Timing) → timings_seen ss ts ≡ map F ss → Gives (at ts) 0 F ss
table-gives ss ts F e j d l = subst (λ n. timings_or (slice_index_or ss j d) (at ts n) ≡ F (slice_index_or ss j d)) (let z : j ≡ 0 + j = omega arith in z) (by ss ts e j d l)
  where
    by : (ss : List Spot) (ts : List (Option (Box LegTiming))) → timings_seen ss ts ≡ map F ss → (j : ℕ) (d : Spot) → j < length ss → timings_or (slice_index_or ss j d) (at ts j) ≡ F (slice_index_or ss j d)
    by [] ts e j d l = absurd (omega arith)
    by (s ∷ ss) [] e j d l = let n : 0 ≡ suc (length (map F ss)) = ap length e in absurd (omega arith)
    by (s ∷ ss) (t ∷ ts) e zero d l = ap (λ xs. slice_index_or xs 0 []) e
    by (s ∷ ss) (t ∷ ts) e (suc j) d l = by ss ts (ap (drop 1) e) j d (omega arith)

gives-left : (f : Table) (k : ℕ) (F : Spot → List Timing) (xs ys : List Spot) → Gives f k F (xs ++ ys) → Gives f k F xs
gives-left f k F xs ys h j d l =
    subst (λ s. timings_or s (f (k + j)) ≡ F s) (get_or_append_left xs ys d j l) (h j d (let n : length (xs ++ ys) ≡ length xs + length ys = length-append xs ys in omega arith))

gives-right : (f : Table) (k : ℕ) (F : Spot → List Timing) (xs ys : List Spot) → Gives f k F (xs ++ ys) → Gives f (k + length xs) F ys
gives-right f k F xs ys h j d l =
    subst (λ n. timings_or (slice_index_or ys j d) (f n) ≡ F (slice_index_or ys j d)) (let z : k + (length xs + j) ≡ (k + length xs) + j = omega arith in z)
    (subst (λ s. timings_or s (f (k + (length xs + j))) ≡ F s) (get_or-append-add xs ys j d) (h (length xs + j) d (let n : length (xs ++ ys) ≡ length xs + length ys = length-append xs ys in omega arith)))

gives-first : (f : Table) (k : ℕ) (F : Spot → List Timing) (s : Spot) (ss : List Spot) → Gives f k F (s ∷ ss) → new_or (timings_of s) (f k) ≡ F s
gives-first f k F s ss h = or-same s (f k) ∙ subst (λ n. timings_or s (f n) ≡ F s) (let z : k + 0 ≡ k = omega arith in z) (h 0 s (omega arith))

gives-others : (f : Table) (k : ℕ) (F : Spot → List Timing) (s : Spot) (ss : List Spot) → Gives f k F (s ∷ ss) → Gives f (suc k) F ss
gives-others f k F s ss h j d l =
    subst (λ n. timings_or (slice_index_or ss j d) (f n) ≡ F (slice_index_or ss j d)) (let z : k + suc j ≡ suc k + j = omega arith in z) (h (suc j) d (omega arith))

module _ (c : Circuit) (sdf : Sdf) (corner : Corner) (gs : List Given) where
  abbrev F : Spot → List Timing
  F s = spot_after c sdf corner gs s

  paths-annotated : (f : Table) (k s o : ℕ) (ps : List specify.Path) → Gives f k F (map (path_spot s o) ps) → new_paths f k ps ≡ map (annotated_path c sdf corner gs s o) ps
  paths-annotated f k s o [] h = refl
  paths-annotated f k s o (p ∷ ps) h =
      both (record p { timings = new_or p.timings (f k) }) (annotated_path c sdf corner gs s o p) (new_paths f (suc k) ps) (map (annotated_path c sdf corner gs s o) ps)
      (ap (λ (ts : List Timing). record p { timings = ts }) (gives-first f k F (path_spot s o p) (map (path_spot s o) ps) h)) (paths-annotated f (suc k) s o ps (gives-others f k F (path_spot s o p) (map (path_spot s o) ps) h))

  kind-annotated : (f : Table) (k s : ℕ) (is : List ℕ) (o : ℕ) (kind : Kind) → Gives f k F (spots_in s is o kind) → new_kind f k kind ≡ annotated_kind c sdf corner gs s is o kind
  kind-annotated f k s is o (Gate gate delays) h = refl
  kind-annotated f k s is o (Udp primitive first delays) h = refl
  kind-annotated f k s is o (Pass constant) h = refl
  kind-annotated f k s is o (Leg timings) h = ap Leg (gives-first f k F (leg_spot s is o timings) [] h)
  kind-annotated f k s is o (Path ps style) h = ap (λ qs. Path qs style) (paths-annotated f k s o ps h)
  kind-annotated f k s is o (Late delay) h = refl

  elements-annotated : (f : Table) (k : ℕ) (es : List Element) → Gives f k F (flat_map spots_of es) → new_elements f k es ≡ map (annotated_element c sdf corner gs) es
  elements-annotated f k [] h = refl
  elements-annotated f k (e ∷ es) h =
      both (record e { kind = new_kind f k e.kind }) (annotated_element c sdf corner gs e) (new_elements f (k + length (spots_of e)) es) (map (annotated_element c sdf corner gs) es)
      (ap (λ (q : Kind). record e { kind = q }) (kind-annotated f k e.scope e.inputs e.output e.kind (gives-left f k F (spots_of e) (flat_map spots_of es) h)))
      (elements-annotated f (k + length (spots_of e)) es (gives-right f k F (spots_of e) (flat_map spots_of es) h))

  -- ---- limits

  checks-annotated : (ks : List Check) (ts : List CheckTiming) (ws : List CheckConditions) → length (checked ks ts ws) ≡ length ts
      → late.with_limits ts (map (limits_after c sdf corner gs) (checked ks ts ws)) ≡ map (annotated_check c sdf corner gs) (checked ks ts ws)
  checks-annotated [] [] ws n = refl
  checks-annotated [] (t ∷ ts) ws n = absurd (omega arith)
  checks-annotated (k ∷ ks) [] ws n = refl
  checks-annotated (k ∷ ks) (t ∷ ts) [] n = absurd (omega arith)
  checks-annotated (k ∷ ks) (t ∷ ts) (w ∷ ws) n =
      let x : Checked = record { check = k; timing = t; written = w } in ap (λ us. annotated_check c sdf corner gs x ∷ us) (checks-annotated ks ts ws (omega arith))

  -- ---- both

  pub all-annotated : (timings : List (Option (Box LegTiming))) (limits : List (List ℤ)) → length limits ≡ length c.check_timings → limited limits c.check_timings ≡ late.with_limits c.check_timings limits
      → timings_seen (spots c) timings ≡ map (spot_after c sdf corner gs) (spots c) → limits ≡ map (limits_after c sdf corner gs) (all_checked c)
      → with_all_limits limits (with_timings timings c) ≡ annotated_by c sdf corner gs
  all-annotated timings limits each set times are =
      let n : length (all_checked c) ≡ length c.check_timings = sym (length-map (all_checked c) (limits_after c sdf corner gs)) ∙ (sym (ap length are) ∙ each) in
      ap (λ ts. record c { elements = new_elements (at timings) 0 c.elements; check_timings = ts })
      (set ∙ (ap (λ ls. late.with_limits c.check_timings ls) are ∙ checks-annotated c.checks c.check_timings c.check_conditions n))
      ∙ ap (λ es. record c { elements = es; check_timings = map (annotated_check c sdf corner gs) (all_checked c) }) (elements-annotated (at timings) 0 c.elements (table-gives (spots c) timings (spot_after c sdf corner gs) times))
