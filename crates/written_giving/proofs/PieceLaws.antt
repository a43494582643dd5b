-- An element or a timing check that gets back what another has is that one, but for its Lates' delay.
use Rattle.std.proofs.Common.{◌≡◌, suc, Bool, true, false, List, [], ◌∷◌, length, drop, refl, sym, ◌∙◌, ap, subst, arith, inl, inr}
use Rattle.std.specs.Prelude.{ℕ, map, slice_index_or}
use Rattle.std.specs.List.{flat_map}
use Rattle.sg_delay.specs.declared.corners.Corner.{Corner}
use Rattle.sg_delay.specs.declared.limits.PulseStyle.{PulseStyle}
use Rattle.sg_circuit.specs.declared.checks.Check.{Check}
use Rattle.sg_circuit.specs.declared.checks.CheckTiming.{CheckTiming}
use Rattle.sg_circuit.specs.Checks.{CheckConditions}
use Rattle.sg_circuit.specs.Circuit.{Circuit, Element, Kind, Gate, Udp, Pass, Leg, Path, Late}
use Rattle.sg_circuit.specs.Paths as specify
use Rattle.sg_circuit.specs.Signals.{signals}
use Rattle.sg_circuit.specs.Timings.{Timing}
use Rattle.neg_limits.specs.Pairs.{delay_at}
use Rattle.late_limits.specs.Adjusted.{copied, late_delay, late_element, late_kind}
use Rattle.late_limits.specs.Pairs.{signal_number}
use Rattle.sdf_tree.specs.Meant.{Sdf}
use Rattle.annotation_model.specs.Annotated.{annotated_path, annotated_kind, annotated_element, annotated_check}
use Rattle.annotation_model.specs.Given.{Given}
use Rattle.annotation_model.specs.Spots.{Spot, leg_spot, path_spot, spots_in, spots_of, timings_of, spot_after, Checked, checked, limits_after}
use Rattle.written_giving.specs.AnnotatedBack.{stripped_path, stripped_kind, stripped_element, stripped_check, as_number, path_in_numbers, kind_in_numbers, element_in_numbers}
use Rattle.written_giving.proofs.FromLaws.{bare_checked}
use Rattle.written_giving.proofs.MemberLaws.{Mem, in-left, in-right}
use Rattle.written_giving.proofs.PlaceLaws.{map-fused}
use Rattle.written_giving.proofs.SpotLaws.{bare_spot}

-- ---- kinds that are the same but for delays

abbrev is_plain : Kind → Bool
is_plain (Gate kind ds) = true
is_plain (Udp primitive first ds) = true
is_plain (Pass constant) = true
is_plain _ = false

abbrev settled_kind : ℕ → Kind → Kind
settled_kind delay k = kind_in_numbers (late_kind delay k)

plain-same : (delay : ℕ) (k : Kind) → is_plain (stripped_kind k) ≡ true → settled_kind delay k ≡ stripped_kind k
plain-same delay (Gate kind ds) e = refl
plain-same delay (Udp primitive first ds) e = refl
plain-same delay (Pass constant) e = refl
plain-same delay (Leg ts) e = absurd cc
plain-same delay (Path ps style) e = absurd cc
plain-same delay (Late d) e = absurd cc

numbers-twice : (ts : List Timing) → map as_number (map as_number ts) ≡ map as_number ts
numbers-twice ts = map-fused as_number as_number as_number ts (λ t. refl)

module _ (from : Circuit) (sdf : Sdf) (corner : Corner) (gs : List Given) where
  -- annotation gives the spots of one kind the timings of another's, as numbers
  abbrev GivesSpots : ℕ → List ℕ → ℕ → Kind → Kind → Type 0
  GivesSpots s inputs o j k = (x y : Spot) → Mem x (spots_in s inputs o j) → Mem y (spots_in s inputs o k) → bare_spot x ≡ bare_spot y → spot_after from sdf corner gs x ≡ map as_number (timings_of y)

  path-back : (s o : ℕ) (p q : specify.Path) → stripped_path p ≡ stripped_path q → spot_after from sdf corner gs (path_spot s o p) ≡ map as_number q.timings → path_in_numbers (annotated_path from sdf corner gs s o p) ≡ path_in_numbers q
  path-back s o p q e h =
      ap {B = specify.Path} (λ (x : specify.Path). record x { timings = map as_number (spot_after from sdf corner gs (path_spot s o p)) }) e
      ∙ ap {B = specify.Path} (λ ts. record q { timings = ts }) (ap (map as_number) h ∙ numbers-twice q.timings)

  paths-back : (s o : ℕ) (ps qs : List specify.Path) → map stripped_path ps ≡ map stripped_path qs
      → ((p q : specify.Path) → Mem p ps → Mem q qs → stripped_path p ≡ stripped_path q → spot_after from sdf corner gs (path_spot s o p) ≡ map as_number q.timings)
      → map path_in_numbers (map (annotated_path from sdf corner gs s o) ps) ≡ map path_in_numbers qs
  paths-back s o [] [] e h = refl
  paths-back s o [] (q ∷ qs) e h = absurd (let l : 0 ≡ suc (length (map stripped_path qs)) = ap length e in omega (arith, l))
  paths-back s o (p ∷ ps) [] e h = absurd (let l : suc (length (map stripped_path ps)) ≡ 0 = ap length e in omega (arith, l))
  paths-back s o (p ∷ ps) (q ∷ qs) e h =
      let same : stripped_path p ≡ stripped_path q = ap (λ xs. slice_index_or xs 0 (stripped_path p)) e in
      ap (λ x. x ∷ map path_in_numbers (map (annotated_path from sdf corner gs s o) ps)) (path-back s o p q same (h p q (inl refl) (inl refl) same))
      ∙ ap (λ xs. path_in_numbers q ∷ xs) (paths-back s o ps qs (ap (drop 1) e) (λ x y m n. h x y (inr m) (inr n)))

  path_in : (s : ℕ) (inputs : List ℕ) (o : ℕ) (p : specify.Path) (ps : List specify.Path) → Mem p ps → Mem (path_spot s o p) (map (path_spot s o) ps)
  path_in s inputs o p [] m = absurd m
  path_in s inputs o p (q ∷ qs) m = elim m [
    | inl e ↦ inl (ap (path_spot s o) e)
    | inr n ↦ inr (path_in s inputs o p qs n)
  ]

  kind-back : (s : ℕ) (inputs : List ℕ) (o delay : ℕ) (j k : Kind) → stripped_kind j ≡ stripped_kind k → GivesSpots s inputs o j k
      → settled_kind delay (annotated_kind from sdf corner gs s inputs o j) ≡ settled_kind delay k
  kind-back s inputs o delay (Gate kind ds) k e h = e ∙ sym (plain-same delay k (sym (ap is_plain e)))
  kind-back s inputs o delay (Udp primitive first ds) k e h = e ∙ sym (plain-same delay k (sym (ap is_plain e)))
  kind-back s inputs o delay (Pass constant) k e h = e ∙ sym (plain-same delay k (sym (ap is_plain e)))
  kind-back s inputs o delay (Leg ts) (Leg us) e h = ap Leg (ap (map as_number) (h (leg_spot s inputs o ts) (leg_spot s inputs o us) (inl refl) (inl refl) refl) ∙ numbers-twice us)
  kind-back s inputs o delay (Path ps style) (Path qs shown) e h =
      ap (λ t. Path (map path_in_numbers (map (annotated_path from sdf corner gs s o) ps)) t) (ap style_of e)
      ∙ ap (λ xs. Path xs shown) (paths-back s o ps qs (ap paths_of e) (λ p q m n f. h (path_spot s o p) (path_spot s o q) (path_in s inputs o p ps m) (path_in s inputs o q qs n) (ap (path_spot s o) f)))
    where
      style_of : Kind → PulseStyle
      style_of (Path ps t) = t
      style_of _ = style

      paths_of : Kind → List specify.Path
      paths_of (Path ps t) = ps
      paths_of _ = []
  kind-back s inputs o delay (Late d) (Late b) e h = refl
  kind-back s inputs o delay j k e h = absurd cc

  -- annotation's element is the other, but for its Lates' delay
  module _ (c : Circuit) (delays : ℕ → List ℕ) where
    abbrev settled_element : Element → Element
    settled_element e = element_in_numbers (late_element c delays e)

    element-back : (e f : Element) → stripped_element e ≡ stripped_element f → ((x y : Spot) → Mem x (spots_of e) → Mem y (spots_of f) → bare_spot x ≡ bare_spot y → spot_after from sdf corner gs x ≡ map as_number (timings_of y))
        → settled_element (annotated_element from sdf corner gs e) ≡ settled_element f
    element-back e f same h =
        let scope : e.scope ≡ f.scope = ap (λ (x : Element). x.scope) same in
        let inputs : e.inputs ≡ f.inputs = ap (λ (x : Element). x.inputs) same in
        let output : e.output ≡ f.output = ap (λ (x : Element). x.output) same in
        let kinds : stripped_kind e.kind ≡ stripped_kind f.kind = ap (λ (x : Element). x.kind) same in
        let delay : ℕ = late_delay c delays f in
        by e.scope e.inputs e.output scope inputs output kinds h
      where
        at : (s : ℕ) (is : List ℕ) → ℕ
        at s is = delay_at (delays s) (signal_number (signals c.checks c.check_timings s) (copied is))

        by : (s : ℕ) (is : List ℕ) (o : ℕ) → s ≡ f.scope → is ≡ f.inputs → o ≡ f.output → stripped_kind e.kind ≡ stripped_kind f.kind
            → ((x y : Spot) → Mem x (spots_in s is o e.kind) → Mem y (spots_of f) → bare_spot x ≡ bare_spot y → spot_after from sdf corner gs x ≡ map as_number (timings_of y))
            → ◌≡◌ {A = Element} (record { scope = s; inputs = is; output = o; kind = settled_kind (at s is) (annotated_kind from sdf corner gs s is o e.kind) }) (settled_element f)
        by s is o p q r kinds h =
            let g : GivesSpots f.scope f.inputs f.output e.kind f.kind =
            λ x y m n. h x y (subst (λ t. Mem x (spots_in t is o e.kind)) (sym p) (subst (λ t. Mem x (spots_in f.scope t o e.kind)) (sym q) (subst (λ t. Mem x (spots_in f.scope f.inputs t e.kind)) (sym r) m))) n in
            ap {B = Element} (λ t. record { scope = t; inputs = is; output = o; kind = settled_kind (at t is) (annotated_kind from sdf corner gs t is o e.kind) }) p
            ∙ (ap {B = Element} (λ t. record { scope = f.scope; inputs = t; output = o; kind = settled_kind (at f.scope t) (annotated_kind from sdf corner gs f.scope t o e.kind) }) q
            ∙ (ap {B = Element} (λ t. record { scope = f.scope; inputs = f.inputs; output = t; kind = settled_kind (at f.scope f.inputs) (annotated_kind from sdf corner gs f.scope f.inputs t e.kind) }) r
            ∙ ap {B = Element} (λ k. record { scope = f.scope; inputs = f.inputs; output = f.output; kind = k }) (kind-back f.scope f.inputs f.output (at f.scope f.inputs) e.kind f.kind kinds g)))

    pub elements-back : (es fs : List Element) → map stripped_element es ≡ map stripped_element fs
        → ((x y : Spot) → Mem x (flat_map spots_of es) → Mem y (flat_map spots_of fs) → bare_spot x ≡ bare_spot y → spot_after from sdf corner gs x ≡ map as_number (timings_of y))
        → map element_in_numbers (map (late_element c delays) (map (annotated_element from sdf corner gs) es)) ≡ map element_in_numbers (map (late_element c delays) fs)
    elements-back [] [] e h = refl
    elements-back [] (f ∷ fs) e h = absurd (let l : 0 ≡ suc (length (map stripped_element fs)) = ap length e in omega (arith, l))
    elements-back (x ∷ es) [] e h = absurd (let l : suc (length (map stripped_element es)) ≡ 0 = ap length e in omega (arith, l))
    elements-back (x ∷ es) (f ∷ fs) e h =
        let same : stripped_element x ≡ stripped_element f = ap (λ xs. slice_index_or xs 0 (stripped_element x)) e in
        ap (λ y. y ∷ map element_in_numbers (map (late_element c delays) (map (annotated_element from sdf corner gs) es)))
        (element-back x f same (λ y z m n. h y z (in-left (spots_of x) (flat_map spots_of es) y m) (in-left (spots_of f) (flat_map spots_of fs) z n)))
        ∙ ap (λ ys. settled_element f ∷ ys) (elements-back es fs (ap (drop 1) e) (λ y z m n. h y z (in-right (spots_of x) (flat_map spots_of es) y m) (in-right (spots_of f) (flat_map spots_of fs) z n)))

  -- ---- timing checks

  check-back : (j k : Checked) → bare_checked j ≡ bare_checked k → limits_after from sdf corner gs j ≡ k.timing.limits → annotated_check from sdf corner gs j ≡ k.timing
  check-back j k e h =
      ap {B = CheckTiming} (λ (x : Checked). record x.timing { limits = limits_after from sdf corner gs j }) e ∙ ap {B = CheckTiming} (λ ls. record k.timing { limits = ls }) h

  pub checks-back : (ks : List Check) (ts us : List CheckTiming) (ws : List CheckConditions) → map stripped_check ts ≡ map stripped_check us → length us ≡ length ks → length ws ≡ length ks
      → ((j k : Checked) → Mem j (checked ks ts ws) → Mem k (checked ks us ws) → bare_checked j ≡ bare_checked k → limits_after from sdf corner gs j ≡ k.timing.limits)
      → map (annotated_check from sdf corner gs) (checked ks ts ws) ≡ us
  checks-back [] ts [] ws e l n h = refl
  checks-back [] ts (u ∷ us) ws e l n h = absurd (omega (arith, l))
  checks-back (k ∷ ks) ts [] ws e l n h = absurd (omega (arith, l))
  checks-back (k ∷ ks) ts (u ∷ us) [] e l n h = absurd (omega (arith, n))
  checks-back (k ∷ ks) [] (u ∷ us) (w ∷ ws) e l n h = absurd (let f : 0 ≡ suc (length (map stripped_check us)) = ap length e in omega (arith, f))
  checks-back (k ∷ ks) (t ∷ ts) (u ∷ us) (w ∷ ws) e l n h =
      let same : stripped_check t ≡ stripped_check u = ap (λ xs. slice_index_or xs 0 (stripped_check t)) e in
      let j : Checked = record { check = k; timing = t; written = w } in
      let i : Checked = record { check = k; timing = u; written = w } in
      let alike : bare_checked j ≡ bare_checked i = ap {B = Checked} (λ x. record { check = k; timing = x; written = w }) same in
      ap (λ x. x ∷ map (annotated_check from sdf corner gs) (checked ks ts ws)) (check-back j i alike (h j i (inl refl) (inl refl) alike))
      ∙ ap (λ xs. u ∷ xs) (checks-back ks ts us ws (ap (drop 1) e) (omega (arith, l)) (omega (arith, n)) (λ x y m o. h x y (inr m) (inr o)))
