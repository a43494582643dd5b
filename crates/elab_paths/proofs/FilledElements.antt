-- Elements whose Paths have the paths of uses: those of the circuit.
use Rattle.std.specs.Prelude.{◌≡◌, ℕ, suc, ◌<◌, ◌≤◌, List, [], ◌∷◌, ◌++◌, Bool, true, false, Some, find, drop, length, map, option_map, slice_get, refl, if◌then◌else◌}
use Rattle.std.specs.List.{AllByRecursion}
use Rattle.std.proofs.Common.{sym, ◌∙◌, ap, arith, inl, inr, subst, append_assoc}
use Rattle.std.proofs.lemmas.Option.{get_or_from_slice_get, slice_get-map, slice_get_within}
use Rattle.sg_circuit.specs.Circuit.{Element, Kind, Path, Leg}
use Rattle.sg_circuit.specs.PathsSeen.{paths_seen, spanned, AreIndexedPaths}
use Rattle.sg_circuit.specs.TimingsSeen.{leg_timing_seen, timings_at}
use Rattle.sg_circuit.specs.declared.elements.Element as code
use Rattle.sg_circuit.specs.declared.elements.ElementKind.{ElementKind}
use Rattle.sg_circuit.specs.declared.elements.ElementKind.TheVariants as kind
use Rattle.sg_circuit.specs.declared.elements.LegTiming.{LegTiming}
use Rattle.elab_model.specs.Elements.{Component, leg_kind, path_kind}
use Rattle.elab_model.specs.Homes.{Spot}
use Rattle.elab_model.specs.Nets.{OwnNet}
use Rattle.elab_model.specs.Numbered.{element_of}
use Rattle.circuit_model.specs.PathUses as def
use Rattle.elab_laws.proofs.Homes.{spot-same}
use Rattle.elab_laws.proofs.Lists.{Pairwise}
use Rattle.elab_elements.specs.Seen.{kind_in, element_in, NamesPlaces}
use Rattle.elab_paths.specs.AllPaths.{Tables, kind_with, element_with, NamesTables}
use Rattle.elab_paths.specs.Filling.{is_path, paths_among, with_use, with_next, filled}
use Rattle.elab_paths.specs.declared.uses.PathUse.{PathUse}
use Rattle.elab_paths.proofs.InnerReaders.{IsNoPath, IsPlain, IsPathFrom, ReadInOrder}
use Rattle.elab_paths.proofs.FoundUses.{HasInner, AreOtherUses, plain-finds, path-finds}

pub head-is : {A : Type 0} (x y : A) (xs ys : List A) → x ∷ xs ≡ y ∷ ys → x ≡ y
head-is x y xs ys e = cc

pub tail-is : {A : Type 0} (x y : A) (xs ys : List A) → x ∷ xs ≡ y ∷ ys → xs ≡ ys
tail-is x y xs ys e = cc

-- ---- kinds

-- the first timing is that of Legs
pub record HasLegs (timings : List LegTiming) : Type 0 where
  pub legs : LegTiming
  pub first : slice_get timings 0 ≡ Some legs
  pub without_delay : Leg (leg_timing_seen legs) ≡ leg_kind

leg-is : (timings : List LegTiming) → HasLegs timings → Leg (timings_at timings 0) ≡ leg_kind
leg-is timings h =
    ap Leg (get_or_from_slice_get (map (λ t. leg_timing_seen t) timings) 0 (leg_timing_seen h.legs) [] (slice_get-map (λ t. leg_timing_seen t) timings 0 ∙ ap (option_map (λ t. leg_timing_seen t)) h.first))
    ∙ h.without_delay

kind-is : (t : Tables) → HasLegs t.timings → (k : ElementKind) → is_path k ≡ false → NamesPlaces t.gate_delays t.udps k → kind_with t k ≡ kind_in t.gate_delays t.udps k
kind-is t h (kind.Gate g d) f n = refl
kind-is t h (kind.Udp u d) f n = refl
kind-is t h (kind.Pass v) f n = refl
kind-is t h (kind.Leg i) f n = ap (λ j. Leg (timings_at t.timings j)) n ∙ leg-is t.timings h
kind-is t h (kind.Path span style) f n = cc
kind-is t h (kind.Late d) f n = refl

named-is : (t : Tables) → HasLegs t.timings → (k : ElementKind) → is_path k ≡ false → NamesPlaces t.gate_delays t.udps k → NamesTables t k
named-is t h (kind.Gate g d) f n = n
named-is t h (kind.Udp u d) f n = n
named-is t h (kind.Pass v) f n = tt
named-is t h (kind.Leg i) f n = subst (λ j. j < length t.timings) (sym n) (slice_get_within t.timings 0 h.legs h.first)
named-is t h (kind.Path span style) f n = cc
named-is t h (kind.Late d) f n = tt

plain-kind : (t : Tables) (k : ElementKind) (c : Kind) → kind_in t.gate_delays t.udps k ≡ c → IsNoPath c → is_path k ≡ false
plain-kind t (kind.Gate g d) c e h = refl
plain-kind t (kind.Udp u d) c e h = refl
plain-kind t (kind.Pass v) c e h = refl
plain-kind t (kind.Leg i) c e h = refl
plain-kind t (kind.Path span style) c e h = absurd (subst IsNoPath (sym e) h)
plain-kind t (kind.Late d) c e h = refl

path-kind : (t : Tables) (k : ElementKind) → kind_in t.gate_delays t.udps k ≡ path_kind → is_path k ≡ true
path-kind t (kind.Gate g d) e = absurd (subst IsNoPath e tt)
path-kind t (kind.Udp u d) e = absurd (subst IsNoPath e tt)
path-kind t (kind.Pass v) e = absurd (subst IsNoPath e tt)
path-kind t (kind.Leg i) e = absurd (subst IsNoPath e tt)
path-kind t (kind.Path span style) e = refl
path-kind t (kind.Late d) e = absurd (subst IsNoPath e tt)

-- ---- elements

abbrev element-by : ℕ → List ℕ → ℕ → Kind → Element
element-by scope inputs output k = record { scope = scope; inputs = inputs; output = output; kind = k }

same-element : (scope output : ℕ) (inputs : List ℕ) (k : Kind) (e : Element) → scope ≡ e.scope → inputs ≡ e.inputs → output ≡ e.output → k ≡ e.kind
    → element-by scope inputs output k ≡ e
same-element scope output inputs k e a b c d =
    ap (λ x. element-by x inputs output k) a ∙ ap (λ x. element-by e.scope x output k) b ∙ ap (λ x. element-by e.scope e.inputs x k) c ∙ ap (element-by e.scope e.inputs e.output) d

-- the code's uses are these
pub record AreSame (t : Tables) (uses : List PathUse) (us : List def.PathUse) : Type 0 where
  pub paths : map (λ u. paths_seen t.conditions t.timings (spanned t.paths u.paths)) uses ≡ map (λ u. u.paths) us
  pub styles : map (λ u. u.style) uses ≡ map (λ u. u.style) us

module _ (t : Tables) (legs : HasLegs t.timings) (all : List OwnNet) where
  abbrev IsSeen : code.Element → Component → Type 0
  IsSeen e c = element_in t.gate_delays t.udps e ≡ element_of all c

  plain-seen : (e : code.Element) (c : Component) (us : List def.PathUse) → IsSeen e c → NamesPlaces t.gate_delays t.udps e.kind → IsPlain c → AllByRecursion HasInner us
      → element_with t e ≡ element_of all (def.with_paths us c)
  plain-seen e c us same n plain inner =
      let f = plain-kind t e.kind c.kind (ap (λ x. x.kind) same) plain.kind in
      same-element e.scope e.output e.inputs.items (kind_with t e.kind) (element_of all (def.with_paths us c)) (ap (λ x. x.scope) same) (ap (λ x. x.inputs) same) (ap (λ x. x.output) same)
      (kind-is t legs e.kind f n ∙ ap (λ x. x.kind) same ∙ ap (def.kind_by c.kind) (sym (plain-finds c us plain inner)))

  path-seen : (e : code.Element) (c : Component) (us : List def.PathUse) (u : PathUse) (v : def.PathUse) → IsSeen e c → find (def.reads c) us ≡ Some v
      → paths_seen t.conditions t.timings (spanned t.paths u.paths) ≡ v.paths → u.style ≡ v.style → element_with t (with_use u e) ≡ element_of all (def.with_paths us c)
  path-seen e c us u v same found paths style =
      same-element e.scope e.output e.inputs.items (Path (paths_seen t.conditions t.timings (spanned t.paths u.paths)) u.style) (element_of all (def.with_paths us c))
      (ap (λ x. x.scope) same) (ap (λ x. x.inputs) same) (ap (λ x. x.output) same)
      (ap (λ ps. Path ps u.style) paths ∙ ap (Path v.paths) style ∙ ap (def.kind_by c.kind) (sym found))

  -- each Path has its use, behind those of the Paths before
  pub elements-seen : (before us : List def.PathUse) (uses : List PathUse) (cs : List Component) (es : List code.Element) → ReadInOrder cs (map (λ u. u.inner) us) → AreSame t uses us
      → AllByRecursion HasInner (before ++ us) → Pairwise AreOtherUses (before ++ us) → map (element_in t.gate_delays t.udps) es ≡ map (element_of all) cs
      → AllByRecursion (λ e. NamesPlaces t.gate_delays t.udps e.kind) es
      → map (element_with t) (filled uses es) ≡ map (λ c. element_of all (def.with_paths (before ++ us) c)) cs
  elements-seen before us uses [] [] r s inner apart e n = refl
  elements-seen before us uses [] (x ∷ es) r s inner apart e n = cc
  elements-seen before us uses (c ∷ cs) [] r s inner apart e n = cc
  elements-seen before us uses (c ∷ cs) (x ∷ es) (inl r) s inner apart e n =
      let own = head-is (element_in t.gate_delays t.udps x) (element_of all c) (map (element_in t.gate_delays t.udps) es) (map (element_of all) cs) e in
      let rest = tail-is (element_in t.gate_delays t.udps x) (element_of all c) (map (element_in t.gate_delays t.udps) es) (map (element_of all) cs) e in
      let f = plain-kind t x.kind c.kind (ap (λ y. y.kind) own) r.0.kind in
      ap (λ b. map (element_with t) (if b then with_next uses x ∷ filled (drop 1 uses) es else x ∷ filled uses es)) f
      ∙ ap (λ y. y ∷ map (element_with t) (filled uses es)) (plain-seen x c (before ++ us) own n.0 r.0 inner)
      ∙ ap (λ ys. element_of all (def.with_paths (before ++ us) c) ∷ ys) (elements-seen before us uses cs es r.1 s inner apart rest n.1)
  elements-seen before [] uses (c ∷ cs) (x ∷ es) (inr r) s inner apart e n = let none : [] ≡ r.0 ∷ r.1 = r.2 in cc
  elements-seen before (v ∷ us) [] (c ∷ cs) (x ∷ es) (inr r) s inner apart e n = let none : [] ≡ v.style ∷ map (λ u. u.style) us = s.styles in cc
  elements-seen before (v ∷ us) (u ∷ uses) (c ∷ cs) (x ∷ es) (inr r) s inner apart e n =
      let own = head-is (element_in t.gate_delays t.udps x) (element_of all c) (map (element_in t.gate_delays t.udps) es) (map (element_of all) cs) e in
      let rest = tail-is (element_in t.gate_delays t.udps x) (element_of all c) (map (element_in t.gate_delays t.udps) es) (map (element_of all) cs) e in
      let F = λ (w : PathUse). paths_seen t.conditions t.timings (spanned t.paths w.paths) in
      let spot : v.inner ≡ r.0 = head-is v.inner r.0 (map (λ u. u.inner) us) r.1 r.2 in
      let spots : map (λ u. u.inner) us ≡ r.1 = tail-is v.inner r.0 (map (λ u. u.inner) us) r.1 r.2 in
      let reads : IsPathFrom v.inner c = subst (λ z. IsPathFrom z c) (sym spot) r.3 in
      let is = path-kind t x.kind (ap (λ y. y.kind) own ∙ reads.kind) in
      let found = path-finds c before v us reads (spot-same v.inner) apart in
      let moved : (before ++ v ∷ []) ++ us ≡ before ++ v ∷ us = append_assoc before (v ∷ []) us in
      let same : AreSame t uses us = record {
        paths = tail-is (F u) v.paths (map F uses) (map (λ u. u.paths) us) s.paths;
        styles = tail-is u.style v.style (map (λ u. u.style) uses) (map (λ u. u.style) us) s.styles;
      } in
      let later =
      elements-seen (before ++ v ∷ []) us uses cs es (subst (ReadInOrder cs) (sym spots) r.4) same (subst (AllByRecursion HasInner) (sym moved) inner) (subst (Pairwise AreOtherUses) (sym moved) apart)
      rest n.1 in
      ap (λ b. map (element_with t) (if b then with_use u x ∷ filled uses es else x ∷ filled (u ∷ uses) es)) is
      ∙ ap (λ y. y ∷ map (element_with t) (filled uses es))
      (path-seen x c (before ++ v ∷ us) u v own found (head-is (F u) v.paths (map F uses) (map (λ u. u.paths) us) s.paths) (head-is u.style v.style (map (λ u. u.style) uses) (map (λ u. u.style) us) s.styles))
      ∙ ap (λ ys. element_of all (def.with_paths (before ++ v ∷ us) c) ∷ ys) (later ∙ ap (λ ws. map (λ c. element_of all (def.with_paths ws c)) cs) moved)

  -- there are as many Paths
  pub paths-count : (spots : List Spot) (cs : List Component) (es : List code.Element) → ReadInOrder cs spots → map (element_in t.gate_delays t.udps) es ≡ map (element_of all) cs → paths_among es ≡ length spots
  paths-count spots [] [] r e = ap length (sym r)
  paths-count spots [] (x ∷ es) r e = cc
  paths-count spots (c ∷ cs) [] r e = cc
  paths-count spots (c ∷ cs) (x ∷ es) (inl r) e =
      let own = head-is (element_in t.gate_delays t.udps x) (element_of all c) (map (element_in t.gate_delays t.udps) es) (map (element_of all) cs) e in
      let rest = tail-is (element_in t.gate_delays t.udps x) (element_of all c) (map (element_in t.gate_delays t.udps) es) (map (element_of all) cs) e in
      ap (λ b. if b then suc (paths_among es) else paths_among es) (plain-kind t x.kind c.kind (ap (λ y. y.kind) own) r.0.kind) ∙ paths-count spots cs es r.1 rest
  paths-count spots (c ∷ cs) (x ∷ es) (inr r) e =
      let own = head-is (element_in t.gate_delays t.udps x) (element_of all c) (map (element_in t.gate_delays t.udps) es) (map (element_of all) cs) e in
      let rest = tail-is (element_in t.gate_delays t.udps x) (element_of all c) (map (element_in t.gate_delays t.udps) es) (map (element_of all) cs) e in
      ap (λ b. if b then suc (paths_among es) else paths_among es) (path-kind t x.kind (ap (λ y. y.kind) own ∙ r.3.kind)) ∙ ap suc (paths-count r.1 cs es r.4 rest) ∙ ap length (sym r.2)

-- what the elements drive stays
abbrev pub of : List code.Element → List ℕ
of es = map (λ (e : code.Element). e.output) es

pub outputs-stay : (uses : List PathUse) (es : List code.Element) → of (filled uses es) ≡ of es
outputs-stay uses [] = refl
outputs-stay uses (e ∷ es) = by (is_path e.kind) uses (outputs-stay (drop 1 uses) es) (outputs-stay uses es)
  where
    by : (b : Bool) (us : List PathUse) → of (filled (drop 1 us) es) ≡ of es → of (filled us es) ≡ of es
        → of (if b then with_next us e ∷ filled (drop 1 us) es else e ∷ filled us es) ≡ e.output ∷ of es
    by true [] h g = ap (λ ns. e.output ∷ ns) h
    by true (u ∷ us) h g = ap (λ ns. e.output ∷ ns) h
    by false us h g = ap (λ ns. e.output ∷ ns) g

-- ---- what holds of each kind

abbrev pub kind-of : PathUse → ElementKind
kind-of u = kind.Path u.paths u.style

abbrev pub Hold : (ElementKind → Type 0) → List code.Element → Type 0
Hold P es = AllByRecursion (λ (e : code.Element). P e.kind) es

-- where there are uses enough, what holds of all others and of those of uses
pub all-filled : (P Q : ElementKind → Type 0) → ((k : ElementKind) → is_path k ≡ false → Q k → P k) → (uses : List PathUse) (es : List code.Element) → paths_among es ≤ length uses
    → AllByRecursion (λ u. P (kind-of u)) uses → Hold Q es → Hold P (filled uses es)
all-filled P Q f uses [] le us h = tt
all-filled P Q f uses (e ∷ es) le us h = by (is_path e.kind) refl uses le us (λ vs. all-filled P Q f vs es)
  where
    by : (b : Bool) → is_path e.kind ≡ b → (vs : List PathUse) → (if b then suc (paths_among es) else paths_among es) ≤ length vs → AllByRecursion (λ u. P (kind-of u)) vs
        → ((ws : List PathUse) → paths_among es ≤ length ws → AllByRecursion (λ u. P (kind-of u)) ws → Hold Q es → Hold P (filled ws es))
        → Hold P (if b then with_next vs e ∷ filled (drop 1 vs) es else e ∷ filled vs es)
    by true t [] le us later = absurd (omega (arith, le))
    by true t (v ∷ vs) le us later = (us.0, later vs (omega (arith, le)) us.1 h.1)
    by false t vs le us later = (f e.kind t h.0, later vs le us h.1)

-- what the kinds name stands in the tables
pub elements-named : (t : Tables) → HasLegs t.timings → (uses : List PathUse) (es : List code.Element) → paths_among es ≤ length uses
    → AllByRecursion (λ u. AreIndexedPaths (length t.conditions) (length t.timings) t.paths u.paths) uses → Hold (NamesPlaces t.gate_delays t.udps) es → Hold (NamesTables t) (filled uses es)
elements-named t legs uses es le spans names = all-filled (NamesTables t) (NamesPlaces t.gate_delays t.udps) (λ k f n. named-is t legs k f n) uses es le spans names
