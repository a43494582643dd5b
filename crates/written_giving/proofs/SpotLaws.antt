-- The legs and paths of a circuit, those of one that is like it, and their entries.
use Rattle.std.proofs.Common.{◌≡◌, ◌<◌, Bool, true, false, List, [], ◌∷◌, ◌++◌, length, refl, sym, ◌∙◌, ap, subst, inl, inr}
use Rattle.std.specs.Prelude.{ℕ, ◌==◌, ◌&&◌, map, Some, None, if◌then◌else◌}
use Rattle.std.specs.List.{flat_map}
use Rattle.std.proofs.lemmas.Bool.{eqb-true}
use Rattle.std.proofs.lemmas.List.{map-append}
use Rattle.std.proofs.lemmas.Option.{get_or_from_slice_get, slice_get_within}
use Rattle.late_limits.proofs.NumberLaws.{test_same}
use Rattle.sg_circuit.specs.declared.nets.Driver.{Driver}
use Rattle.sg_circuit.specs.declared.nets.Driver.TheVariants as driver
use Rattle.sg_circuit.specs.Timings.{Timing}
use Rattle.sg_circuit.specs.Paths as specify
use Rattle.sg_circuit.specs.Circuit.{Circuit, Element, Kind, Gate, Udp, Pass, Leg, Path, Late, element_at, net_at}
use Rattle.sg_circuit.specs.Closed.{IsClosed, AreTimings, HasDelays}
use Rattle.annotation_model.specs.Given.{Given}
use Rattle.annotation_model.specs.Matching.{fits_path}
use Rattle.annotation_model.specs.Scopes.{is_of_cell}
use Rattle.annotation_model.specs.Spots.{Spot, leg_spot, path_spot, spots_in, spots_of, spots, scope_of, timings_of, is_for_spot}
use Rattle.sdf_tree.specs.declared.words.Divider.{Divider}
use Rattle.sdf_tree.specs.Meant.{EntryKind, io_path, device, port_delay, interconnect, path_pulse, a_check, skipped_entry}
use Rattle.written_model.specs.Entries.{numbers_of, LegEntry, PathEntry, legs_at, legs, path_key, paths_at, path_entries}
use Rattle.written_giving.specs.AnnotatedBack.{stripped_path, stripped_kind, stripped_element}
use Rattle.written_giving.proofs.MemberLaws.{Mem, in-place, each-of-all, in-flat, flat-in, in-map}
use Rattle.written_giving.proofs.PlaceLaws.{map-fused}

-- ---- without timings

abbrev pub bare_spot : Spot → Spot
bare_spot (leg_spot s inputs o ts) = leg_spot s inputs o []
bare_spot (path_spot s o p) = path_spot s o (stripped_path p)

fits-bare : (c : Circuit) (d : Divider) (k : EntryKind) (s o : ℕ) (p : specify.Path) → fits_path c d k s o p ≡ fits_path c d k s o (stripped_path p)
fits-bare c d (io_path condition from to ds) s o p = refl
fits-bare c d (device None ds) s o p = refl
fits-bare c d (device (Some port) ds) s o p = refl
fits-bare c d (path_pulse percent None reject error) s o p = refl
fits-bare c d (path_pulse percent (Some ports) reject error) s o p = refl
fits-bare c d (port_delay port ds) s o p = refl
fits-bare c d (interconnect from to ds) s o p = refl
fits-bare c d (a_check check) s o p = refl
fits-bare c d (skipped_entry skipped) s o p = refl

for-bare : (c : Circuit) (d : Divider) (g : Given) (x : Spot) → is_for_spot c d g x ≡ is_for_spot c d g (bare_spot x)
for-bare c d g (leg_spot s inputs o ts) = refl
for-bare c d g (path_spot s o p) = ap (λ t. is_of_cell c d g.cell_type g.instance s && t) (fits-bare c d g.entry.kind s o p)

pub for-alike : (c : Circuit) (d : Divider) (g : Given) (x y : Spot) → bare_spot x ≡ bare_spot y → is_for_spot c d g x ≡ is_for_spot c d g y
for-alike c d g x y e = for-bare c d g x ∙ (ap (is_for_spot c d g) e ∙ sym (for-bare c d g y))

scope-bare : (x : Spot) → scope_of x ≡ scope_of (bare_spot x)
scope-bare (leg_spot s inputs o ts) = refl
scope-bare (path_spot s o p) = refl

pub scope-alike : (x y : Spot) → bare_spot x ≡ bare_spot y → scope_of x ≡ scope_of y
scope-alike x y e = scope-bare x ∙ (ap scope_of e ∙ sym (scope-bare y))

-- the legs and paths of circuits that are alike
kind-bare : (s : ℕ) (inputs : List ℕ) (o : ℕ) (k : Kind) → map bare_spot (spots_in s inputs o k) ≡ map bare_spot (spots_in s inputs o (stripped_kind k))
kind-bare s inputs o (Gate kind ds) = refl
kind-bare s inputs o (Udp primitive first ds) = refl
kind-bare s inputs o (Pass constant) = refl
kind-bare s inputs o (Leg ts) = refl
kind-bare s inputs o (Path ps style) =
    map-fused bare_spot (path_spot s o) (λ p. bare_spot (path_spot s o p)) ps (λ p. refl)
    ∙ sym (map-fused bare_spot (path_spot s o) (λ p. bare_spot (path_spot s o p)) (map stripped_path ps) (λ p. refl) ∙ map-fused (λ p. bare_spot (path_spot s o p)) stripped_path (λ p. bare_spot (path_spot s o p)) ps (λ p. refl))
kind-bare s inputs o (Late delay) = refl

element-bare : (e : Element) → map bare_spot (spots_of e) ≡ map bare_spot (spots_of (stripped_element e))
element-bare e = kind-bare e.scope e.inputs e.output e.kind

spots-bare : (es : List Element) → map bare_spot (flat_map spots_of es) ≡ flat_map (λ (e : Element). map bare_spot (spots_of e)) (map stripped_element es)
spots-bare [] = refl
spots-bare (e ∷ es) =
    map-append bare_spot (spots_of e) (flat_map spots_of es)
    ∙ (ap (λ xs. xs ++ map bare_spot (flat_map spots_of es)) (element-bare e) ∙ ap (λ xs. map bare_spot (spots_of (stripped_element e)) ++ xs) (spots-bare es))

pub spots-alike : (es fs : List Element) → map stripped_element es ≡ map stripped_element fs → map bare_spot (flat_map spots_of es) ≡ map bare_spot (flat_map spots_of fs)
spots-alike es fs e = spots-bare es ∙ (ap (flat_map (λ (x : Element). map bare_spot (spots_of x))) e ∙ sym (spots-bare fs))

-- ---- legs and paths of a circuit

module _ (c : Circuit) (closed : IsClosed c) where
  record IsSpotOf (x : Spot) (e : Element) : Type 0 where
    pub scope : scope_of x ≡ e.scope
    pub timings : AreTimings (timings_of x)

  spot-of : (e : Element) (x : Spot) → HasDelays e.kind → Mem x (spots_of e) → IsSpotOf x e
  spot-of e x h m = by e.kind h m
    where
      by : (k : Kind) → HasDelays k → Mem x (spots_in e.scope e.inputs e.output k) → IsSpotOf x e
      by (Gate kind ds) h m = absurd m
      by (Udp primitive first ds) h m = absurd m
      by (Pass constant) h m = absurd m
      by (Late delay) h m = absurd m
      by (Leg ts) h m = elim m [
        | inl f ↦ record { scope = ap scope_of f; timings = subst (λ (y : Spot). AreTimings (timings_of y)) (sym f) h }
        | inr n ↦ absurd n
      ]
      by (Path ps style) h m =
          let r = in-map (path_spot e.scope e.output) ps x m in
          record {
            scope = ap scope_of r.2;
            timings = subst (λ (y : Spot). AreTimings (timings_of y)) (sym r.2) (each-of-all (λ (p : specify.Path). AreTimings p.timings) ps h r.0 r.1);
          }

  spot-element : (x : Spot) → Mem x (spots c) → (e : Element) × Mem e c.elements × Mem x (spots_of e)
  spot-element x m = in-flat spots_of c.elements x m

  pub spot-timings : (x : Spot) → Mem x (spots c) → AreTimings (timings_of x)
  spot-timings x m = let r = spot-element x m in (spot-of r.0 x (each-of-all (λ (e : Element). HasDelays e.kind) c.elements closed.has_delays r.0 r.1) r.2).timings

  pub spot-scope : (x : Spot) → Mem x (spots c) → scope_of x < length c.scopes
  spot-scope x m =
      let r = spot-element x m in
      subst (λ s. s < length c.scopes) (sym (spot-of r.0 x (each-of-all (λ (e : Element). HasDelays e.kind) c.elements closed.has_delays r.0 r.1) r.2).scope)
      (each-of-all (λ (e : Element). e.scope < length c.scopes) c.elements closed.element_scopes r.0 r.1)

  -- a net has one driver, so one leg leads to it
  one-driver : (e f : Element) → Mem e c.elements → Mem f c.elements → e.output ≡ f.output → e ≡ f
  one-driver e f m n same =
      let i = in-place c.elements e m in
      let j = in-place c.elements f n in
      let at_i : element_at c i.0 ≡ e = get_or_from_slice_get c.elements i.0 e _ i.1 in
      let at_j : element_at c j.0 ≡ f = get_or_from_slice_get c.elements j.0 f _ j.1 in
      let drives_i : (net_at c e.output).driver ≡ driver.Element i.0 = subst (λ (x : Element). (net_at c x.output).driver ≡ driver.Element i.0) at_i (closed.named i.0 (slice_get_within c.elements i.0 e i.1)) in
      let drives_j : (net_at c f.output).driver ≡ driver.Element j.0 = subst (λ (x : Element). (net_at c x.output).driver ≡ driver.Element j.0) at_j (closed.named j.0 (slice_get_within c.elements j.0 f j.1)) in
      let number : i.0 ≡ j.0 = ap element_number (sym drives_i ∙ (ap (λ o. (net_at c o).driver) same ∙ drives_j)) in
      sym at_i ∙ (ap (element_at c) number ∙ at_j)
    where
      element_number : Driver → ℕ
      element_number (driver.Element e) = e
      element_number _ = 0

  leg-kind : (e : Element) (s : ℕ) (inputs : List ℕ) (o : ℕ) (ts : List Timing) → Mem (leg_spot s inputs o ts) (spots_of e) → (e.kind ≡ Leg ts) × (e.output ≡ o)
  leg-kind e s inputs o ts m = by e.kind refl m
    where
      same-leg : (t u : ℕ) (is js : List ℕ) (n p : ℕ) (ts us : List Timing) → leg_spot t is n ts ≡ leg_spot u js p us → (ts ≡ us) × (n ≡ p)
      same-leg t u is js n p ts us f = (ap timings_of f, ap leg_output f)
        where
          leg_output : Spot → ℕ
          leg_output (leg_spot s is o ts) = o
          leg_output (path_spot s o p) = o

      by : (k : Kind) → e.kind ≡ k → Mem (leg_spot s inputs o ts) (spots_in e.scope e.inputs e.output k) → (e.kind ≡ Leg ts) × (e.output ≡ o)
      by (Gate kind ds) f m = absurd m
      by (Udp primitive first ds) f m = absurd m
      by (Pass constant) f m = absurd m
      by (Late delay) f m = absurd m
      by (Leg us) f m = elim m [
        | inl g ↦ (let q = same-leg s e.scope inputs e.inputs o e.output ts us g in (f ∙ ap Leg (sym q.0), sym q.1))
        | inr n ↦ absurd n
      ]
      by (Path ps style) f m = absurd (let r = in-map (path_spot e.scope e.output) ps (leg_spot s inputs o ts) m in let x : true ≡ false = ap is_leg r.2 in cc)
        where
          is_leg : Spot → Bool
          is_leg (leg_spot s is o ts) = true
          is_leg (path_spot s o p) = false

  pub one-leg : (s r o : ℕ) (is js : List ℕ) (ts us : List Timing) → Mem (leg_spot s is o ts) (spots c) → Mem (leg_spot r js o us) (spots c) → ts ≡ us
  one-leg s r o is js ts us m n =
      let a = spot-element (leg_spot s is o ts) m in
      let b = spot-element (leg_spot r js o us) n in
      let p = leg-kind a.0 s is o ts a.2 in
      let q = leg-kind b.0 r js o us b.2 in
      let same : a.0 ≡ b.0 = one-driver a.0 b.0 a.1 b.1 (p.1 ∙ sym q.1) in
      ap leg_timings (sym p.0 ∙ (ap (λ (e : Element). e.kind) same ∙ q.0))
    where
      leg_timings : Kind → List Timing
      leg_timings (Leg ts) = ts
      leg_timings _ = []

-- ---- entries

abbrev pub path_entry_of : ℕ → specify.Path → PathEntry
path_entry_of o p = record { key = path_key o p; numbers = map numbers_of p.timings }

abbrev pub leg_entry_of : ℕ → List Timing → LegEntry
leg_entry_of o ts = record { net = o; numbers = map numbers_of ts }

module _ (c : Circuit) (s : ℕ) where
  pub record IsPathEntry (e : PathEntry) : Type 0 where
    pub output : ℕ
    pub path : specify.Path
    pub among : Mem (path_spot s output path) (spots c)
    pub is : e ≡ path_entry_of output path

  pub path-entry : (e : PathEntry) → Mem e (path_entries c s) → IsPathEntry e
  path-entry e m = let r = in-flat (paths_at s) (spots c) e m in by r.0 r.1 r.2
    where
      by : (x : Spot) → Mem x (spots c) → Mem e (paths_at s x) → IsPathEntry e
      by (leg_spot t is o ts) m n = absurd n
      by (path_spot t o p) m n = at (t == s) refl n
        where
          at : (b : Bool) → (t == s) ≡ b → Mem e (if b then path_entry_of o p ∷ [] else []) → IsPathEntry e
          at true f k = elim k [
            | inl g ↦ record { output = o; path = p; among = subst (λ r. Mem (path_spot r o p) (spots c)) (eqb-true t s f) m; is = g }
            | inr h ↦ absurd h
          ]
          at false f k = absurd k

  pub path-entry-in : (o : ℕ) (p : specify.Path) → Mem (path_spot s o p) (spots c) → Mem (path_entry_of o p) (path_entries c s)
  path-entry-in o p m =
      flat-in (paths_at s) (spots c) (path_spot s o p) (path_entry_of o p) m (subst (λ b. Mem (path_entry_of o p) (if b then path_entry_of o p ∷ [] else [])) (sym (test_same s s refl)) (inl refl))

  pub record IsLegEntry (e : LegEntry) : Type 0 where
    pub inputs : List ℕ
    pub output : ℕ
    pub timings : List Timing
    pub among : Mem (leg_spot s inputs output timings) (spots c)
    pub is : e ≡ leg_entry_of output timings

  pub leg-entry : (e : LegEntry) → Mem e (legs c s) → IsLegEntry e
  leg-entry e m = let r = in-flat (legs_at s) (spots c) e m in by r.0 r.1 r.2
    where
      by : (x : Spot) → Mem x (spots c) → Mem e (legs_at s x) → IsLegEntry e
      by (path_spot t o p) m n = absurd n
      by (leg_spot t is o ts) m n = at (t == s) refl n
        where
          at : (b : Bool) → (t == s) ≡ b → Mem e (if b then leg_entry_of o ts ∷ [] else []) → IsLegEntry e
          at true f k = elim k [
            | inl g ↦ record { inputs = is; output = o; timings = ts; among = subst (λ r. Mem (leg_spot r is o ts) (spots c)) (eqb-true t s f) m; is = g }
            | inr h ↦ absurd h
          ]
          at false f k = absurd k

  pub leg-entry-in : (inputs : List ℕ) (o : ℕ) (ts : List Timing) → Mem (leg_spot s inputs o ts) (spots c) → Mem (leg_entry_of o ts) (legs c s)
  leg-entry-in inputs o ts m =
      flat-in (legs_at s) (spots c) (leg_spot s inputs o ts) (leg_entry_of o ts) m (subst (λ b. Mem (leg_entry_of o ts) (if b then leg_entry_of o ts ∷ [] else [])) (sym (test_same s s refl)) (inl refl))
