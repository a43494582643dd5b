-- The entries of all scopes give each leg and each path its own timings.
use Rattle.std.proofs.Common.{◌≡◌, ◌<◌, ◌≤◌, Bool, true, false, List, ◌++◌, length, refl, sym, ◌∙◌, ap, subst, arith, inl, inr}
use Rattle.std.specs.Prelude.{ℕ, ◌+◌, ◌⊎◌, map, Option, Some, None, if◌then◌else◌}
use Rattle.std.specs.List.{flat_map, range_with_len}
use Rattle.std.proofs.lemmas.List.{length-map}
use Rattle.sg_delay.specs.declared.corners.Corner.{Corner}
use Rattle.sg_circuit.specs.Circuit.{Circuit}
use Rattle.sg_circuit.specs.Closed.{IsClosed}
use Rattle.sg_circuit.specs.Paths as specify
use Rattle.sg_circuit.specs.Timings.{Timing}
use Rattle.sdf_tree.specs.declared.words.Divider.TheVariants.{Slash}
use Rattle.annotation_model.specs.Applied.{applied}
use Rattle.annotation_model.specs.Given.{Given}
use Rattle.annotation_model.specs.Spots.{after, Spot, leg_spot, path_spot, spots, scope_of, timings_of, is_for_spot}
use Rattle.sdf_tree.specs.declared.tree.Edge.{Edge}
use Rattle.sdf_tree.specs.Written as written
use Rattle.annotation_model.specs.Matching.{fits_condition}
use Rattle.annotation_model.specs.Same.{fits_edge}
use Rattle.written_model.specs.Entries.{PathKey, LegEntry, PathEntry, legs, paths, path_entries, checks, numbers_of, path_rank, path_key, edge_of, condition_of, one_if, condition_rank}
use Rattle.written_model.specs.Faults.{AreFaultless}
use Rattle.written_reading.specs.Named.{IsNamed}
use Rattle.written_giving.specs.AnnotatedBack.{as_number}
use Rattle.written_giving.proofs.FaultLaws.{one-path-value, scope_grid, scale, path-read, path-twelve, leg-read, leg-twelve}
use Rattle.written_giving.proofs.KeyLaws.{edge-fits, condition-fits, option-rank, option-equal, words-rank, words-equal}
use Rattle.written_giving.proofs.MatchLaws.{PathFits}
use Rattle.written_giving.proofs.MemberLaws.{Mem, in-map, map-in}
use Rattle.written_giving.proofs.SpotLaws.{spot-timings, spot-scope, one-leg, path_entry_of, leg_entry_of, path-entry, path-entry-in, leg-entry, leg-entry-in}
use Rattle.written_giving.proofs.StepLaws.{stepped, Sets, Passes, Holds, Leads, Skips, leads-behind, leads-before, keeps-skips, stays-skips, stays-both, skips-each, leads-each, leads-range, leads-ranked}
use Rattle.written_giving.proofs.TimingLaws.{changes-give, said, said-number}
use Rattle.written_giving.proofs.TreeLaws.{leg_given, path_given, check_given, given_of}
use Rattle.written_giving.proofs.GivenLaws.{IsGivenOf, given-is, ranked-pieces, check-none, leg-none, leg-given-for, path-given-for, given-scope, path-given-own, leg-given-own}

module _ (c : Circuit) (closed : IsClosed c) (named : IsNamed c) where
  -- ---- ranks

  record Below (s o : ℕ) (p : specify.Path) (e : PathEntry) : Type 0 where
    pub rank : path_rank e.key ≤ path_rank (path_key o p)
    pub key : path_rank e.key ≡ path_rank (path_key o p) → e.key ≡ path_key o p

  below-own : (s o : ℕ) (p : specify.Path) (e : PathEntry) → Mem e (path_entries c s) → PathFits c closed named s e.key.input e.key.output e.key.edge e.key.condition s o p → Below s o p e
  below-own s o p e m fits =
      let i = path-entry c s e m in
      by i.output i.path i.is fits
    where
      keys : (a b : PathKey) → a.input ≡ b.input → a.output ≡ b.output → a.edge ≡ b.edge → a.condition ≡ b.condition → a ≡ b
      keys a b e f g h =
          ap {B = PathKey} (λ x. record { input = x; output = a.output; edge = a.edge; condition = a.condition }) e
          ∙ (ap {B = PathKey} (λ x. record { input = b.input; output = x; edge = a.edge; condition = a.condition }) f
          ∙ (ap {B = PathKey} (λ x. record { input = b.input; output = b.output; edge = x; condition = a.condition }) g
          ∙ ap {B = PathKey} (λ x. record { input = b.input; output = b.output; edge = b.edge; condition = x }) h))

      by : (o1 : ℕ) (p1 : specify.Path) → e ≡ path_entry_of o1 p1 → PathFits c closed named s e.key.input e.key.output e.key.edge e.key.condition s o p → Below s o p e
      by o1 p1 is fits =
          let edge = edge-fits p1.edge p.edge (subst (λ (x : PathEntry). fits_edge x.key.edge p.edge ≡ true) is fits.at_edge) in
          let words = condition-fits p1.condition p.condition (subst (λ (x : PathEntry). fits_condition x.key.condition p.condition ≡ true) is fits.at_condition) in
          let less_edge = option-rank (edge_of p1.edge) (edge_of p.edge) edge in
          let less_words = words-rank (condition_of p1.condition) (condition_of p.condition) words in
          subst (Below s o p) (sym is) (record {
            rank = omega (arith, less_edge, less_words);
            key = λ r. keys (path_key o1 p1) (path_key o p) (subst (λ (x : PathEntry). x.key.input ≡ p.input) is fits.at_input) (subst (λ (x : PathEntry). x.key.output ≡ o) is fits.at_output)
                (option-equal (edge_of p1.edge) (edge_of p.edge) edge (omega (arith, less_edge, less_words, r)))
                (words-equal (condition_of p1.condition) (condition_of p.condition) words (omega (arith, less_edge, less_words, r)));
          })

  -- ---- what entries make of a spot's timings

  module _ (faultless : AreFaultless c) (corner : Corner) where
    abbrev pub step : Spot → Given → List Timing → List Timing
    step x g ts = stepped (λ h. is_for_spot c Slash h x) (λ h us. applied (scope_grid c corner (scope_of x)) h.entry us) g ts

    abbrev pub Twelve : List Timing → Type 0
    Twelve ts = length ts ≡ 12

    abbrev pub own : Spot → List Timing
    own x = map as_number (timings_of x)

    own-twelve : (x : Spot) → Mem x (spots c) → Twelve (own x)
    own-twelve x m = length-map (timings_of x) as_number ∙ (spot-timings c closed x m).0

    step-true : (x : Spot) (g : Given) (ts : List Timing) → is_for_spot c Slash g x ≡ true → step x g ts ≡ applied (scope_grid c corner (scope_of x)) g.entry ts
    step-true x g ts e = ap (λ b. if b then applied (scope_grid c corner (scope_of x)) g.entry ts else ts) e

    step-false : (x : Spot) (g : Given) (ts : List Timing) → is_for_spot c Slash g x ≡ false → step x g ts ≡ ts
    step-false x g ts e = ap (λ b. if b then applied (scope_grid c corner (scope_of x)) g.entry ts else ts) e

    -- other scopes leave it
    other-scope : (x : Spot) (m : Mem x (spots c)) (s : ℕ) → s < length c.scopes → (s ≡ scope_of x → ⊥) → Skips (step x) Twelve (own x) (own-twelve x m) (given_of c s)
    other-scope x m s l ne =
        skips-each (step x) Twelve (own x) (own-twelve x m) (given_of c s) (λ g n v h. step-false x g v (by g (is_for_spot c Slash g x) refl (given-is c s g n)))
      where
        by : (g : Given) (b : Bool) → is_for_spot c Slash g x ≡ b → IsGivenOf c s g → is_for_spot c Slash g x ≡ false
        by g true e i = absurd (ne (given-scope c closed named s g x l (spot-scope c closed x m) i e))
        by g false e i = e

    -- where the own scope leads to the timings, all scopes do
    all-lead : (x : Spot) (m : Mem x (spots c)) → Leads (step x) Twelve (own x) (own-twelve x m) (given_of c (scope_of x)) → Leads (step x) Twelve (own x) (own-twelve x m) (flat_map (given_of c) (range_with_len 0 (length c.scopes)))
    all-lead x m h =
        let good = own-twelve x m in
        let within = spot-scope c closed x m in
        leads-range (step x) Twelve (own x) good (given_of c) (scope_of x) 0 (length c.scopes) (omega arith) (omega (arith, within))
        (λ s l. keeps-skips (step x) Twelve (own x) good (given_of c s) (other-scope x m s (omega (arith, l, within)) (λ e. omega (arith, l, e)))) h
        (λ s l k. stays-skips (step x) Twelve (own x) good (given_of c s) (other-scope x m s (omega (arith, k)) (λ e. omega (arith, l, e))))

    -- ---- a path

    module _ (s o : ℕ) (p : specify.Path) (m : Mem (path_spot s o p) (spots c)) where
      abbrev x : Spot
      x = path_spot s o p

      abbrev good : Twelve (own x)
      good = own-twelve x m

      abbrev within : s < length c.scopes
      within = spot-scope c closed x m

      path-gives : (e : PathEntry) (ts : List Timing) → Mem e (path_entries c s) → Twelve ts → is_for_spot c Slash (path_given c s e) x ≡ true → step x (path_given c s e) ts ≡ map said e.numbers
      path-gives e ts n h t =
          step-true x (path_given c s e) ts t
          ∙ changes-give (scope_grid c corner s) refl (scale c closed faultless corner s within) e.numbers ts (path-read c closed faultless corner s within e n) (path-twelve c closed faultless corner s within e n) h

      path-below : (e : PathEntry) → Mem e (path_entries c s) → is_for_spot c Slash (path_given c s e) x ≡ true → Below s o p e
      path-below e n t = below-own s o p e n (path-given-for c closed named s e s o p within within n t)

      path-sets : (e : PathEntry) → Mem e (path_entries c s) → is_for_spot c Slash (path_given c s e) x ≡ true → e.key ≡ path_key o p → Sets (step x) Twelve (own x) good (path_given c s e)
      path-sets e n t k ts h =
          path-gives e ts n h t ∙ (ap (map said) (one-path-value c faultless s e (path_entry_of o p) n (path-entry-in c s o p m) k) ∙ said-number p.timings)

      path-holds : (e : PathEntry) → Mem e (path_entries c s) → Holds (step x) Twelve (own x) good (path_given c s e)
      path-holds e n ts h = by (is_for_spot c Slash (path_given c s e) x) refl
        where
          by : (b : Bool) → is_for_spot c Slash (path_given c s e) x ≡ b → Twelve (step x (path_given c s e) ts)
          by true t = ap length (path-gives e ts n h t) ∙ (length-map e.numbers said ∙ path-twelve c closed faultless corner s within e n)
          by false t = ap length (step-false x (path_given c s e) ts t) ∙ h

      path-same : (e : PathEntry) → Mem e (path_entries c s) → path_rank e.key ≡ path_rank (path_key o p) → Sets (step x) Twelve (own x) good (path_given c s e) ⊎ Passes (step x) Twelve (own x) good (path_given c s e)
      path-same e n r = by (is_for_spot c Slash (path_given c s e) x) refl
        where
          by : (b : Bool) → is_for_spot c Slash (path_given c s e) x ≡ b → Sets (step x) Twelve (own x) good (path_given c s e) ⊎ Passes (step x) Twelve (own x) good (path_given c s e)
          by true t = inl (path-sets e n t ((path-below e n t).key r))
          by false t = inr (λ v h. step-false x (path_given c s e) v t)

      path-above : (e : PathEntry) → Mem e (path_entries c s) → path_rank (path_key o p) < path_rank e.key → Passes (step x) Twelve (own x) good (path_given c s e)
      path-above e n r = by (is_for_spot c Slash (path_given c s e) x) refl
        where
          by : (b : Bool) → is_for_spot c Slash (path_given c s e) x ≡ b → Passes (step x) Twelve (own x) good (path_given c s e)
          by true t = absurd (let q = (path-below e n t).rank in omega (arith, q, r))
          by false t = λ v h. step-false x (path_given c s e) v t

      few-ranks : (k : PathKey) → path_rank k < 5
      few-ranks k = by k.edge k.condition
        where
          by : (a : Option Edge) (b : written.PathCondition) → one_if a + condition_rank b < 5
          by None written.always = omega arith
          by None written.otherwise = omega arith
          by None (written.if_words ts) = omega arith
          by (Some e) written.always = omega arith
          by (Some e) written.otherwise = omega arith
          by (Some e) (written.if_words ts) = omega arith

      paths-lead : Leads (step x) Twelve (own x) good (map (path_given c s) (paths c s))
      paths-lead =
          subst (Leads (step x) Twelve (own x) good) (sym (ranked-pieces (λ (e : PathEntry). path_rank e.key) (path_given c s) (path_entries c s)))
          (leads-ranked (step x) Twelve (own x) good (path_given c s) (λ (e : PathEntry). path_rank e.key) (path_entries c s) (path_entry_of o p) (path-entry-in c s o p m) (few-ranks (path_key o p))
          (path-sets (path_entry_of o p) (path-entry-in c s o p m) (path-given-own c closed named s o p within m) refl) path-holds path-same path-above)

      path-leads : Leads (step x) Twelve (own x) good (flat_map (given_of c) (range_with_len 0 (length c.scopes)))
      path-leads =
          all-lead x m (leads-behind (step x) Twelve (own x) good (map (leg_given c s) (legs c s)) (map (path_given c s) (paths c s) ++ map (check_given c s) (checks c s))
          (keeps-skips (step x) Twelve (own x) good (map (leg_given c s) (legs c s)) (skips-each (step x) Twelve (own x) good (map (leg_given c s) (legs c s)) (λ g n v h.
          let r = in-map (leg_given c s) (legs c s) g n in step-false x g v (ap (λ k. is_for_spot c Slash k x) r.2 ∙ leg-none c s r.0 s o p))))
          (leads-before (step x) Twelve (own x) good (map (path_given c s) (paths c s)) (map (check_given c s) (checks c s)) paths-lead
          (stays-skips (step x) Twelve (own x) good (map (check_given c s) (checks c s)) (skips-each (step x) Twelve (own x) good (map (check_given c s) (checks c s)) (λ g n v h.
          let r = in-map (check_given c s) (checks c s) g n in step-false x g v (ap (λ k. is_for_spot c Slash k x) r.2 ∙ check-none c s r.0 x))))))

    -- ---- a leg

    module _ (s : ℕ) (is : List ℕ) (o : ℕ) (us : List Timing) (m : Mem (leg_spot s is o us) (spots c)) where
      abbrev y : Spot
      y = leg_spot s is o us

      abbrev fine : Twelve (own y)
      fine = own-twelve y m

      abbrev inside : s < length c.scopes
      inside = spot-scope c closed y m

      leg-sets : (e : LegEntry) → Mem e (legs c s) → is_for_spot c Slash (leg_given c s e) y ≡ true → Sets (step y) Twelve (own y) fine (leg_given c s e)
      leg-sets e n t ts h =
          let i = leg-entry c s e n in
          let net : e.net ≡ o = (leg-given-for c closed named s e s is o us inside inside n t).1 in
          let output : i.output ≡ o = sym (ap (λ (z : LegEntry). z.net) i.is) ∙ net in
          let timings : i.timings ≡ us = one-leg c closed s s o i.inputs is i.timings us (subst (λ q. Mem (leg_spot s i.inputs q i.timings) (spots c)) output i.among) m in
          step-true y (leg_given c s e) ts t
          ∙ (changes-give (scope_grid c corner s) refl (scale c closed faultless corner s inside) e.numbers ts (leg-read c closed faultless corner s inside e n) (leg-twelve c closed faultless corner s inside e n) h
          ∙ (ap (map said) (ap (λ (z : LegEntry). z.numbers) i.is ∙ ap (map numbers_of) timings) ∙ said-number us))

      leg-same : (e : LegEntry) → Mem e (legs c s) → Sets (step y) Twelve (own y) fine (leg_given c s e) ⊎ Passes (step y) Twelve (own y) fine (leg_given c s e)
      leg-same e n = by (is_for_spot c Slash (leg_given c s e) y) refl
        where
          by : (b : Bool) → is_for_spot c Slash (leg_given c s e) y ≡ b → Sets (step y) Twelve (own y) fine (leg_given c s e) ⊎ Passes (step y) Twelve (own y) fine (leg_given c s e)
          by true t = inl (leg-sets e n t)
          by false t = inr (λ v h. step-false y (leg_given c s e) v t)

      legs-lead : Leads (step y) Twelve (own y) fine (map (leg_given c s) (legs c s))
      legs-lead =
          leads-each (step y) Twelve (own y) fine (map (leg_given c s) (legs c s)) (leg_given c s (leg_entry_of o us)) (map-in (leg_given c s) (legs c s) (leg_entry_of o us) (leg-entry-in c s is o us m))
          (leg-sets (leg_entry_of o us) (leg-entry-in c s is o us m) (leg-given-own c closed named s is o us inside m))
          (λ g n. let r = in-map (leg_given c s) (legs c s) g n in subst (λ k. Sets (step y) Twelve (own y) fine k ⊎ Passes (step y) Twelve (own y) fine k) (sym r.2) (leg-same r.0 r.1))

      leg-leads : Leads (step y) Twelve (own y) fine (flat_map (given_of c) (range_with_len 0 (length c.scopes)))
      leg-leads =
          all-lead y m (leads-before (step y) Twelve (own y) fine (map (leg_given c s) (legs c s)) (map (path_given c s) (paths c s) ++ map (check_given c s) (checks c s)) legs-lead
          (stays-both (step y) Twelve (own y) fine (map (path_given c s) (paths c s)) (map (check_given c s) (checks c s))
          (stays-skips (step y) Twelve (own y) fine (map (path_given c s) (paths c s)) (skips-each (step y) Twelve (own y) fine (map (path_given c s) (paths c s)) (λ g n v h.
          let r = in-map (path_given c s) (paths c s) g n in step-false y g v (ap (λ k. is_for_spot c Slash k y) r.2))))
          (stays-skips (step y) Twelve (own y) fine (map (check_given c s) (checks c s)) (skips-each (step y) Twelve (own y) fine (map (check_given c s) (checks c s)) (λ g n v h.
          let r = in-map (check_given c s) (checks c s) g n in step-false y g v (ap (λ k. is_for_spot c Slash k y) r.2 ∙ check-none c s r.0 y))))))

    -- the entries of all scopes give each leg and each path its own timings
    pub spot-gives : (z : Spot) → Mem z (spots c) → (ts : List Timing) → length ts ≡ 12 → after (step z) (flat_map (given_of c) (range_with_len 0 (length c.scopes))) ts ≡ map as_number (timings_of z)
    spot-gives (path_spot s o p) m ts h = path-leads s o p m ts h
    spot-gives (leg_spot s is o us) m ts h = leg-leads s is o us m ts h
