-- Names with two ranges: what the map of the latest ranges tells of those before.
use Rattle.std.specs.Prelude.{◌≡◌, ℕ, suc, ◌<◌, List, [], ◌∷◌, ◌++◌, Bool, true, false, not, ◌&&◌, ◌||◌, cond, Option, Some, None, map, length, slice_index_or, refl, bytes_eq, if◌then◌else◌, ℤ}
use Rattle.std.specs.Borrow.{Bor}
use Rattle.std.specs.List.{list_any}
use Rattle.std.specs.Option.{option_map}
use Rattle.std.proofs.Common.{sym, ◌∙◌, ap, drop, drop-cons, arith}
use Rattle.std.proofs.Math.Bool.{or-false}
use Rattle.std.proofs.lemmas.Cmp.{nat_list_eq_equiv}
use Rattle.std.proofs.lemmas.Int.{ints}
use Rattle.std.proofs.lemmas.Slice.Eq.{bytes_eq-Decides}
use Rattle.sg_circuit.specs.declared.scopes.Range.{Range}
use Rattle.sg_text.specs.declared.places.Place.{Place}
use Rattle.vl_tree.specs.declared.names.Range as written
use Rattle.elab_model.specs.Names.{bounds}
use Rattle.elab_model.specs.NameFaults.{is_same_int, is_same_range}
use Rattle.elab_declared.specs.Words.{first_of}
use Rattle.elab_names.specs.GivenRanges.{NamedRange, view_range, is_other, differing_places}
use Rattle.elab_names.specs.declared.ranges.NamedRange as code

both-true : (a b : Bool) → (a && b) ≡ true → (a ≡ true) × (b ≡ true)
both-true true b h = (refl, h)
both-true false b h = cc

same-int : (a b : ℤ) → is_same_int a b ≡ true → a ≡ b
same-int a b h = grind (arith, ints)

same-range : (a b : Option Range) → is_same_range a b ≡ true → a ≡ b
same-range None None h = refl
same-range None (Some r) h = cc
same-range (Some q) None h = cc
same-range (Some q) (Some r) h =
    let p = both-true (is_same_int q.left r.left) (is_same_int q.right r.right) h in
    ap (λ l. Some (record { left = l; right = q.right })) (same-int q.left r.left p.0) ∙ ap (λ b. Some (record { left = r.left; right = b })) (same-int q.right r.right p.1)

-- ---- the map, beside the declarations before

abbrev gives_other : List ℕ → Option Range → NamedRange → Bool
gives_other n r t = bytes_eq n t.name.text && not (is_same_range r t.range)

abbrev pub Knows : (Bor (List ℕ) → Option (Option written.Range)) → List NamedRange → Type 0
Knows known before = (q : Bor (List ℕ)) (r : Option Range) → list_any (gives_other q.now r) before ≡ is_other r (known q)

-- the first place is still to come, after some declarations that the map knows
pub record IsToCome (known : Bor (List ℕ) → Option (Option written.Range)) (left : List NamedRange) (whole : Option Place) : Type 0 where
  pub before : List NamedRange
  pub knows : Knows known before
  pub rest : first_of (differing_places before left) ≡ whole

or-self : (b : Bool) → (b || b) ≡ b
or-self true = refl
or-self false = refl

not-false : (b : Bool) → not b ≡ false → b ≡ true
not-false true h = refl
not-false false h = cc

-- the same range once more tells nothing new
once-more : (r v : Option Range) (o : Option (Option written.Range)) → is_other v o ≡ false → (not (is_same_range r v) || is_other r o) ≡ not (is_same_range r v)
once-more r v None h = or-false (not (is_same_range r v))
once-more r v (Some w) h =
    let e : v ≡ option_map bounds w = same-range v (option_map bounds w) (not-false (is_same_range v (option_map bounds w)) h) in
    ap (λ u. not (is_same_range r v) || not (is_same_range r u)) (sym e) ∙ or-self (not (is_same_range r v))

knows-next : (x : code.NamedRange) (before : List NamedRange) (old new : Bor (List ℕ) → Option (Option written.Range)) → Knows old before → is_other (option_map bounds x.range) (old x.name.text) ≡ false
    → ((q : Bor (List ℕ)) → new q ≡ cond (bytes_eq x.name.text.now q.now) (Some x.range) (old q)) → Knows new (view_range x ∷ before)
knows-next x before old new k same n q r = by (bytes_eq x.name.text.now q.now) refl
  where
    by : (b : Bool) → bytes_eq x.name.text.now q.now ≡ b
        → ((bytes_eq q.now x.name.text.now && not (is_same_range r (option_map bounds x.range))) || list_any (gives_other q.now r) before) ≡ is_other r (new q)
    by true e =
        let is : q.now ≡ x.name.text.now = sym ((bytes_eq-Decides x.name.text.now q.now).0 e) in
        ap (λ b. (b && not (is_same_range r (option_map bounds x.range))) || list_any (gives_other q.now r) before) (nat_list_eq_equiv.symm q.now x.name.text.now ∙ e)
        ∙ ap (λ m. not (is_same_range r (option_map bounds x.range)) || list_any (gives_other m r) before) is
        ∙ ap (λ b. not (is_same_range r (option_map bounds x.range)) || b) (k x.name.text r) ∙ once-more r (option_map bounds x.range) (old x.name.text) same
        ∙ sym (ap (is_other r) (n q ∙ ap (λ b. cond b (Some x.range) (old q)) e))
    by false e =
        ap (λ b. (b && not (is_same_range r (option_map bounds x.range))) || list_any (gives_other q.now r) before) (nat_list_eq_equiv.symm q.now x.name.text.now ∙ e) ∙ k q r
        ∙ sym (ap (is_other r) (n q ∙ ap (λ b. cond b (Some x.range) (old q)) e))

-- ---- the loop over the code's list

module _ (d : code.NamedRange) (ranges : List code.NamedRange) (i : ℕ) (lt : i < length ranges) (whole : Option Place) where
  abbrev this : code.NamedRange
  this = slice_index_or ranges i d

  -- what is to come, where it is known whether this one is a fault
  tested : (known : Bor (List ℕ) → Option (Option written.Range)) (b : Bool) → is_other (option_map bounds this.range) (known this.name.text) ≡ b → (h : IsToCome known (map view_range (drop i ranges)) whole)
      → first_of ((if b then this.name.place ∷ [] else []) ++ differing_places (view_range this ∷ h.before) (map view_range (drop (suc i) ranges))) ≡ whole
  tested known b e h =
      sym (ap (λ c. first_of ((if c then this.name.place ∷ [] else []) ++ differing_places (view_range this ∷ h.before) (map view_range (drop (suc i) ranges)))) (h.knows this.name.text (option_map bounds this.range) ∙ e))
      ∙ ap (λ xs. first_of (differing_places h.before (map view_range xs))) (sym (drop-cons ranges i d lt)) ∙ h.rest

  pub found-other : (known : Bor (List ℕ) → Option (Option written.Range)) → is_other (option_map bounds this.range) (known this.name.text) ≡ true
      → IsToCome known (map view_range (drop i ranges)) whole → Some this.name.place ≡ whole
  found-other known e h = tested known true e h

  pub next-same : (old new : Bor (List ℕ) → Option (Option written.Range)) → is_other (option_map bounds this.range) (old this.name.text) ≡ false
      → ((q : Bor (List ℕ)) → new q ≡ cond (bytes_eq this.name.text.now q.now) (Some this.range) (old q)) → IsToCome old (map view_range (drop i ranges)) whole → IsToCome new (map view_range (drop (suc i) ranges)) whole
  next-same old new e n h = record { before = view_range this ∷ h.before; knows = knows-next this h.before old new h.knows e n; rest = tested old false e h }

-- at the start the map knows nothing, and at the end nothing is to come
pub none-known : (known : Bor (List ℕ) → Option (Option written.Range)) (left : List NamedRange) → ((q : Bor (List ℕ)) → known q ≡ None) → IsToCome known left (first_of (differing_places [] left))
none-known known left h = record { before = []; knows = λ q r. sym (ap (is_other r) (h q)); rest = refl }

pub none-left : (known : Bor (List ℕ) → Option (Option written.Range)) (left : List NamedRange) (whole : Option Place) → left ≡ [] → IsToCome known left whole → None ≡ whole
none-left known left whole e h = sym (ap (λ xs. first_of (differing_places h.before xs)) e) ∙ h.rest
