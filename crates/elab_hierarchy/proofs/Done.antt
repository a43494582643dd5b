-- All children are placed, or one of them is refused.
use Rattle.std.specs.Prelude.{◌≡◌, ℕ, zero, suc, ◌+◌, ◌<◌, ◌≤◌, ◌==◌, ◌^◌, List, [], ◌∷◌, ◌++◌, ◌⊎◌, true, false, flat_map, length, refl, if◌then◌else◌}
use Rattle.std.specs.Global.{Vec}
use Rattle.std.proofs.Common.{sym, ◌∙◌, ap, arith, inl, inr, subst, drop, append_assoc, append-nil, length-append}
use Rattle.std.proofs.Math.Seq.{drop-length}
use Rattle.std.proofs.lemmas.Grind.{flat_map-append}
use Rattle.std.proofs.lemmas.Bool.Decides.{nat_tests}
use Rattle.sg_text.specs.declared.places.Place.{Place}
use Rattle.sg_text.specs.declared.refusals.Refused.{Refused}
use Rattle.sg_text.specs.declared.refusals.Refused.TheVariants as refused
use Rattle.vl_tree.specs.Tree.{Source}
use Rattle.elab_model.specs.declared.kinds.ElabKind.{ElabKind}
use Rattle.elab_model.specs.declared.kinds.ElabKind.TheVariants.{SelfInstance, TooDeep, TooMany}
use Rattle.elab_model.specs.Faults.{fault, fault_if, RefusesOneOf}
use Rattle.elab_model.specs.Hierarchy.{Instance, Child, children_in, instances_from}
use Rattle.elab_model.specs.HierarchyFaults.{is_above, self_instances, past_limit, first_too_deep, count_limit}
use Rattle.elab_hierarchy.specs.Children.{AreChildren}
use Rattle.elab_hierarchy.specs.Growing.{below, IsAt, AreFaultless, Grown, IsTooDeep, Breaks, BreaksAt, RefusesChild}
use Rattle.elab_hierarchy.specs.Placing.{ArePlaced}
use Rattle.elab_hierarchy.specs.declared.children.Child as code_child
use Rattle.elab_hierarchy.specs.declared.instances.Placed.{Placed}
use Rattle.elab_hierarchy.proofs.Listed.{placed-length}
use Rattle.elab_hierarchy.proofs.Sizes.{with-below, below_from, none-below, child_instance, child-below}
use Rattle.elab_hierarchy.proofs.Going.{Going, Next, self_at, faultless-append}

-- ---- all are placed

none-left : (source : Source) (cs : List code_child.Child) (k : ℕ) (left : List Child) → k ≡ length cs → AreChildren source (drop k cs) left → left ≡ []
none-left source cs k left e h = by left (subst (λ xs. AreChildren source xs left) (ap (λ n. drop n cs) e ∙ drop-length cs) h)
  where
    by : (left : List Child) → AreChildren source [] left → left ≡ []
    by [] g = refl
    by (c ∷ left) g = absurd g

at-limit : (source : Source) (s : Instance) → s.step.levels ≡ 0 → past_limit source s ≡ children_in source s.step.definition
at-limit source s e = ap (λ l. if l == 0 then children_in source s.step.definition else []) e

not-deep : (source : Source) (n : ℕ) (s : Instance) → s.step.levels ≡ n → (n ≡ 0 → children_in source s.step.definition ≡ []) → past_limit source s ≡ []
not-deep source zero s e h = at-limit source s e ∙ h refl
not-deep source (suc n) s e h =
    let z : (s.step.levels == 0) ≡ false = grind (arith, nat_tests) in
    ap (λ b. if b then children_in source s.step.definition else []) z

pub all-placed : (source : Source) (n : ℕ) (s : Instance) (cs : List code_child.Child) (k : ℕ) (old now : List Placed) → k ≡ length cs → s.step.levels ≡ n → Going source n s cs k old now
    → Grown source n s old now
all-placed source n s cs k old now e leveled h =
    let none = none-left source cs k h.left e h.are in
    let is : h.done ≡ below source n s =
    sym (append-nil h.done) ∙ ap (λ xs. h.done ++ xs) (sym (none-below source n s (length now))) ∙ ap (λ xs. h.done ++ below_from source n s (length now) xs) (sym none) ∙ h.rest in
    let no_self : self_instances source s ≡ [] = sym h.self ∙ ap (flat_map (self_at s)) none in
    let no_deep : past_limit source s ≡ [] = not-deep source n s leveled (λ z. sym (h.deep z) ∙ none) in
    record {
      added = h.added;
      grown = h.grown;
      placed = subst (ArePlaced source h.added) is h.placed;
      faultless = subst (AreFaultless source) (sym (with-below source n s))
          (faultless-append source (s ∷ []) (below source n s) (ap (λ xs. xs ++ []) no_self, ap (λ xs. xs ++ []) no_deep) (subst (AreFaultless source) is h.faultless));
    }

-- ---- one is refused

-- the place in the list of what comes next
next-place : (source : Source) (n number : ℕ) (s : Instance) (cs : List code_child.Child) (k : ℕ) (old now : List Placed) → length old ≡ suc number → (h : Going source n s cs k old now)
    → number + length (s ∷ h.done) ≡ length now
next-place source n number s cs k old now last h =
    let a : length now ≡ length old + length h.added = ap length h.grown ∙ length-append old h.added in
    let b : length h.added ≡ length h.done = placed-length source h.added h.done h.placed in
    omega arith

-- the instances, cut at the next child
cut-at : (source : Source) (d : ℕ) (s : Instance) (x : code_child.Child) (cs : List code_child.Child) (k : ℕ) (old now : List Placed) → (h : Going source (suc d) s cs k old now)
    → (n : Next source x cs k h.left)
    → (rest : List Instance) × (instances_from source (suc d) s ≡ (s ∷ h.done) ++ (instances_from source d (child_instance d s n.child (length now)) ++ rest))
cut-at source d s x cs k old now h n = (
  _,
  ap (λ xs. s ∷ xs) (sym h.rest ∙ ap (λ xs. h.done ++ below_from source (suc d) s (length now) xs) n.cut
      ∙ ap (λ xs. h.done ++ xs) (child-below source d s (length now) n.child n.others)),
)

-- a child that is refused itself
self-refused : (source : Source) (s : Instance) (child : Child) (others : List Child) (place : Place) → flat_map (self_at s) (child ∷ others) ≡ self_instances source s
    → is_above s child.definition ≡ true → place ≡ child.place → RefusesOneOf (self_instances source s) (refused.Fault SelfInstance place)
self-refused source s child others place e above at =
    subst (λ xs. RefusesOneOf xs (refused.Fault SelfInstance place)) (ap (λ b. fault_if b SelfInstance child.place ++ flat_map (self_at s) others) (sym above) ∙ e)
    (0, (omega arith, ap (fault SelfInstance) at))

deep-refused : (source : Source) (s : Instance) (child : Child) (others : List Child) (place : Place) → s.step.levels ≡ 0 → child ∷ others ≡ children_in source s.step.definition
    → place ≡ child.place → IsTooDeep source [] s TooDeep place
deep-refused source s child others place e cut at =
    (refl, subst (λ cs. RefusesOneOf (first_too_deep cs) (refused.Fault TooDeep place)) (cut ∙ sym (at-limit source s e)) (0, (omega arith, ap (fault TooDeep) at)))

here : (source : Source) (n number : ℕ) (s : Instance) (kind : ElabKind) (place : Place) → RefusesOneOf (self_instances source s) (refused.Fault kind place) ⊎ IsTooDeep source [] s kind place
    → BreaksAt source number (instances_from source n s) kind place
here source n number s kind place h =
    record { before = []; at = s; after = below source n s; cut = with-below source n s; fails = elim h [ inl f ↦ inl f | inr f ↦ inr (inl f) ] }

pub child-refused : (source : Source) (all : List (Vec code_child.Child)) (n definition number : ℕ) (chain : List ℕ) (c : ℕ) (s : Instance) (x : code_child.Child) (cs : List code_child.Child) (k : ℕ)
    (old now : List Placed) (count : ℕ) (r : Refused ElabKind) → IsAt source all n definition number chain c s → (h : Going source n s cs k old now) → (next : Next source x cs k h.left)
    → length old ≡ suc number → count ≡ length now → length now ≤ 2 ^ 22 → RefusesChild n x chain count r → Breaks source number (instances_from source n s) r
child-refused source all n definition number chain c s x cs k old now count refused.NoMemory at h next last e few why = tt
child-refused source all n definition number chain c s x cs k old now count (refused.Fault kind place) at h next last e few (there, why) =
    let is : place ≡ next.child.place = there ∙ next.same.place in
    elim why [
      | inl w ↦ subst (λ q. BreaksAt source number (instances_from source n s) q place) (sym w.1)
          (here source n number s SelfInstance place
          (inl (self-refused source s next.child next.others place (ap (flat_map (self_at s)) (sym next.cut) ∙ h.self)
          (sym (at.chained x.definition next.child.definition next.same.stands) ∙ w.0) is)))
      | inr (inl w) ↦ subst (λ q. BreaksAt source number (instances_from source n s) q place) (sym w.1)
          (here source n number s TooDeep place (inr (deep-refused source s next.child next.others place (at.leveled ∙ w.0) (sym next.cut ∙ h.deep w.0) is)))
      | inr (inr w) ↦ past n w.0 h next (next-place source n number s cs k old now last h) w.1 w.2 is
    ]
  where
    past : (n : ℕ) → 0 < n → (h : Going source n s cs k old now) → (next : Next source x cs k h.left) → number + length (s ∷ h.done) ≡ length now → 2 ^ 22 ≤ count → kind ≡ TooMany
        → place ≡ next.child.place → BreaksAt source number (instances_from source n s) kind place
    past zero lt h next q full many is = absurd (omega arith)
    past (suc d) lt h next q full many is =
        let r = cut-at source d s x cs k old now h next in
        let t = child_instance d s next.child (length now) in
        record {
          before = s ∷ h.done;
          at = t;
          after = below source d t ++ r.0;
          cut = r.1 ∙ ap (λ xs. (s ∷ h.done) ++ (xs ++ r.0)) (with-below source d t);
          fails = inr (inr (let f : number + length (s ∷ h.done) ≡ count_limit = omega arith in f, many, is));
        }

-- ---- one below a child is refused

pub below-refused : (source : Source) (d number : ℕ) (s : Instance) (x : code_child.Child) (cs : List code_child.Child) (k : ℕ) (old now : List Placed) (r : Refused ElabKind)
    → (h : Going source (suc d) s cs k old now) → (next : Next source x cs k h.left) → length old ≡ suc number → s.step.levels ≡ suc d
    → Breaks source (length now) (instances_from source d (child_instance d s next.child (length now))) r → Breaks source number (instances_from source (suc d) s) r
below-refused source d number s x cs k old now refused.NoMemory h next last leveled b = tt
below-refused source d number s x cs k old now (refused.Fault kind place) h next last leveled b =
    let r = cut-at source d s x cs k old now h next in
    let q = next-place source (suc d) number s cs k old now last h in
    let l : length ((s ∷ h.done) ++ b.before) ≡ length (s ∷ h.done) + length b.before = length-append (s ∷ h.done) b.before in
    let none : flat_map (past_limit source) (s ∷ h.done) ≡ [] = ap (λ xs. xs ++ flat_map (past_limit source) h.done) (not-deep source (suc d) s leveled (λ z. absurd (omega arith))) ∙ h.faultless.1 in
    let p : number + length ((s ∷ h.done) ++ b.before) ≡ length now + length b.before = omega arith in
    record {
      before = (s ∷ h.done) ++ b.before;
      at = b.at;
      after = b.after ++ r.0;
      cut = r.1 ∙ ap (λ xs. (s ∷ h.done) ++ (xs ++ r.0)) b.cut
          ∙ ap (λ xs. (s ∷ h.done) ++ xs) (append_assoc b.before (b.at ∷ b.after) r.0)
          ∙ sym (append_assoc (s ∷ h.done) b.before (b.at ∷ (b.after ++ r.0)));
      fails = elim b.fails [
        | inl f ↦ inl f
        | inr (inl f) ↦ inr (inl (flat_map-append (past_limit source) (s ∷ h.done) b.before ∙ ap (λ xs. xs ++ flat_map (past_limit source) b.before) none ∙ f.0, f.1))
        | inr (inr g) ↦ inr (inr (p ∙ g.0, g.1, g.2))
      ];
    }

-- the same, where the levels and the number are the code's
pub code-below-refused : (source : Source) (n d own number : ℕ) (s : Instance) (x : code_child.Child) (cs : List code_child.Child) (k : ℕ) (old now : List Placed) (r : Refused ElabKind) → n ≡ suc d
    → own ≡ length now → (h : Going source n s cs k old now) → (next : Next source x cs k h.left) → length old ≡ suc number → s.step.levels ≡ n
    → Breaks source own (instances_from source d (child_instance d s next.child own)) r → Breaks source number (instances_from source n s) r
code-below-refused source zero d own number s x cs k old now r e f h next last leveled b = absurd (omega arith)
code-below-refused source (suc m) d own number s x cs k old now r e f h next last leveled b =
    let g : d ≡ m = omega arith in
    below-refused source m number s x cs k old now r h next last leveled
    (subst (λ o. Breaks source o (instances_from source m (child_instance m s next.child o)) r) f
    (subst (λ l. Breaks source own (instances_from source l (child_instance l s next.child own)) r) g b))
