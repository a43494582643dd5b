-- The copies that a check asks for stand among those of its module.
use Rattle.std.specs.Prelude.{◌≡◌, ℕ, zero, suc, ◌+◌, ◌<◌, List, [], ◌∷◌, ◌++◌, Bool, true, false, Option, Some, None, filter_map, flat_map, length, map, refl}
use Rattle.std.specs.List.{position_from, range_with_len}
use Rattle.std.proofs.Common.{sym, ◌∙◌, ap, arith, inl, inr, subst}
use Rattle.std.proofs.lemmas.List.{map-append}
use Rattle.sg_circuit.specs.Closed.{width_of}
use Rattle.sg_text.specs.declared.places.Place.{Place}
use Rattle.vl_tree.specs.Tree.{Named, Event, Check, one_limit_check, two_limit_check, width_check, period_check, Module}
use Rattle.elab_laws.specs.Words.{In}
use Rattle.elab_laws.proofs.Copies.{copies-decide, copy-same, in-module_copies}
use Rattle.elab_laws.proofs.Lists.{in-left, in-right}
use Rattle.elab_model.specs.declared.kinds.ElabKind.TheVariants.{UnknownName}
use Rattle.elab_model.specs.Bits.{net, variable_named, whole_bits}
use Rattle.elab_model.specs.Faults.{fault_if}
use Rattle.elab_model.specs.Lates.{DelayedCopy, is_same_copy, copies_of, copies, module_copies}
use Rattle.elab_model.specs.Members.{check, delayed_names, listed, members}
use Rattle.elab_model.specs.Names.{Variable, variables}
use Rattle.elab_model.specs.TerminalFaults.{is_missing}
use Rattle.elab_model.specs.Terms.{net_bit, term_bits}
use Rattle.specify_model.specs.CheckFaults.{event_faults, some_event_faults}
use Rattle.specify_model.specs.Checks.{reference_of, data_of, copy_of, check_copies, name_bit}
use Rattle.specify_model.specs.Conditions.{first_bit}
use Rattle.specify_model.specs.Faults.{operand_faults}
use Rattle.specify_paths.proofs.InOrder.{none-left}
use Rattle.specify_checks.proofs.OneBit.{has-bit, only-bit}
use Rattle.specify_checks.specs.Copies.{copy_at, name_term, place_among, AreNamed, IsNamed}

-- ---- a name that is of one bit is that of its variable's first

module _ (vs : List Variable) (n : Named) (sound : operand_faults vs (name_term n) ≡ []) where
  pub name-declared : (v : Variable) × (variable_named vs n.text ≡ Some v)
  name-declared = by (variable_named vs n.text) refl (none-left (fault_if (is_missing (variable_named vs n.text)) UnknownName n.place ++ []) _ sound)
    where
      by : (o : Option Variable) → variable_named vs n.text ≡ o → fault_if (is_missing o) UnknownName n.place ++ [] ≡ [] → (v : Variable) × (variable_named vs n.text ≡ Some v)
      by (Some v) e h = (v, e)
      by None e h = cc

  pub first-named : first_bit (term_bits vs (name_term n)) ≡ name_bit n
  first-named = ap (λ o. first_bit (filter_map net_bit (whole_bits n.text o ++ []))) name-declared.1 ∙ starts (width_of name-declared.0.range) (has-bit name-declared.0.range)
    where
      starts : (w : ℕ) → 0 < w → first_bit (filter_map net_bit (map (net n.text) (range_with_len 0 w) ++ [])) ≡ name_bit n
      starts zero h = absurd (omega (arith, h))
      starts (suc w) h = refl

  pub only-named : term_bits vs (name_term n) ≡ name_bit n ∷ []
  only-named = only-bit vs (name_term n) sound ∙ ap (λ b. b ∷ []) first-named

-- ---- so a terminal's copy is asked for

copy-of_event : (vs : List Variable) (p : Place) (e : Event) (n : Option Named) → operand_faults vs e.term ≡ [] → IsNamed vs n → In (copy_of vs e n) (map (λ c. c.1) (copies_of vs p e n))
copy-of_event vs p e None sound named = rw (only-bit vs e.term sound) (inl refl)
copy-of_event vs p e (Some n) sound named =
    let one : term_bits vs (name_term n) ≡ name_bit n ∷ [] = only-named vs n (none-left (operand_faults vs (name_term n)) [] named) in
    rw (only-bit vs e.term sound, one) (inl refl)

none-right : {A : Type 0} (xs ys : List A) → xs ++ ys ≡ [] → ys ≡ []
none-right [] ys e = e
none-right (x ∷ xs) ys e = cc

pub both-named : (vs : List Variable) (f g : Option Named) → AreNamed vs (listed f ++ listed g) → IsNamed vs f × IsNamed vs g
both-named vs None g h = (refl, h)
both-named vs (Some n) g h =
    let named = flat_map (λ n. operand_faults vs (name_term n)) (listed g) in
    (ap (λ fs. fs ++ []) (none-left (operand_faults vs (name_term n)) named h), none-right (operand_faults vs (name_term n)) named h)

-- those of reference and data, among the copies of the check
pub record AreAsked (vs : List Variable) (c : Check) (two : DelayedCopy × DelayedCopy) : Type 0 where
  pub refer : In two.0 (map (λ c. c.1) (copies vs (check c)))
  pub datum : In two.1 (map (λ c. c.1) (copies vs (check c)))

pub both-asked : (vs : List Variable) (c : Check) (two : DelayedCopy × DelayedCopy) → event_faults vs (reference_of c) ≡ [] → some_event_faults vs (data_of c) ≡ [] → AreNamed vs (delayed_names c)
    → check_copies vs c ≡ Some two → AreAsked vs c two
both-asked vs (one_limit_check p k r d l n) two refer datum named e = cc
both-asked vs (width_check p r l t n) two refer datum named e = cc
both-asked vs (period_check p r l n) two refer datum named e = cc
both-asked vs (two_limit_check p k r d l m n f g) two refer datum named e =
    let first : (copy_of vs r f, copy_of vs d g) ≡ two = cc in
    let split : AreNamed vs (listed f) × AreNamed vs (listed g) = both-named vs f g named in
    let one = copy-of_event vs p r f (none-left (operand_faults vs r.term) _ refer) split.0 in
    let other = copy-of_event vs p d g (none-left (operand_faults vs d.term) _ datum) split.1 in
    subst (AreAsked vs (two_limit_check p k r d l m n f g)) first
    (record {
      refer = subst (In (copy_of vs r f)) (sym (map-append (λ c. c.1) (copies_of vs p r f) (copies_of vs p d g))) (in-left _ (map (λ c. c.1) (copies_of vs p r f)) (map (λ c. c.1) (copies_of vs p d g)) one);
      datum = subst (In (copy_of vs d g)) (sym (map-append (λ c. c.1) (copies_of vs p r f) (copies_of vs p d g))) (in-right _ (map (λ c. c.1) (copies_of vs p r f)) (map (λ c. c.1) (copies_of vs p d g)) other);
    })

-- ---- and stands among those of the module, at the place that is found

in-mapped : {A B C : Type 0} (f : B → C) (g : A → List B) (y : A) (ys : List A) (z : C) → In y ys → In z (map f (g y)) → In z (map f (flat_map g ys))
in-mapped f g y [] z h k = absurd h
in-mapped f g y (x ∷ xs) z (inl e) k =
    subst (In z) (sym (map-append f (g x) (flat_map g xs))) (in-left z (map f (g x)) (map f (flat_map g xs)) (subst (λ w. In z (map f (g w))) e k))
in-mapped f g y (x ∷ xs) z (inr h) k =
    subst (In z) (sym (map-append f (g x) (flat_map g xs))) (in-right z (map f (g x)) (map f (flat_map g xs)) (in-mapped f g y xs z h k))

pub among-all : (m : Module) (c : Check) (x : DelayedCopy) → In (check c) (members m) → In x (map (λ c. c.1) (copies (variables m) (check c))) → In x (map (λ c. c.1) (module_copies m))
among-all m c x there h = in-module_copies m x (in-mapped (λ c. c.1) (λ i. copies (variables m) i) (check c) (members m) x there h)

abbrev place_from : DelayedCopy → ℕ → List (Place × DelayedCopy) → Option ℕ
place_from x k cs = position_from (λ d. is_same_copy x d.1) k cs

pub has-place : (x : DelayedCopy) (k : ℕ) (cs : List (Place × DelayedCopy)) → In x (map (λ c. c.1) cs) → (p : ℕ) × (place_from x k cs ≡ Some p)
has-place x k [] h = absurd h
has-place x k (c ∷ cs) h = by (is_same_copy x c.1) refl h (has-place x (k + 1) cs)
  where
    by : (b : Bool) → is_same_copy x c.1 ≡ b → In x (map (λ c. c.1) (c ∷ cs)) → (In x (map (λ c. c.1) cs) → (p : ℕ) × (place_from x (k + 1) cs ≡ Some p)) → (p : ℕ) × (place_from x k (c ∷ cs) ≡ Some p)
    by true t h next = (k, rw t refl)
    by false t (inl e) next = let s : is_same_copy x c.1 ≡ true = ap (is_same_copy x) (sym e) ∙ copy-same x in cc
    by false t (inr h) next = let r = next h in (r.0, rw t r.1)

record StandsFrom (x : DelayedCopy) (k : ℕ) (cs : List (Place × DelayedCopy)) (p : ℕ) : Type 0 where
  shift : ℕ
  is : p ≡ k + shift
  below : shift < length cs
  same : copy_at (map (λ c. c.1) cs) shift ≡ x

stands-from : (x : DelayedCopy) (k : ℕ) (cs : List (Place × DelayedCopy)) (p : ℕ) → place_from x k cs ≡ Some p → StandsFrom x k cs p
stands-from x k [] p e = cc
stands-from x k (c ∷ cs) p e = by (is_same_copy x c.1) refl (stands-from x (k + 1) cs p)
  where
    by : (b : Bool) → is_same_copy x c.1 ≡ b → (place_from x (k + 1) cs ≡ Some p → StandsFrom x (k + 1) cs p) → StandsFrom x k (c ∷ cs) p
    by true t next =
        let g : Some k ≡ Some p = rw t at e in
        let f : k ≡ p = cc in
        record { shift = 0; is = sym f ∙ (omega arith); below = omega arith; same = sym (copies-decide x c.1 t) }
    by false t next =
        let g : place_from x (k + 1) cs ≡ Some p = rw t at e in
        let r = next g in
        record { shift = suc r.shift; is = r.is ∙ (omega arith); below = (let b = r.below in omega arith); same = r.same }

pub record StandsAt (m : Module) (x : DelayedCopy) (p : ℕ) : Type 0 where
  pub within : p < length (module_copies m)
  pub same : copy_at (map (λ c. c.1) (module_copies m)) p ≡ x

pub stands-at : (m : Module) (x : DelayedCopy) (p : ℕ) → place_among m x ≡ Some p → StandsAt m x p
stands-at m x p e =
    let r = stands-from x 0 (module_copies m) p e in
    let s : r.shift ≡ p = sym (r.is ∙ (omega arith)) in
    record { within = subst (λ k. k < length (module_copies m)) s r.below; same = subst (λ k. copy_at (map (λ c. c.1) (module_copies m)) k ≡ x) s r.same }
