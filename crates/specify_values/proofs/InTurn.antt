-- Faults that are looked for one after another.
use Rattle.std.specs.Prelude.{◌≡◌, ℕ, suc, ◌+◌, ◌<◌, ◌≤◌, List, [], ◌∷◌, ◌++◌, Bool, true, false, Result, Ok, Err, flat_map, length, map, slice_index_or, refl}
use Rattle.std.proofs.Common.{sym, ◌∙◌, ap, arith, subst, drop, drop-cons}
use Rattle.std.proofs.lemmas.List.{drop_all}
use Rattle.sg_text.specs.declared.places.Place.{Place}
use Rattle.sg_text.specs.declared.refusals.Refused.{Refused}
use Rattle.sg_text.specs.declared.refusals.Refused.TheVariants as refused
use Rattle.elab_model.specs.declared.kinds.ElabKind.{ElabKind}
use Rattle.elab_model.specs.Faults.{Fault, fault_if, RefusesOneOf}
use Rattle.elab_declared.proofs.Refusals.{refused-left, refused-right}
use Rattle.specify_values.specs.Telling.{Tells}

-- what an exit returns
pub exit : {A : Type 0} (result : Result A (Refused ElabKind)) (fs : List Fault) (e : Refused ElabKind) → ((x : Refused ElabKind) × (result ≡ Err x) × (x ≡ e)) → RefusesOneOf fs e → Tells fs result
exit result fs e (x, r, s) h = rw r (subst (RefusesOneOf fs) (sym s) h)

-- of two parts, the first has no fault
pub tells-second : {A : Type 0} (fs gs : List Fault) (r : Result A (Refused ElabKind)) → fs ≡ [] → Tells gs r → Tells (fs ++ gs) r
tells-second fs gs (Ok x) e h = ap (λ hs. hs ++ gs) e ∙ h
tells-second fs gs (Err r) e h = refused-right fs gs r h

-- one fault where a test holds
pub fault-told : (test : Bool) (k : ElabKind) (p : Place) → test ≡ true → RefusesOneOf (fault_if test k p) (refused.Fault k p)
fault-told test k p e = subst (λ b. RefusesOneOf (fault_if b k p) (refused.Fault k p)) (sym e) (0, (omega arith, refl))

-- none where it doesn't, and the other way round
pub none-if : (test : Bool) (k : ElabKind) (p : Place) → test ≡ false → fault_if test k p ≡ []
none-if test k p e = ap (λ b. fault_if b k p) e

pub if-none : (test : Bool) (k : ElabKind) (p : Place) → fault_if test k p ≡ [] → test ≡ false
if-none true k p e = cc
if-none false k p e = refl

-- ---- in a loop over a list that is seen by view: the faults of those that are left are those of all

module _ {A B : Type 0} (view : A → B) (f : B → List Fault) (xs : List A) where
  abbrev pub left_from : ℕ → Type 0
  left_from i = flat_map f (map view (drop i xs)) ≡ flat_map f (map view xs)

  next-of : (i : ℕ) (x : A) → i < length xs → x ≡ slice_index_or xs i x → flat_map f (map view (drop i xs)) ≡ f (view x) ++ flat_map f (map view (drop (i + 1) xs))
  next-of i x lt e =
      let n : suc i ≡ i + 1 = omega arith in
      ap (λ ys. flat_map f (map view ys)) (drop-cons xs i x lt ∙ ap (λ y. y ∷ drop (suc i) xs) (sym e)) ∙ ap (λ k. f (view x) ++ flat_map f (map view (drop k xs))) n

  pub next-faultless : (i : ℕ) (x : A) → i < length xs → x ≡ slice_index_or xs i x → f (view x) ≡ [] → left_from i → left_from (i + 1)
  next-faultless i x lt at e left = ap (λ fs. fs ++ flat_map f (map view (drop (i + 1) xs))) (sym e) ∙ sym (next-of i x lt at) ∙ left

  pub this-refused : (i : ℕ) (x : A) (r : Refused ElabKind) → i < length xs → x ≡ slice_index_or xs i x → left_from i → RefusesOneOf (f (view x)) r → RefusesOneOf (flat_map f (map view xs)) r
  this-refused i x r lt at left h = subst (λ fs. RefusesOneOf fs r) (sym (next-of i x lt at) ∙ left) (refused-left (f (view x)) (flat_map f (map view (drop (i + 1) xs))) r h)

  pub none-left : (i : ℕ) → length xs ≤ i → left_from i → flat_map f (map view xs) ≡ []
  none-left i le left = sym left ∙ ap (λ ys. flat_map f (map view ys)) (drop_all i xs le)
