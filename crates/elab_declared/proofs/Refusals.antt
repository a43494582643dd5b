-- One of several faults is refused.
use Rattle.std.specs.Prelude.{◌≡◌, ◌+◌, List, [], ◌∷◌, ◌++◌, Bool, true, false, Some, None, Result, Err, IfErr, map, flat_map, find, length, refl, if◌then◌else◌}
use Rattle.std.specs.List.{IsAmong, AllByRecursion}
use Rattle.std.proofs.Common.{sym, ◌∙◌, ap, arith, subst, length-append}
use Rattle.std.proofs.lemmas.List.{get_or_append_left, get_or-append-add}
use Rattle.sg_text.specs.declared.places.Place.{Place}
use Rattle.sg_text.specs.declared.refusals.Refused.{Refused}
use Rattle.sg_text.specs.declared.refusals.Refused.TheVariants as refused
use Rattle.vl_tree.specs.Tree.{Named}
use Rattle.elab_model.specs.declared.kinds.ElabKind.{ElabKind}
use Rattle.elab_model.specs.declared.kinds.ElabKind.TheVariants.{DuplicateName}
use Rattle.elab_model.specs.Faults.{Fault, fault, fault_if, places_again, duplicates, missing, all_of, RefusesOneOf}
use Rattle.elab_declared.specs.Words.{first_of}

among-left : {A : Type 0} (xs ys : List A) (v : A) → IsAmong xs v → IsAmong (xs ++ ys) v
among-left xs ys v (i, (lt, e)) =
    let l : length (xs ++ ys) ≡ length xs + length ys = length-append xs ys in
    (i, (omega arith, e ∙ sym (get_or_append_left xs ys v i lt)))

among-right : {A : Type 0} (xs ys : List A) (v : A) → IsAmong ys v → IsAmong (xs ++ ys) v
among-right xs ys v (i, (lt, e)) =
    let l : length (xs ++ ys) ≡ length xs + length ys = length-append xs ys in
    (length xs + i, (omega arith, e ∙ sym (get_or-append-add xs ys i v)))

pub refused-left : (xs ys : List Fault) (r : Refused ElabKind) → RefusesOneOf xs r → RefusesOneOf (xs ++ ys) r
refused-left xs ys (refused.Fault k p) h = among-left xs ys (fault k p) h
refused-left xs ys refused.NoMemory h = tt

pub refused-right : (xs ys : List Fault) (r : Refused ElabKind) → RefusesOneOf ys r → RefusesOneOf (xs ++ ys) r
refused-right xs ys (refused.Fault k p) h = among-right xs ys (fault k p) h
refused-right xs ys refused.NoMemory h = tt

-- ---- names that stand twice

pub none-again : (ns : List Named) → None ≡ first_of (places_again [] ns) → duplicates ns ≡ []
none-again ns h = by (places_again [] ns) h
  where
    by : (ps : List Place) → None ≡ first_of ps → map (fault DuplicateName) ps ≡ []
    by [] h = refl
    by (p ∷ ps) h = cc

pub some-again : (ns : List Named) (p : Place) → Some p ≡ first_of (places_again [] ns) → IsAmong (duplicates ns) (fault DuplicateName p)
some-again ns p h = by (places_again [] ns) h
  where
    by : (ps : List Place) → Some p ≡ first_of ps → IsAmong (map (fault DuplicateName) ps) (fault DuplicateName p)
    by [] h = cc
    by (q ∷ ps) h = let e : p ≡ q = cc in (0, (omega arith, ap (fault DuplicateName) e))

-- ---- what a test finds

pub none-found : {A : Type 0} (k : ElabKind) (place : A → Place) (test : A → Bool) (xs : List A) → find test xs ≡ None → flat_map (λ x. fault_if (test x) k (place x)) xs ≡ []
none-found k place test [] h = refl
none-found k place test (x ∷ xs) h = by (test x) h (none-found k place test xs)
  where
    by : (b : Bool) → (if b then Some x else find test xs) ≡ None → (find test xs ≡ None → flat_map (λ x. fault_if (test x) k (place x)) xs ≡ []) → fault_if b k (place x) ++ flat_map (λ x. fault_if (test x) k (place x)) xs ≡ []
    by false h rest = rest h
    by true h rest = cc

pub some-found : {A : Type 0} (k : ElabKind) (place : A → Place) (test : A → Bool) (xs : List A) (y : A) → find test xs ≡ Some y → IsAmong (flat_map (λ x. fault_if (test x) k (place x)) xs) (fault k (place y))
some-found k place test [] y h = cc
some-found k place test (x ∷ xs) y h = by (test x) h (some-found k place test xs y)
  where
    by : (b : Bool) → (if b then Some x else find test xs) ≡ Some y → (find test xs ≡ Some y → IsAmong (flat_map (λ x. fault_if (test x) k (place x)) xs) (fault k (place y)))
        → IsAmong (fault_if b k (place x) ++ flat_map (λ x. fault_if (test x) k (place x)) xs) (fault k (place y))
    by false h rest = rest h
    by true h rest = let e : x ≡ y = cc in (0, (omega arith, ap (λ z. fault k (place z)) (sym e)))

-- ---- the exit of a check, of several one after another

pub exit : {A : Type 0} (result : Result A (Refused ElabKind)) (whole : List Fault) (e : Refused ElabKind) → ((x : Refused ElabKind) × (result ≡ Err x) × (x ≡ e)) → RefusesOneOf whole e → IfErr result (RefusesOneOf whole)
exit result whole e (x, r, s) h = rw r (subst (RefusesOneOf whole) (sym s) h)

pub one-of : (before : List (List Fault)) (fs : List Fault) (after : List (List Fault)) (r : Refused ElabKind) → RefusesOneOf fs r → RefusesOneOf (all_of (before ++ fs ∷ after)) r
one-of [] fs after r h = refused-left fs (all_of after) r h
one-of (gs ∷ before) fs after r h = refused-right gs (all_of (before ++ fs ∷ after)) r (one-of before fs after r h)

pub none-of : (fss : List (List Fault)) → AllByRecursion (λ fs. fs ≡ []) fss → all_of fss ≡ []
none-of [] h = refl
none-of (fs ∷ fss) h = ap (λ xs. xs ++ all_of fss) h.0 ∙ none-of fss h.1

-- names that are those of the definition
pub once-of : (ns ms : List Named) (r : Refused ElabKind) → ns ≡ ms → RefusesOneOf (duplicates ns) r → RefusesOneOf (duplicates ms) r
once-of ns ms r e h = subst (λ xs. RefusesOneOf (duplicates xs) r) e h

pub missing-of : (k : ElabKind) (ns ms os ps : List Named) (r : Refused ElabKind) → ns ≡ ms → os ≡ ps → RefusesOneOf (missing k ns os) r → RefusesOneOf (missing k ms ps) r
missing-of k ns ms os ps r e f h = subst (λ xs. RefusesOneOf (missing k ms xs) r) f (subst (λ xs. RefusesOneOf (missing k xs os) r) e h)
