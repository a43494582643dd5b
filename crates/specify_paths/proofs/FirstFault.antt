-- In a loop over a list, the first of its elements that has a fault is refused, and where none has, the others are left.
use Rattle.std.specs.Prelude.{◌≡◌, ℕ, suc, ◌+◌, ◌<◌, List, [], ◌++◌, flat_map, length, map, slice_index_or}
use Rattle.std.proofs.Common.{sym, ◌∙◌, ap, arith, subst, drop, drop-cons}
use Rattle.sg_text.specs.declared.refusals.Refused.{Refused}
use Rattle.elab_model.specs.declared.kinds.ElabKind.{ElabKind}
use Rattle.elab_model.specs.Faults.{Fault, RefusesOneOf}
use Rattle.elab_declared.proofs.Refusals.{refused-left}
use Rattle.specify_values.proofs.InTurn.{left_from}

pub refused-at : {A B : Type 0} (view : A → B) (f : B → List Fault) (xs : List A) (i : ℕ) (d : A) (r : Refused ElabKind) → i < length xs → left_from view f xs i
    → RefusesOneOf (f (view (slice_index_or xs i d))) r → RefusesOneOf (flat_map f (map view xs)) r
refused-at view f xs i d r lt left h =
    subst (λ fs. RefusesOneOf fs r) (sym (ap (λ ys. flat_map f (map view ys)) (drop-cons xs i d lt)) ∙ left)
    (refused-left (f (view (slice_index_or xs i d))) (flat_map f (map view (drop (suc i) xs))) r h)

pub faultless-at : {A B : Type 0} (view : A → B) (f : B → List Fault) (xs : List A) (i : ℕ) (d : A) → i < length xs → f (view (slice_index_or xs i d)) ≡ [] → left_from view f xs i
    → left_from view f xs (i + 1)
faultless-at view f xs i d lt none left =
    let n : i + 1 ≡ suc i = omega arith in
    ap (λ k. flat_map f (map view (drop k xs))) n ∙ ap (λ fs. fs ++ flat_map f (map view (drop (suc i) xs))) (sym none)
    ∙ sym (ap (λ ys. flat_map f (map view ys)) (drop-cons xs i d lt)) ∙ left
