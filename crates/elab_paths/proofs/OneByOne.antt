-- Outputs and instances that are taken one after another.
use Rattle.std.specs.Prelude.{◌≡◌, ℕ, ◌+◌, ◌<◌, ◌≤◌, All, List, [], ◌∷◌, ◌++◌, Some, flat_map, length, map, slice_get, slice_index_or, take, drop}
use Rattle.std.proofs.Common.{sym, ◌∙◌, ap, arith, subst, append_assoc, length-append}
use Rattle.std.proofs.lemmas.Grind.{flat_map-append}
use Rattle.std.proofs.lemmas.List.{append-nil, get_or_append_left, get_or-append-add, map-append, take-append-drop, take_all, take_more}
use Rattle.std.proofs.lemmas.Option.{slice_get-get_or}
use Rattle.cond_expr.specs.Condition.{Condition}
use Rattle.sg_circuit.specs.declared.elements.LegTiming.{LegTiming}
use Rattle.sg_text.specs.declared.refusals.Refused.{Refused}
use Rattle.vl_tree.specs.Tree.{Source}
use Rattle.elab_model.specs.declared.kinds.ElabKind.{ElabKind}
use Rattle.elab_model.specs.Hierarchy.{Instance}
use Rattle.elab_model.specs.Names.{Variable}
use Rattle.elab_model.specs.Nets.{OwnNet}
use Rattle.circuit_model.specs.PathUses as def
use Rattle.elab_model.specs.Terms.{NetBit}
use Rattle.elab_laws.specs.Handing.{all_bits}
use Rattle.elab_numbering.specs.Refusals.{RefusesCount}
use Rattle.elab_elements.specs.Numbers.{HasNumbers}
use Rattle.elab_paths.specs.Ready.{output_ready, IsReadyOutput}
use Rattle.elab_paths.specs.Uses.{IsRow, AddsUse, AreUses}
use Rattle.elab_paths.specs.declared.shelving.ReadyOutput.{ReadyOutput}
use Rattle.elab_paths.specs.declared.uses.PathUses.{PathUses}
use Rattle.elab_paths.proofs.AddedPaths.{added-count}
use Rattle.elab_paths.proofs.InstanceUses.{flat-more, flat-within}
use Rattle.elab_paths.proofs.UsesSoFar.{one-more}

-- ---- the outputs of an instance

abbrev pub uses_in : List OwnNet → Source → Instance → List LegTiming → List Condition → List Variable → List ReadyOutput → List def.PathUse
uses_in all source s timings conditions vs os = map (λ o. def.path_use all source s (output_ready timings conditions vs o)) os

pub record AreAdded (conditions : List Condition) (vs : List Variable) (row : List ℕ) (os : List ReadyOutput) (old new : PathUses) : Type 0 where
  pub made : (all : List OwnNet) (source : Source) (s : Instance) (timings : List LegTiming) (us : List def.PathUse) → HasNumbers all source s vs row
      → All (IsReadyOutput (length (all_bits vs)) (length timings) (length conditions)) os → AreUses conditions timings old us → AreUses conditions timings new (us ++ uses_in all source s timings conditions vs os)
  pub paths : length new.paths.items ≡ length old.paths.items + length (flat_map (λ o. o.paths.items) os)

pub added-none : (conditions : List Condition) (vs : List Variable) (row : List ℕ) (old : PathUses) → AreAdded conditions vs row [] old old
added-none conditions vs row old =
    record {
      made = λ all source s timings us here ready h. subst (AreUses conditions timings old) (sym (append-nil us)) h;
      paths = omega arith;
    }

all-front : {A : Type 0} (P : A → Type 0) (xs ys : List A) → All P (xs ++ ys) → All P xs
all-front P xs ys h = λ k d lt. subst P (get_or_append_left xs ys d k lt) (h k d (let l = length-append xs ys in omega (arith, l, lt)))

pub added-more : (conditions : List Condition) (vs : List Variable) (row : List ℕ) (net : NetBit → ℕ) (os : List ReadyOutput) (i : ℕ) (d : ReadyOutput) (start old new : PathUses) → IsRow vs row net → i < length os
    → AreAdded conditions vs row (take i os) start old → AddsUse conditions vs row (slice_index_or os i d) old new → AreAdded conditions vs row (take (i + 1) os) start new
added-more conditions vs row net os i d start old new r lt h k = subst (λ xs. AreAdded conditions vs row xs start new) (sym (take_more os i d lt)) more
  where
    o : ReadyOutput
    o = slice_index_or os i d

    front : List ReadyOutput
    front = take i os

    paths-of : List ReadyOutput → ℕ
    paths-of xs = length (flat_map (λ o. o.paths.items) xs)

    more : AreAdded conditions vs row (front ++ o ∷ []) start new
    more = record {
      made = λ all source s timings us here ready u.
          let before = h.made all source s timings us here (all-front (IsReadyOutput (length (all_bits vs)) (length timings) (length conditions)) front (o ∷ []) ready) u in
          let own = all-last (IsReadyOutput (length (all_bits vs)) (length timings) (length conditions)) front o ready in
          subst (AreUses conditions timings new)
          (append_assoc us (uses_in all source s timings conditions vs front) (def.path_use all source s (output_ready timings conditions vs o) ∷ [])
          ∙ ap (λ xs. us ++ xs) (sym (map-append (λ o. def.path_use all source s (output_ready timings conditions vs o)) front (o ∷ []))))
          (one-more conditions timings all source s vs row o old new (us ++ uses_in all source s timings conditions vs front) here own before k);
      paths =
          let a = added-count conditions vs row net o.paths.items old.paths.items new.paths.items r k.paths in
          let b = h.paths in
          let c : paths-of (front ++ o ∷ []) ≡ paths-of front + length o.paths.items =
          ap length (flat_map-append (λ o. o.paths.items) front (o ∷ [])) ∙ length-append (flat_map (λ o. o.paths.items) front) (o.paths.items ++ []) ∙ ap (λ ps. paths-of front + length ps) (append-nil o.paths.items) in
          omega (arith, a, b, c);
    }
      where
        all-last : {A : Type 0} (P : A → Type 0) (xs : List A) (x : A) → All P (xs ++ x ∷ []) → P x
        all-last P xs x a = subst P (get_or-append-add xs (x ∷ []) 0 x) (a (length xs + 0) x (let l = length-append xs (x ∷ []) in omega (arith, l)))

pub added-all : (conditions : List Condition) (vs : List Variable) (row : List ℕ) (os : List ReadyOutput) (i : ℕ) (old new : PathUses) → length os ≤ i → AreAdded conditions vs row (take i os) old new
    → AreAdded conditions vs row os old new
added-all conditions vs row os i old new le h = subst (λ xs. AreAdded conditions vs row xs old new) (take_all i os le) h

-- what one refuses, all refuse
pub added-refused : (conditions : List Condition) (vs : List Variable) (row : List ℕ) (os : List ReadyOutput) (i : ℕ) (d : ReadyOutput) (start old : PathUses) (r : Refused ElabKind) → i < length os
    → AreAdded conditions vs row (take i os) start old → ((total : ℕ) → length old.paths.items + length (slice_index_or os i d).paths.items ≤ total → RefusesCount total r)
    → (total : ℕ) → length start.paths.items + length (flat_map (λ o. o.paths.items) os) ≤ total → RefusesCount total r
added-refused conditions vs row os i d start old r lt h k total le =
    let o = slice_index_or os i d in
    let at : slice_get os i ≡ Some o = slice_get-get_or os i d lt in
    let more = ap length (flat-more (λ o. o.paths.items) os i o at) ∙ length-append (flat_map (λ o. o.paths.items) (take i os)) o.paths.items in
    let within = flat-within (λ o. o.paths.items) os (i + 1) in
    let q = h.paths in
    k total (omega (arith, le, q, more, within))

-- ---- the instances

module _ (f : Instance → List def.PathUse) (ss : List Instance) where
  pub uses-next : (conditions : List Condition) (timings : List LegTiming) (i : ℕ) (s : Instance) (new : PathUses) → slice_get ss i ≡ Some s
      → AreUses conditions timings new (flat_map f (take i ss) ++ f s) → AreUses conditions timings new (flat_map f (take (i + 1) ss))
  uses-next conditions timings i s new at h = subst (AreUses conditions timings new) (sym (flat-more f ss i s at)) h

  pub uses-all : (conditions : List Condition) (timings : List LegTiming) (i : ℕ) (new : PathUses) → length ss ≤ i → AreUses conditions timings new (flat_map f (take i ss)) → AreUses conditions timings new (flat_map f ss)
  uses-all conditions timings i new le h = subst (λ xs. AreUses conditions timings new (flat_map f xs)) (take_all i ss le) h

  pub uses-refused : (conditions : List Condition) (timings : List LegTiming) (i : ℕ) (s : Instance) (old : PathUses) (r : Refused ElabKind) → slice_get ss i ≡ Some s
      → AreUses conditions timings old (flat_map f (take i ss)) → ((total : ℕ) → length old.paths.items + length (flat_map (λ u. u.paths) (f s)) ≤ total → RefusesCount total r)
      → RefusesCount (length (flat_map (λ u. u.paths) (flat_map f ss))) r
  uses-refused conditions timings i s old r at h k =
      let front = flat_map f (take i ss) in
      let P = λ (us : List def.PathUse). length (flat_map (λ u. u.paths) us) in
      let paths : P (flat_map f (take (i + 1) ss)) ≡ P front + P (f s) =
      ap P (flat-more f ss i s at) ∙ ap length (flat_map-append (λ u. u.paths) front (f s)) ∙ length-append (flat_map (λ u. u.paths) front) (flat_map (λ u. u.paths) (f s)) in
      let whole : P (flat_map f ss) ≡ P (flat_map f (take (i + 1) ss)) + P (flat_map f (drop (i + 1) ss)) =
      ap (λ xs. P (flat_map f xs)) (sym (take-append-drop (i + 1) ss)) ∙ ap P (flat_map-append f (take (i + 1) ss) (drop (i + 1) ss))
      ∙ ap length (flat_map-append (λ u. u.paths) (flat_map f (take (i + 1) ss)) (flat_map f (drop (i + 1) ss)))
      ∙ length-append (flat_map (λ u. u.paths) (flat_map f (take (i + 1) ss))) (flat_map (λ u. u.paths) (flat_map f (drop (i + 1) ss))) in
      let q = h.count in
      k (P (flat_map f ss)) (omega (arith, q, paths, whole))
