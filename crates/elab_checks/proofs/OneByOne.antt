-- The checks so far, and one more.
use Rattle.std.specs.Prelude.{◌≡◌, ℕ, zero, suc, ◌+◌, ◌-◌, ◌<◌, ◌≤◌, All, List, [], ◌∷◌, ◌++◌, Some, flat_map, length, map, slice_get, slice_index_or, take, refl}
use Rattle.std.proofs.Common.{sym, ◌∙◌, ap, arith, subst, append_assoc, length-append}
use Rattle.std.proofs.lemmas.List.{append-nil, length-map, map-append, take_all, take_more}
use Rattle.std.proofs.lemmas.List.Elements.{All-push}
use Rattle.cond_expr.specs.Condition.{Condition}
use Rattle.sg_circuit.specs.ChecksSeen.{written_seen, AreWritten}
use Rattle.sg_text.specs.declared.refusals.Refused.{Refused}
use Rattle.vl_tree.specs.Tree.{Source}
use Rattle.elab_model.specs.declared.kinds.ElabKind.{ElabKind}
use Rattle.elab_model.specs.Faults.{RefusesOneOf}
use Rattle.elab_model.specs.Hierarchy.{Instance}
use Rattle.elab_model.specs.Lates.{DelayedCopy}
use Rattle.elab_model.specs.Names.{Variable}
use Rattle.elab_model.specs.Nets.{OwnNet}
use Rattle.elab_model.specs.Terms.{NetBit}
use Rattle.circuit_model.specs.CheckUses as def
use Rattle.circuit_model.specs.Faults.{over}
use Rattle.circuit_model.specs.PathUses.{bit_number}
use Rattle.elab_numbering.specs.Refusals.{RefusesCount}
use Rattle.elab_paths.specs.Adding.{IsHere}
use Rattle.elab_paths.specs.Uses.{IsRow}
use Rattle.elab_paths.proofs.InstanceUses.{flat-more, flat-within}
use Rattle.elab_paths.proofs.UsesSoFar.{row-is}
use Rattle.elab_checks.specs.Ready.{check_ready}
use Rattle.elab_checks.specs.Uses.{AddsCheck, AreLates, AreUses}
use Rattle.elab_checks.specs.declared.shelving.ReadyCheck.{ReadyCheck}
use Rattle.elab_checks.specs.declared.uses.CheckTables.{CheckTables}
use Rattle.elab_checks.proofs.Counts.{count-refused}

mapped-last : {A B : Type 0} (f : A → B) (us : List A) (u : A) (old new : List B) (x : B) → new ≡ old ++ x ∷ [] → old ≡ map f us → x ≡ f u → new ≡ map f (us ++ u ∷ [])
mapped-last f us u old new x e h k = e ∙ ap (λ xs. xs ++ x ∷ []) h ∙ ap (λ y. map f us ++ y ∷ []) k ∙ sym (map-append f us (u ∷ []))

-- ---- one more

one-more : (conditions : List Condition) (vs : List Variable) (row lates : List ℕ) (net : NetBit → ℕ) (late : DelayedCopy → ℕ) (ds : List DelayedCopy) (scope : ℕ) (c : ReadyCheck) (old new : CheckTables) (us : List def.CheckUse) → IsRow vs row net
    → AreLates ds lates late → AreUses conditions old us → AddsCheck conditions vs row lates scope c old new → AreUses conditions new (us ++ def.check_use scope net late (check_ready conditions vs ds c) ∷ [])
one-more conditions vs row lates net late ds scope c old new us r l h k =
    let u = def.check_use scope net late (check_ready conditions vs ds c) in
    record {
      checks = mapped-last def.check_of_use us u old.checks.items new.checks.items k.check k.checks_are h.checks (k.check_is net late ds r);
      timings = mapped-last def.timing_of_use us u old.timings.items new.timings.items k.timing k.timings_are h.timings (k.timing_is net late ds r l);
      spelled = ap (map (written_seen conditions)) k.spelled_are ∙ map-append (written_seen conditions) old.conditions.items (k.spelled ∷ [])
          ∙ ap (λ xs. xs ++ written_seen conditions k.spelled ∷ []) h.spelled ∙ ap (λ x. map def.written_of_use us ++ x ∷ []) (k.spelled_is net late ds) ∙ sym (map-append def.written_of_use us (u ∷ []));
      written = subst (All (AreWritten (length conditions))) (sym k.spelled_are) (All-push (AreWritten (length conditions)) old.conditions.items k.spelled h.written k.below);
    }

-- ---- the checks of an instance

abbrev pub uses_in : List OwnNet → Source → Instance → ℕ → List Condition → List Variable → (DelayedCopy → ℕ) → List DelayedCopy → List ReadyCheck → List def.CheckUse
uses_in all source s scope conditions vs late ds cs = map (λ c. def.check_use scope (bit_number all source s) late (check_ready conditions vs ds c)) cs

pub record AreAdded (conditions : List Condition) (vs : List Variable) (row lates : List ℕ) (scope : ℕ) (cs : List ReadyCheck) (old new : CheckTables) : Type 0 where
  pub made : (all : List OwnNet) (source : Source) (s : Instance) (late : DelayedCopy → ℕ) (ds : List DelayedCopy) (us : List def.CheckUse) → IsHere all source s scope vs row → AreLates ds lates late
      → AreUses conditions old us → AreUses conditions new (us ++ uses_in all source s scope conditions vs late ds cs)
  pub count : length new.checks.items ≡ length old.checks.items + length cs

pub added-none : (conditions : List Condition) (vs : List Variable) (row lates : List ℕ) (scope : ℕ) (old : CheckTables) → AreAdded conditions vs row lates scope [] old old
added-none conditions vs row lates scope old = record { made = λ all source s late ds us here l h. subst (AreUses conditions old) (sym (append-nil us)) h; count = omega arith }

pub added-more : (conditions : List Condition) (vs : List Variable) (row lates : List ℕ) (scope : ℕ) (cs : List ReadyCheck) (i : ℕ) (d : ReadyCheck) (start old new : CheckTables) → i < length cs
    → AreAdded conditions vs row lates scope (take i cs) start old → AddsCheck conditions vs row lates scope (slice_index_or cs i d) old new → AreAdded conditions vs row lates scope (take (i + 1) cs) start new
added-more conditions vs row lates scope cs i d start old new lt h k = subst (λ xs. AreAdded conditions vs row lates scope xs start new) (sym (take_more cs i d lt)) more
  where
    c : ReadyCheck
    c = slice_index_or cs i d

    front : List ReadyCheck
    front = take i cs

    more : AreAdded conditions vs row lates scope (front ++ c ∷ []) start new
    more = record {
      made = λ all source s late ds us here l u.
          let before = h.made all source s late ds us here l u in
          subst (AreUses conditions new)
          (append_assoc us (uses_in all source s scope conditions vs late ds front) (def.check_use scope (bit_number all source s) late (check_ready conditions vs ds c) ∷ [])
          ∙ ap (λ xs. us ++ xs) (sym (map-append (λ c. def.check_use scope (bit_number all source s) late (check_ready conditions vs ds c)) front (c ∷ []))))
          (one-more conditions vs row lates (bit_number all source s) late ds scope c old new (us ++ uses_in all source s scope conditions vs late ds front) (row-is all source s vs row here.numbers) l before k);
      count = (let a = ap length k.checks_are ∙ length-append old.checks.items (k.check ∷ []) in let b = h.count in let e = length-append front (c ∷ []) in omega (arith, a, b, e));
    }

pub added-all : (conditions : List Condition) (vs : List Variable) (row lates : List ℕ) (scope : ℕ) (cs : List ReadyCheck) (i : ℕ) (old new : CheckTables) → length cs ≤ i → AreAdded conditions vs row lates scope (take i cs) old new
    → AreAdded conditions vs row lates scope cs old new
added-all conditions vs row lates scope cs i old new le h = subst (λ xs. AreAdded conditions vs row lates scope xs old new) (take_all i cs le) h

length-taken : {A : Type 0} (n : ℕ) (xs : List A) → n ≤ length xs → length (take n xs) ≡ n
length-taken zero xs le = refl
length-taken (suc n) [] le = absurd (omega (arith, le))
length-taken (suc n) (x ∷ xs) le = ap suc (length-taken n xs (omega (arith, le)))

-- a count, with as many more as come to a total
counted : (n total : ℕ) (r : Refused ElabKind) → n ≤ total → ((more : ℕ) → RefusesCount (n + more) r) → RefusesCount total r
counted n total r le h = let e : n + (total - n) ≡ total = omega (arith, le) in subst (λ k. RefusesCount k r) e (h (total - n))

-- what one refuses, all refuse
pub added-refused : (conditions : List Condition) (vs : List Variable) (row lates : List ℕ) (scope : ℕ) (cs : List ReadyCheck) (i : ℕ) (start old : CheckTables) (r : Refused ElabKind) → i < length cs
    → AreAdded conditions vs row lates scope (take i cs) start old → ((more : ℕ) → RefusesCount (length old.checks.items + 1 + more) r)
    → (total : ℕ) → length start.checks.items + length cs ≤ total → RefusesCount total r
added-refused conditions vs row lates scope cs i start old r lt h k total le =
    let long : length (take i cs) ≡ i = length-taken i cs (omega (arith, lt)) in
    let n = h.count in
    counted (length old.checks.items + 1) total r (omega (arith, lt, le, long, n)) k

-- ---- the instances

module _ (f : Instance → List def.CheckUse) (ss : List Instance) where
  pub uses-next : (conditions : List Condition) (i : ℕ) (s : Instance) (new : CheckTables) → slice_get ss i ≡ Some s → AreUses conditions new (flat_map f (take i ss) ++ f s)
      → AreUses conditions new (flat_map f (take (i + 1) ss))
  uses-next conditions i s new at h = subst (AreUses conditions new) (sym (flat-more f ss i s at)) h

  pub uses-all : (conditions : List Condition) (i : ℕ) (new : CheckTables) → length ss ≤ i → AreUses conditions new (flat_map f (take i ss)) → AreUses conditions new (flat_map f ss)
  uses-all conditions i new le h = subst (λ xs. AreUses conditions new (flat_map f xs)) (take_all i ss le) h

  pub uses-refused : (conditions : List Condition) (i : ℕ) (s : Instance) (old : CheckTables) (r : Refused ElabKind) → slice_get ss i ≡ Some s → AreUses conditions old (flat_map f (take i ss))
      → ((total : ℕ) → length old.checks.items + length (f s) ≤ total → RefusesCount total r) → RefusesOneOf (over (length (flat_map f ss))) r
  uses-refused conditions i s old r at h k =
      let front = flat_map f (take i ss) in
      let long : length old.checks.items ≡ length front = ap length h.checks ∙ length-map front def.check_of_use in
      let more : length (flat_map f (take (i + 1) ss)) ≡ length front + length (f s) = ap length (flat-more f ss i s at) ∙ length-append front (f s) in
      let within = flat-within f ss (i + 1) in
      count-refused (length (flat_map f ss)) (length (flat_map f ss)) r (k (length (flat_map f ss)) (omega (arith, long, more, within))) (omega arith)
