-- The checks of one module more stand ready.
use Rattle.std.specs.Prelude.{◌≡◌, ℕ, ℤ, zero, suc, ◌+◌, ◌<◌, ◌≤◌, All, List, [], ◌∷◌, ◌++◌, Bool, true, Option, Some, None, is_some, get_or, length, map, take, slice_get, slice_index_or, replicate}
use Rattle.std.specs.Global.{Vec}
use Rattle.std.proofs.Common.{sym, ◌∙◌, ap, arith, inl, inr, subst, set}
use Rattle.std.proofs.Math.ListN.{length-set}
use Rattle.std.proofs.lemmas.List.{length-replicate, take_more, take_all}
use Rattle.std.proofs.lemmas.List.Elements.{All-nil, All-push, All-weaker}
use Rattle.std.proofs.lemmas.Option.{slice_get-get_or, slice_get_within}
use Rattle.cond_expr.specs.Condition.{Condition}
use Rattle.sg_delay.specs.declared.corners.Corner.{Corner}
use Rattle.vl_tree.specs.Tree.{Module, Source, a_module}
use Rattle.elab_model.specs.Names.{variables}
use Rattle.elab_hierarchy.specs.declared.instances.Placed.{Placed}
use Rattle.elab_hierarchy.specs.Tops.{StandsAt}
use Rattle.elab_paths.proofs.Replaced.{set-there, set-either, set-keeps}
use Rattle.elab_paths.specs.Shelving.{ListGrows}
use Rattle.elab_paths.proofs.OnShelves.{grown-front, grown-longer}
use Rattle.elab_checks.specs.OfModules.{AreChecksOf, AreSoundChecks, AreReadySoFar, HasReady}
use Rattle.elab_checks.specs.Ready.{check_ready, copies_in, IsReadyCheck}
use Rattle.elab_checks.specs.declared.shelving.ReadyCheck.{ReadyCheck}
use Rattle.elab_checks.proofs.Shelved.{ready-stays}

abbrev pub Checks : Type 0
Checks = List (Option (Vec ReadyCheck))

-- ---- a table that grows

checks-stay : (corner : Corner) (tick : ℤ) (m : Module) (old new : List Condition) (list : List ReadyCheck) → ListGrows old new → AreChecksOf corner tick m old list → AreChecksOf corner tick m new list
checks-stay corner tick m old new list grows h = record {
  checks = λ more. ap (λ cs. map (check_ready cs (variables m) (copies_in m)) list) (grown-front old new more grows) ∙ h.checks (grows.0 ++ more);
  named = All-weaker (IsReadyCheck (variables m) (length old) (length (copies_in m))) (IsReadyCheck (variables m) (length new) (length (copies_in m)))
      (λ r k. ready-stays (variables m) (length old) (length new) (length (copies_in m)) r (grown-longer old new grows) k) list h.named;
}

sound-stays : (corner : Corner) (tick : ℤ) (m : Module) (old new : List Condition) (list : List ReadyCheck) → ListGrows old new → AreSoundChecks corner tick m old list → AreSoundChecks corner tick m new list
sound-stays corner tick m old new list grows h = record { are = checks-stay corner tick m old new list grows h.are; faultless = h.faultless }

-- ---- one module

pub some-there : (checks : Checks) (place : ℕ) (d : Option (Vec ReadyCheck)) (test : Bool) → place < length checks → test ≡ is_some (get_or checks place d) → test ≡ true → HasReady checks place
some-there checks place d test lt e h = by (get_or checks place d) (slice_get-get_or checks place d lt) (sym e ∙ h)
  where
    by : (o : Option (Vec ReadyCheck)) → slice_get checks place ≡ Some o → is_some o ≡ true → HasReady checks place
    by None f g = cc
    by (Some v) f g = (v, f)

pub place-within : (source : Source) (corner : Corner) (tick : ℤ) (checks : Checks) (conditions : List Condition) (place : ℕ) (m : Module) → StandsAt source place m
    → AreReadySoFar source corner tick checks conditions → place < length checks
place-within source corner tick checks conditions place m at h =
    let l : length checks ≡ length source = h.counted in
    let lt : place < length source = slice_get_within source place (a_module m) at in
    omega arith

same-list : (v w : Vec ReadyCheck) → Some v ≡ Some w → v ≡ w
same-list v w e = cc

pub ready-more : (source : Source) (corner : Corner) (tick : ℤ) (checks : Checks) (old new : List Condition) (place : ℕ) (list : Vec ReadyCheck) → ListGrows old new
    → ((m : Module) → StandsAt source place m → AreSoundChecks corner tick m new list.items) → AreReadySoFar source corner tick checks old
    → AreReadySoFar source corner tick (set checks place (Some list)) new
ready-more source corner tick checks old new place list grows own h = record {
  counted = length-set checks place (Some list) ∙ h.counted;
  each = λ i v m there at. elim (set-either checks place i (Some list) (Some v) there) [
    | inl x ↦ subst (λ w. AreSoundChecks corner tick m new w.items) (sym (same-list v list x.1)) (own m (subst (λ j. StandsAt source j m) x.0 at))
    | inr k ↦ sound-stays corner tick m old new v.items grows (h.each i v m k at)
  ];
}

pub put-there : (checks : Checks) (place : ℕ) (list : Vec ReadyCheck) → place < length checks → HasReady (set checks place (Some list)) place
put-there checks place list lt = (list, set-there checks place (Some list) lt)

pub put-stays : (checks : Checks) (place : ℕ) (list : Vec ReadyCheck) → place < length checks → (i : ℕ) → HasReady checks i → HasReady (set checks place (Some list)) i
put-stays checks place list lt i h =
    elim (set-keeps checks place i (Some list) (Some h.0) h.1) [
      | inl e ↦ subst (HasReady (set checks place (Some list))) (sym e) (put-there checks place list lt)
      | inr k ↦ (h.0, k)
    ]

-- ---- none

get-none : (n i : ℕ) (o : Option (Vec ReadyCheck)) → slice_get (replicate n None) i ≡ Some o → o ≡ None
get-none zero i o e = cc
get-none (suc n) zero o e = let s : None ≡ o = cc in sym s
get-none (suc n) (suc i) o e = get-none n i o e

pub ready-none : (source : Source) (corner : Corner) (tick : ℤ) (checks : Checks) (conditions : List Condition) → checks ≡ replicate (length source) None → AreReadySoFar source corner tick checks conditions
ready-none source corner tick checks conditions is = record {
  counted = ap length is ∙ length-replicate (length source) None;
  each = λ i v m there at. absurd (no-list v (get-none (length source) i (Some v) (subst (λ os. slice_get os i ≡ Some (Some v)) is there)));
}
  where
    no-list : (v : Vec ReadyCheck) → ¬ (Some v ≡ None)
    no-list v e = cc

-- ---- the modules of instances, one after the other

pub there-none : (checks : Checks) (ps : List Placed) → All (λ p. HasReady checks p.definition) (take 0 ps)
there-none checks ps = All-nil (λ p. HasReady checks p.definition)

pub there-next : (d x : Placed) (checks after : Checks) (ps : List Placed) (k : ℕ) → k < length ps → x ≡ slice_index_or ps k d → ((i : ℕ) → HasReady checks i → HasReady after i)
    → HasReady after x.definition → All (λ p. HasReady checks p.definition) (take k ps) → All (λ p. HasReady after p.definition) (take (k + 1) ps)
there-next d x checks after ps k lt is stays one h =
    let more : take k ps ++ x ∷ [] ≡ take (k + 1) ps = ap (λ z. take k ps ++ z ∷ []) is ∙ sym (take_more ps k d lt) in
    subst (All (λ p. HasReady after p.definition)) more
    (All-push (λ p. HasReady after p.definition) (take k ps) x
    (All-weaker (λ p. HasReady checks p.definition) (λ p. HasReady after p.definition) (λ p has. stays p.definition has) (take k ps) h) one)

pub there-all : (checks : Checks) (ps : List Placed) (k : ℕ) → length ps ≤ k → All (λ p. HasReady checks p.definition) (take k ps) → All (λ p. HasReady checks p.definition) ps
there-all checks ps k le h = subst (All (λ p. HasReady checks p.definition)) (take_all k ps le) h
