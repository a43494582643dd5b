-- The paths of one module more stand ready.
use Rattle.std.specs.Prelude.{◌≡◌, ℕ, zero, suc, ◌+◌, ◌<◌, ◌≤◌, All, List, [], ◌∷◌, ◌++◌, Bool, true, Option, Some, None, is_some, get_or, length, map, take, slice_get, slice_index_or, replicate, ℤ}
use Rattle.std.specs.Global.{Vec}
use Rattle.std.proofs.Common.{sym, ◌∙◌, ap, arith, inl, inr, subst, set}
use Rattle.std.proofs.Math.ListN.{length-set}
use Rattle.std.proofs.lemmas.List.{append-nil, length-replicate, take_more, take_all}
use Rattle.std.proofs.lemmas.List.Elements.{All-nil, All-push, All-weaker}
use Rattle.std.proofs.lemmas.Option.{slice_get-get_or, slice_get_within}
use Rattle.sg_delay.specs.declared.corners.Corner.{Corner}
use Rattle.vl_tree.specs.Tree.{Module, Source, a_module}
use Rattle.elab_model.specs.Names.{variables}
use Rattle.elab_laws.specs.Handing.{all_bits}
use Rattle.elab_hierarchy.specs.declared.instances.Placed.{Placed}
use Rattle.elab_hierarchy.specs.Tops.{StandsAt}
use Rattle.elab_elements.proofs.Replaced.{set-there, set-either, set-keeps}
use Rattle.elab_paths.specs.Ready.{output_ready, IsReadyOutput}
use Rattle.elab_paths.specs.Shelving.{IsLonger, ListGrows}
use Rattle.elab_paths.specs.OfModules.{AreOutputsOf, AreSoundOutputs, AreReadySoFar, HasOutputs}
use Rattle.elab_paths.specs.declared.shelving.ReadyOutput.{ReadyOutput}
use Rattle.elab_paths.specs.declared.shelving.Shelves.{Shelves}
use Rattle.elab_paths.proofs.OnShelves.{grown-front, grown-longer, ready-stays}

abbrev pub Outputs : Type 0
Outputs = List (Option (Vec ReadyOutput))

-- ---- shelves that grow

pub longer-none : (shelves : Shelves) → IsLonger shelves shelves
longer-none shelves = record { timings = []; timings_are = sym (append-nil shelves.timings.items); conditions = []; conditions_are = sym (append-nil shelves.conditions.items) }

pub longer-then : (a b c : Shelves) → IsLonger a b → IsLonger b c → IsLonger a c
longer-then a b c h k = record {
  timings = h.timings ++ k.timings;
  timings_are = k.timings_are ∙ grown-front a.timings.items b.timings.items k.timings (h.timings, h.timings_are);
  conditions = h.conditions ++ k.conditions;
  conditions_are = k.conditions_are ∙ grown-front a.conditions.items b.conditions.items k.conditions (h.conditions, h.conditions_are);
}

outputs-stay : (corner : Corner) (tick : ℤ) (m : Module) (old new : Shelves) (list : List ReadyOutput) → IsLonger old new → AreOutputsOf corner tick m old list → AreOutputsOf corner tick m new list
outputs-stay corner tick m old new list longer h =
    let bits = length (all_bits (variables m)) in
    let ts : ListGrows old.timings.items new.timings.items = (longer.timings, longer.timings_are) in
    let cs : ListGrows old.conditions.items new.conditions.items = (longer.conditions, longer.conditions_are) in
    record {
      outputs = λ timings conditions.
          ap (λ t. map (output_ready t (new.conditions.items ++ conditions) (variables m)) list) (grown-front old.timings.items new.timings.items timings ts)
          ∙ ap (λ c. map (output_ready (old.timings.items ++ (longer.timings ++ timings)) c (variables m)) list) (grown-front old.conditions.items new.conditions.items conditions cs)
          ∙ h.outputs (longer.timings ++ timings) (longer.conditions ++ conditions);
      named = All-weaker (IsReadyOutput bits (length old.timings.items) (length old.conditions.items)) (IsReadyOutput bits (length new.timings.items) (length new.conditions.items))
          (λ o k. ready-stays bits (length old.timings.items) (length new.timings.items) (length old.conditions.items) (length new.conditions.items) o
          (grown-longer old.timings.items new.timings.items ts) (grown-longer old.conditions.items new.conditions.items cs) k) list h.named;
    }

sound-stays : (source : Source) (corner : Corner) (tick : ℤ) (m : Module) (old new : Shelves) (list : List ReadyOutput) → IsLonger old new → AreSoundOutputs source corner tick m old list
    → AreSoundOutputs source corner tick m new list
sound-stays source corner tick m old new list longer h = record { are = outputs-stay corner tick m old new list longer h.are; faultless = h.faultless }

-- ---- one module

pub some-there : (outputs : Outputs) (place : ℕ) (d : Option (Vec ReadyOutput)) (test : Bool) → place < length outputs → test ≡ is_some (get_or outputs place d) → test ≡ true → HasOutputs outputs place
some-there outputs place d test lt e h = by (get_or outputs place d) (slice_get-get_or outputs place d lt) (sym e ∙ h)
  where
    by : (o : Option (Vec ReadyOutput)) → slice_get outputs place ≡ Some o → is_some o ≡ true → HasOutputs outputs place
    by None f g = cc
    by (Some v) f g = (v, f)

pub place-within : (source : Source) (corner : Corner) (tick : ℤ) (outputs : Outputs) (shelves : Shelves) (place : ℕ) (m : Module) → StandsAt source place m
    → AreReadySoFar source corner tick outputs shelves → place < length outputs
place-within source corner tick outputs shelves place m at h =
    let l : length outputs ≡ length source = h.counted in
    let lt : place < length source = slice_get_within source place (a_module m) at in
    omega arith

same-list : (v w : Vec ReadyOutput) → Some v ≡ Some w → v ≡ w
same-list v w e = cc

pub ready-more : (source : Source) (corner : Corner) (tick : ℤ) (outputs : Outputs) (old new : Shelves) (place : ℕ) (list : Vec ReadyOutput) → IsLonger old new
    → ((m : Module) → StandsAt source place m → AreSoundOutputs source corner tick m new list.items) → AreReadySoFar source corner tick outputs old
    → AreReadySoFar source corner tick (set outputs place (Some list)) new
ready-more source corner tick outputs old new place list longer own h = record {
  counted = length-set outputs place (Some list) ∙ h.counted;
  each = λ i v m there at. elim (set-either outputs place i (Some list) (Some v) there) [
    | inl x ↦ subst (λ w. AreSoundOutputs source corner tick m new w.items) (sym (same-list v list x.1)) (own m (subst (λ j. StandsAt source j m) x.0 at))
    | inr k ↦ sound-stays source corner tick m old new v.items longer (h.each i v m k at)
  ];
}

pub put-there : (outputs : Outputs) (place : ℕ) (list : Vec ReadyOutput) → place < length outputs → HasOutputs (set outputs place (Some list)) place
put-there outputs place list lt = (list, set-there outputs place (Some list) lt)

pub put-stays : (outputs : Outputs) (place : ℕ) (list : Vec ReadyOutput) → place < length outputs → (i : ℕ) → HasOutputs outputs i → HasOutputs (set outputs place (Some list)) i
put-stays outputs place list lt i h =
    elim (set-keeps outputs place i (Some list) (Some h.0) h.1) [
      | inl e ↦ subst (HasOutputs (set outputs place (Some list))) (sym e) (put-there outputs place list lt)
      | inr k ↦ (h.0, k)
    ]

-- ---- none

get-none : (n i : ℕ) (o : Option (Vec ReadyOutput)) → slice_get (replicate n None) i ≡ Some o → o ≡ None
get-none zero i o e = cc
get-none (suc n) zero o e = let s : None ≡ o = cc in sym s
get-none (suc n) (suc i) o e = get-none n i o e

pub ready-none : (source : Source) (corner : Corner) (tick : ℤ) (outputs : Outputs) (shelves : Shelves) → outputs ≡ replicate (length source) None → AreReadySoFar source corner tick outputs shelves
ready-none source corner tick outputs shelves is = record {
  counted = ap length is ∙ length-replicate (length source) None;
  each = λ i v m there at. absurd (no-list v (get-none (length source) i (Some v) (subst (λ os. slice_get os i ≡ Some (Some v)) is there)));
}
  where
    no-list : (v : Vec ReadyOutput) → ¬ (Some v ≡ None)
    no-list v e = cc

-- ---- the modules of instances, one after the other

pub there-none : (outputs : Outputs) (ps : List Placed) → All (λ p. HasOutputs outputs p.definition) (take 0 ps)
there-none outputs ps = All-nil (λ p. HasOutputs outputs p.definition)

pub there-next : (d x : Placed) (outputs after : Outputs) (ps : List Placed) (k : ℕ) → k < length ps → x ≡ slice_index_or ps k d → ((i : ℕ) → HasOutputs outputs i → HasOutputs after i)
    → HasOutputs after x.definition → All (λ p. HasOutputs outputs p.definition) (take k ps) → All (λ p. HasOutputs after p.definition) (take (k + 1) ps)
there-next d x outputs after ps k lt is stays one h =
    let more : take k ps ++ x ∷ [] ≡ take (k + 1) ps = ap (λ z. take k ps ++ z ∷ []) is ∙ sym (take_more ps k d lt) in
    subst (All (λ p. HasOutputs after p.definition)) more
    (All-push (λ p. HasOutputs after p.definition) (take k ps) x
    (All-weaker (λ p. HasOutputs outputs p.definition) (λ p. HasOutputs after p.definition) (λ p has. stays p.definition has) (take k ps) h) one)

pub there-all : (outputs : Outputs) (ps : List Placed) (k : ℕ) → length ps ≤ k → All (λ p. HasOutputs outputs p.definition) (take k ps) → All (λ p. HasOutputs outputs p.definition) ps
there-all outputs ps k le h = subst (All (λ p. HasOutputs outputs p.definition)) (take_all k ps le) h
