-- The paths of the modules of all instances.
use Rattle.std.specs.Prelude.{◌≡◌, ℕ, ◌<◌, All, List, [], ◌∷◌, ◌++◌, Some, length, map, flat_map, slice_get, slice_index_or, refl, ℤ, ◌≤ℤ◌}
use Rattle.std.specs.Global.{Vec}
use Rattle.std.specs.List.{AllByRecursion}
use Rattle.std.specs.Option.{option_and_then, option_map}
use Rattle.std.proofs.Common.{sym, ◌∙◌, ap, inl, inr, subst}
use Rattle.std.proofs.lemmas.List.{append-nil}
use Rattle.std.proofs.lemmas.List.Elements.{All-nil, All-cons, recursion_from_All}
use Rattle.sg_circuit.specs.declared.elements.LegTiming.{LegTiming}
use Rattle.sg_delay.specs.declared.corners.Corner.{Corner}
use Rattle.sg_text.specs.declared.refusals.Refused.{Refused}
use Rattle.vl_tree.specs.Tree.{Module, Source}
use Rattle.elab_model.specs.declared.kinds.ElabKind.{ElabKind}
use Rattle.elab_model.specs.Delays.{tick_of}
use Rattle.elab_model.specs.Faults.{Fault, RefusesOneOf}
use Rattle.elab_model.specs.Hierarchy.{Instance, instances}
use Rattle.elab_model.specs.HierarchyFaults.{two_definitions}
use Rattle.elab_model.specs.Names.{variables}
use Rattle.circuit_model.specs.Faults.{module_path_faults, path_faults}
use Rattle.elab_laws.specs.Handing.{all_bits}
use Rattle.elab_laws.proofs.Lists.{In, all-in}
use Rattle.elab_laws.proofs.NoFaults.{all-from}
use Rattle.elab_hierarchy.specs.declared.instances.Placed.{Placed}
use Rattle.elab_hierarchy.specs.Placing.{ArePlaced}
use Rattle.elab_hierarchy.specs.Tops.{StandsAt}
use Rattle.elab_elements.specs.Library.{Library}
use Rattle.elab_elements.specs.Ready as code_ready
use Rattle.elab_elements.specs.Ready.TheVariants as ready
use Rattle.elab_elements.specs.Reached.{IsReached, IsLibrary}
use Rattle.elab_elements.specs.ReadyOfModules.{IsPrepared, AreReady, HasReady}
use Rattle.elab_elements.proofs.AmongOfModules.{in-mapped}
use Rattle.elab_elements.proofs.FaultyOfModules.{refused-flat}
use Rattle.elab_elements.proofs.Meeting.{places_of}
use Rattle.elab_elements.proofs.NamedOfModules.{module-same, one-place, place-of, placed-in}
use Rattle.elab_laws.proofs.Precisions.{least-of_all}
use Rattle.elab_elements.proofs.Stocking.{Parts, no-module}
use Rattle.elab_paths.specs.Ready.{output_ready, IsReadyOutput, IsReadyOf, HasPaths, HavePaths}
use Rattle.elab_paths.specs.Shelving.{IsLonger, AreRead}
use Rattle.elab_paths.specs.OfModules.{StandsReady, AreOutputsOf, AreSoundOutputs, AreReadySoFar, HasOutputs, IsOfPlace}
use Rattle.elab_paths.specs.declared.modules.ModulePaths.{ModulePaths}
use Rattle.elab_paths.specs.declared.shelving.ReadyOutput.{ReadyOutput}
use Rattle.elab_paths.specs.declared.shelving.Shelves.{Shelves}
use Rattle.elab_paths.proofs.SoFar.{Outputs}

-- ---- the modules of instances stand ready in the library

ready-at : (source : Source) (tick : ℤ) (parts : Parts) (place : ℕ) (m : Module) → AreReady source parts → StandsAt source place m → HasReady parts place → tick ≤ℤ m.settings.scale.precision
    → StandsReady source tick parts place
ready-at source tick parts place m all at h le = by h.0 h.1
  where
    by : (r : code_ready.Ready) → slice_get parts place ≡ Some (Some r) → StandsReady source tick parts place
    by (ready.Module p) e =
        let r = all.1 place (Some (ready.Module p)) e in
        let is : IsPrepared p m = subst (IsPrepared p) (module-same source place r.0 m r.1 at) r.2 in
        record { prepared = p; there = e; own = m; stands = at; is = is; fits = subst (λ n. tick ≤ℤ n.settings.scale.precision) (sym is.definition) le }
    by (ready.Primitive k) e =
        let r = all.1 place (Some (ready.Primitive k)) e in
        absurd (no-module source place m r.0 at r.1)

all-placed : (P : ℕ → Type 0) (source : Source) (ps : List Placed) (ss : List Instance) → ((s : Instance) → In s ss → (i : ℕ) → StandsAt source i s.step.definition → P i) → ArePlaced source ps ss
    → All (λ p. P p.definition) ps
all-placed P source [] ss f h = All-nil (λ p. P p.definition)
all-placed P source (p ∷ ps) [] f h = absurd h
all-placed P source (p ∷ ps) (s ∷ ss) f h =
    All-cons (λ q. P q.definition) p ps (f s (inl refl) p.definition h.0.definition) (all-placed P source ps ss (λ t there i at. f t (inr there) i at) h.1)

pub all-ready : (source : Source) (corner : Corner) (top : Module) (ps : List Placed) (library : Library) (tick : ℤ) → ArePlaced source ps (instances source top) → tick ≡ tick_of source top
    → IsLibrary source corner top library → All (λ p. StandsReady source tick library.parts.items p.definition) ps
all-ready source corner top ps library tick are e lib =
    all-placed (StandsReady source tick library.parts.items) source ps (instances source top) (λ s there i at.
    ready-at source tick library.parts.items i s.step.definition lib.ready at ((all-in (IsReached source corner top library) s (instances source top) lib.reached there).stands i at).ready
    (subst (λ t. t ≤ℤ s.step.definition.settings.scale.precision) (sym e) (least-of_all top.settings.scale.precision s (instances source top) there))) are

-- ---- all are done

all-there : (P : ℕ → Type 0) (ps : List Placed) (i : ℕ) → All (λ p. P p.definition) ps → In i (places_of ps) → P i
all-there P [] i h k = absurd k
all-there P (p ∷ ps) i h k = by (recursion_from_All (λ q. P q.definition) (p ∷ ps) h) k
  where
    later : (qs : List Placed) → AllByRecursion (λ q. P q.definition) qs → In i (places_of qs) → P i
    later [] h k = absurd k
    later (q ∷ qs) h (inl e) = subst P (sym e) h.0
    later (q ∷ qs) h (inr k) = later qs h.1 k

    by : AllByRecursion (λ q. P q.definition) (p ∷ ps) → In i (places_of (p ∷ ps)) → P i
    by h k = later (p ∷ ps) h k

-- what has come to stand ready, and where
pub record AllReady (source : Source) (corner : Corner) (tick : ℤ) (ps : List Placed) (outputs : Outputs) (shelves : Shelves) : Type 0 where
  pub once : two_definitions source ≡ []
  pub ready : AreReadySoFar source corner tick outputs shelves
  pub there : All (λ p. HasOutputs outputs p.definition) ps

-- the outputs of an instance's module
record OutputsAt (source : Source) (corner : Corner) (tick : ℤ) (outputs : Outputs) (shelves : Shelves) (m : Module) (place : ℕ) : Type 0 where
  pub list : Vec ReadyOutput
  pub there : slice_get outputs place ≡ Some (Some list)
  pub sound : AreSoundOutputs source corner tick m shelves list.items

outputs-at : (source : Source) (corner : Corner) (tick : ℤ) (top : Module) (ps : List Placed) (outputs : Outputs) (shelves : Shelves) (s : Instance) (place : ℕ)
    → AllReady source corner tick ps outputs shelves → ArePlaced source ps (instances source top) → In s (instances source top) → StandsAt source place s.step.definition
    → OutputsAt source corner tick outputs shelves s.step.definition place
outputs-at source corner tick top ps outputs shelves s place h are inside at =
    let w = place-of source ps (instances source top) s are inside in
    let same : w.place ≡ place = one-place source h.once w.place place s.step.definition w.stands at in
    let v = subst (HasOutputs outputs) same (all-there (HasOutputs outputs) ps w.place h.there w.there) in
    record { list = v.0; there = v.1; sound = h.ready.each place v.0 s.step.definition v.1 at }

is-ready : (source : Source) (corner : Corner) (top m : Module) (made : ModulePaths) (shelves : Shelves) (list : List ReadyOutput) → shelves.timings ≡ made.timings
    → shelves.conditions ≡ made.conditions → AreOutputsOf corner (tick_of source top) m shelves list → IsReadyOf corner m source top made list
is-ready source corner top m made shelves list e f h = record {
  outputs = ap (λ t. map (output_ready t made.conditions.items (variables m)) list) (ap (λ v. v.items) (sym e) ∙ sym (append-nil shelves.timings.items))
      ∙ ap (λ c. map (output_ready (shelves.timings.items ++ []) c (variables m)) list) (ap (λ v. v.items) (sym f) ∙ sym (append-nil shelves.conditions.items))
      ∙ h.outputs [] [];
  named = subst (λ c. All (IsReadyOutput (length (all_bits (variables m))) (length made.timings.items) (length c.items)) list) f
      (subst (λ t. All (IsReadyOutput (length (all_bits (variables m))) (length t.items) (length shelves.conditions.items)) list) e h.named);
}

has-paths : (source : Source) (corner : Corner) (top : Module) (ps : List Placed) (made : ModulePaths) (shelves : Shelves) (s : Instance) → shelves.timings ≡ made.timings
    → shelves.conditions ≡ made.conditions → AllReady source corner (tick_of source top) ps made.outputs.items shelves → ArePlaced source ps (instances source top) → In s (instances source top)
    → HasPaths source top corner made s
has-paths source corner top ps made shelves s e f h are inside place at =
    let w = outputs-at source corner (tick_of source top) top ps made.outputs.items shelves s place h are inside at in (
      w.list.items,
      (
        ap (λ o. option_and_then (λ v. option_map (λ x. x.items) v) o) w.there,
        is-ready source corner top s.step.definition made shelves w.list.items e f w.sound.are,
      ),
    )

none-of_each : {A : Type 0} (f : A → List Fault) (xs : List A) → AllByRecursion (λ x. f x ≡ []) xs → flat_map f xs ≡ []
none-of_each f [] h = refl
none-of_each f (x ∷ xs) h = ap (λ fs. fs ++ flat_map f xs) h.0 ∙ none-of_each f xs h.1

faultless : (source : Source) (corner : Corner) (top : Module) (ps : List Placed) (outputs : Outputs) (shelves : Shelves) (s : Instance)
    → AllReady source corner (tick_of source top) ps outputs shelves → ArePlaced source ps (instances source top) → In s (instances source top)
    → module_path_faults source corner (tick_of source top) s.step.definition ≡ []
faultless source corner top ps outputs shelves s h are inside =
    let w = place-of source ps (instances source top) s are inside in
    (outputs-at source corner (tick_of source top) top ps outputs shelves s w.place h are inside w.stands).sound.faultless

pub have-paths : (source : Source) (corner : Corner) (top : Module) (ps : List Placed) (tick : ℤ) (legs : LegTiming) (made : ModulePaths) (outputs : Outputs) (shelves : Shelves)
    → made.outputs.items ≡ outputs → shelves.timings ≡ made.timings → shelves.conditions ≡ made.conditions → slice_get made.timings.items 0 ≡ Some legs → AreRead made.conditions.items
    → ArePlaced source ps (instances source top) → tick ≡ tick_of source top → AllReady source corner tick ps outputs shelves → HavePaths source top corner legs made
have-paths source corner top ps tick legs made outputs shelves same e f first read are t h =
    let all = subst (λ k. AllReady source corner k ps made.outputs.items shelves) t (subst (λ os. AllReady source corner tick ps os shelves) (sym same) h) in
    record {
      each = all-from (HasPaths source top corner made) (instances source top) (λ s inside. has-paths source corner top ps made shelves s e f all are inside);
      faultless = none-of_each (λ s. module_path_faults source corner (tick_of source top) s.step.definition) (instances source top)
          (all-from (λ s. module_path_faults source corner (tick_of source top) s.step.definition ≡ []) (instances source top)
          (λ s inside. faultless source corner top ps made.outputs.items shelves s all are inside));
      read = read;
      first = first;
    }

-- the first timing stays
pub first-stays : (legs : LegTiming) (old new : Shelves) → old.timings.items ≡ legs ∷ [] → IsLonger old new → slice_get new.timings.items 0 ≡ Some legs
first-stays legs old new e h = ap (λ t. slice_get t 0) (h.timings_are ∙ ap (λ t. t ++ h.timings) e)

-- ---- what is refused

pub one-refused : (source : Source) (corner : Corner) (tick : ℤ) (d x : Placed) (ps : List Placed) (k : ℕ) (r : Refused ElabKind) → k < length ps → x ≡ slice_index_or ps k d
    → ((m : Module) → StandsAt source x.definition m → RefusesOneOf (module_path_faults source corner tick m) r) → IsOfPlace source corner tick (places_of ps) r
one-refused source corner tick d x ps k r lt is h =
    record { at = x.definition; there = subst (λ y. In y.definition (places_of ps)) (sym is) (in-mapped (λ p. p.definition) d ps k lt); stands = h }

pub paths-refused : (source : Source) (corner : Corner) (top : Module) (ps : List Placed) (tick : ℤ) (r : Refused ElabKind) → ArePlaced source ps (instances source top) → tick ≡ tick_of source top
    → IsOfPlace source corner tick (places_of ps) r → RefusesOneOf (path_faults source top corner) r
paths-refused source corner top ps tick r are e h =
    let w = placed-in source ps (instances source top) h.at are h.there in
    refused-flat (λ s. module_path_faults source corner (tick_of source top) s.step.definition) w.instance (instances source top) r w.there
    (subst (λ t. RefusesOneOf (module_path_faults source corner t w.instance.step.definition) r) e (h.stands w.instance.step.definition w.stands))
