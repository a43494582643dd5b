-- The paths of instances have spelled conditions.
use Rattle.std.specs.Prelude.{◌≡◌, ◌<◌, ℕ, ℤ, List, [], ◌∷◌, Option, Some, None, filter, find}
use Rattle.std.specs.List.{AllByRecursion}
use Rattle.std.proofs.Common.{refl, arith}
use Rattle.sg_circuit.specs.Circuit.{Element, Kind, Gate, Udp, Pass, Leg, Path, Late}
use Rattle.sg_circuit.specs.Closed.{NamesNets}
use Rattle.sg_circuit.specs.Paths as circuit
use Rattle.sg_delay.specs.declared.corners.Corner.{Corner}
use Rattle.vl_tree.specs.Tree.{Module, PathCondition, Source, SpecifyPath, always, if_none, if_words}
use Rattle.elab_model.specs.Delays.{tick_of}
use Rattle.elab_model.specs.Drivers.{elements}
use Rattle.elab_model.specs.Elements.{Component, elements_of}
use Rattle.elab_model.specs.Hierarchy.{Instance, instances}
use Rattle.elab_model.specs.Names.{Variable, variables}
use Rattle.elab_model.specs.Nets.{nets}
use Rattle.elab_model.specs.Numbered.{element_of}
use Rattle.elab_model.specs.Terms.{NetBit, is_same_bit, path_pairs}
use Rattle.specify_model.specs.Blocks.{parameters, pulses, specify_items, specify_paths, style_texts}
use Rattle.specify_model.specs.Conditions.{Always, If, IfNone, ModuleCondition, condition_of}
use Rattle.specify_model.specs.Outputs.{PathOutput, first_paths, measure, output_of, path_outputs, paths_to}
use Rattle.specify_model.specs.Paths.{ModulePath, PathTo, circuit_condition, circuit_path, module_paths, path_between, paths_of}
use Rattle.specify_model.specs.PulseLimits.{Limits, limits_of}
use Rattle.specify_model.specs.Values.{Measure, Values, value_of}
use Rattle.elab_model.specs.ModuleFaults.{module_faults}
use Rattle.circuit_model.specs.PathUses.{PathUse, bit_number, circuit_elements, kind_by, path_use, path_uses, path_uses_of, reads, with_paths}
use Rattle.elab_laws.specs.Laws.{AreSound}
use Rattle.elab_laws.proofs.Filters.{all-filter}
use Rattle.elab_laws.proofs.Lists.{all-anyway, all-flat_in, all-in, all-map, all-weaker, found-is}
use Rattle.elab_closed.proofs.Fits.{Fits, elements-fit}
use Rattle.written_names.proofs.BareConditions.{IsSpelled}
use Rattle.written_names.proofs.SpelledBlocks.{IsSpelledCondition, IsSpelledPath}
use Rattle.written_names.proofs.SpelledModules.{IsSpelledModule, paths_are}

-- ---- paths of modules

abbrev IsGoodModuleCondition : ModuleCondition → Type 0
IsGoodModuleCondition Always = Unit {0}
IsGoodModuleCondition (If written bound) = IsSpelled written
IsGoodModuleCondition IfNone = Unit {0}

abbrev IsGoodModulePath : ModulePath → Type 0
IsGoodModulePath p = IsGoodModuleCondition p.condition

abbrev IsGoodPathTo : PathTo → Type 0
IsGoodPathTo p = IsGoodModulePath p.path

condition_is : (vs : List Variable) (c : PathCondition) → IsSpelledCondition c → IsGoodModuleCondition (condition_of vs c)
condition_is vs always h = tt
condition_is vs if_none h = tt
condition_is vs (if_words ws) h = h

paths_of_are : (by : Measure) (vs : List Variable) (values : Values) (limits : Limits) (p : SpecifyPath) → IsSpelledPath p → AllByRecursion IsGoodPathTo (paths_of by vs values limits p)
paths_of_are by vs values limits p h =
    all-map IsGoodPathTo (path_between by vs values limits p) (path_pairs vs p) (all-anyway (λ b. IsGoodPathTo (path_between by vs values limits p b)) (path_pairs vs p) (λ b. condition_is vs p.condition h))

abbrev IsGoodOutput : PathOutput → Type 0
IsGoodOutput o = AllByRecursion IsGoodModulePath o.paths

kept : (b : NetBit) (ps : List PathTo) → AllByRecursion IsGoodPathTo ps → AllByRecursion IsGoodModulePath (paths_to b ps)
kept b ps h = all-map IsGoodModulePath (λ p. p.path) (filter (λ p. is_same_bit b p.output) ps) (all-filter IsGoodPathTo (λ p. is_same_bit b p.output) ps h)

outputs_are : (corner : Corner) (tick : ℤ) (m : Module) → IsSpelledModule m → AllByRecursion IsGoodOutput (path_outputs corner tick m)
outputs_are corner tick m h =
    let by = measure corner tick m in
    let vs = variables m in
    let items = specify_items m in
    let values = value_of (parameters items) in
    let limits = limits_of by vs (pulses items) in
    let ps = module_paths by vs items in
    let good : AllByRecursion IsGoodPathTo ps =
    all-flat_in IsGoodPathTo (paths_of by vs values limits) (specify_paths items)
    (all-weaker IsSpelledPath (λ p. AllByRecursion IsGoodPathTo (paths_of by vs values limits p)) (specify_paths items) (paths_of_are by vs values limits) (paths_are m h)) in
    all-map IsGoodOutput (output_of vs (style_texts items) ps) (first_paths [] ps) (all-anyway (λ p. IsGoodOutput (output_of vs (style_texts items) ps p)) (first_paths [] ps) (λ p. kept p.output ps good))

-- ---- paths of instances

abbrev pub IsGoodCondition : circuit.PathCondition → Type 0
IsGoodCondition circuit.Always = Unit {0}
IsGoodCondition (circuit.If written bound) = IsSpelled written
IsGoodCondition circuit.IfNone = Unit {0}

abbrev pub IsGoodPath : circuit.Path → Type 0
IsGoodPath p = IsGoodCondition p.condition

abbrev IsGoodPathUse : PathUse → Type 0
IsGoodPathUse u = AllByRecursion IsGoodPath u.paths

condition_used : (net : NetBit → ℕ) (c : ModuleCondition) → IsGoodModuleCondition c → IsGoodCondition (circuit_condition net c)
condition_used net Always h = tt
condition_used net (If written bound) h = h
condition_used net IfNone h = tt

uses_are : (source : Source) (top : Module) (corner : Corner) → AllByRecursion (λ s. IsSpelledModule s.step.definition) (instances source top) → AllByRecursion IsGoodPathUse (path_uses source top corner)
uses_are source top corner h =
    all-flat_in IsGoodPathUse uses (instances source top) (all-weaker (λ s. IsSpelledModule s.step.definition) (λ s. AllByRecursion IsGoodPathUse (uses s)) (instances source top) of_instance h)
  where
    uses : Instance → List PathUse
    uses = path_uses_of (nets source top) source corner (tick_of source top)

    of_output : (s : Instance) (o : PathOutput) → IsGoodOutput o → IsGoodPathUse (path_use (nets source top) source s o)
    of_output s o k =
        let net = bit_number (nets source top) source s in
        all-map IsGoodPath (circuit_path net) o.paths (all-weaker IsGoodModulePath (λ p. IsGoodPath (circuit_path net p)) o.paths (λ p q. condition_used net p.condition q) k)

    of_instance : (s : Instance) → IsSpelledModule s.step.definition → AllByRecursion IsGoodPathUse (uses s)
    of_instance s k =
        let outputs = path_outputs corner (tick_of source top) s.step.definition in
        all-map IsGoodPathUse (path_use (nets source top) source s) outputs
        (all-weaker IsGoodOutput (λ o. IsGoodPathUse (path_use (nets source top) source s o)) outputs (of_output s) (outputs_are corner (tick_of source top) s.step.definition k))

-- ---- elements

abbrev pub IsGoodKind : Kind → Type 0
IsGoodKind (Gate kind delays) = Unit {0}
IsGoodKind (Udp primitive first delays) = Unit {0}
IsGoodKind (Pass constant) = Unit {0}
IsGoodKind (Leg timings) = Unit {0}
IsGoodKind (Path paths style) = AllByRecursion IsGoodPath paths
IsGoodKind (Late delay) = Unit {0}

-- a kind that names no net has no paths
without_paths : (k : Kind) → NamesNets 0 k → IsGoodKind k
without_paths (Gate kind delays) h = tt
without_paths (Udp primitive first delays) h = tt
without_paths (Pass constant) h = tt
without_paths (Leg timings) h = tt
without_paths (Late delay) h = tt
without_paths (Path [] style) h = tt
without_paths (Path (p ∷ ps) style) h = let l : p.input < 0 = (h 0 p (omega arith)).input in absurd (omega (arith, l))

kind_is : (uses : List PathUse) (c : Component) → IsGoodKind c.kind → AllByRecursion IsGoodPathUse uses → IsGoodKind (with_paths uses c).kind
kind_is uses c k h = by (find (reads c) uses) refl
  where
    by : (o : Option PathUse) → find (reads c) uses ≡ o → IsGoodKind (kind_by c.kind o)
    by None e = k
    by (Some u) e = all-in IsGoodPathUse u uses h (found-is (reads c) uses u e).there

abbrev IsGoodComponent : Component → Type 0
IsGoodComponent c = IsGoodKind c.kind

components_are : (source : Source) (top : Module) (corner : Corner) → AreSound source top corner → AllByRecursion IsGoodComponent (elements source top corner)
components_are source top corner sound =
    let tick = tick_of source top in
    all-flat_in IsGoodComponent (elements_of source corner tick) (instances source top)
    (all-weaker (λ s. module_faults source corner tick s.step.definition ≡ []) (λ s. AllByRecursion IsGoodComponent (elements_of source corner tick s)) (instances source top)
    (λ s e. all-weaker (Fits s.step.number) IsGoodComponent (elements_of source corner tick s) (λ c f. without_paths c.kind (f.paths 0)) (elements-fit source corner tick s e)) sound)

abbrev pub IsGoodElement : Element → Type 0
IsGoodElement e = IsGoodKind e.kind

pub elements_are : (source : Source) (top : Module) (corner : Corner) → AreSound source top corner → AllByRecursion (λ s. IsSpelledModule s.step.definition) (instances source top)
    → AllByRecursion IsGoodElement (circuit_elements source top corner)
elements_are source top corner sound h =
    let uses = path_uses source top corner in
    all-map IsGoodElement (λ c. element_of (nets source top) (with_paths uses c)) (elements source top corner)
    (all-weaker IsGoodComponent (λ c. IsGoodElement (element_of (nets source top) (with_paths uses c))) (elements source top corner) (λ c k. kind_is uses c k (uses_are source top corner h)) (components_are source top corner sound))
