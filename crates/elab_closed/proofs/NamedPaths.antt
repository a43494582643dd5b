-- The bits that a module's paths name are bits of its variables, where its blocks have no fault.
use Rattle.std.specs.Prelude.{◌≡◌, List, [], ◌∷◌, ◌++◌, Bool, true, false, filter, flat_map, map, zip, ℤ, if◌then◌else◌}
use Rattle.std.specs.List.{AllByRecursion, list_any}
use Rattle.sg_delay.specs.declared.corners.Corner.{Corner}
use Rattle.vl_tree.specs.declared.paths.Arrow.{Arrow}
use Rattle.vl_tree.specs.declared.paths.Arrow.TheVariants.{Parallel, Full}
use Rattle.vl_tree.specs.Tree.{SpecifyPath, Term, Module}
use Rattle.elab_model.specs.Names.{Variable, variables}
use Rattle.elab_model.specs.Terms.{NetBit, is_same_bit, pairs, path_pairs, terms_bits}
use Rattle.specify_model.specs.Blocks.{parameters, pulses, specify_items, specify_paths, style_texts}
use Rattle.specify_model.specs.Faults.{condition_faults, end_faults, list_faults, own_condition, path_faults, side_faults, source_faults, specify_faults}
use Rattle.specify_model.specs.Outputs.{first_paths, measure, output_of, path_outputs, paths_to}
use Rattle.specify_model.specs.Paths.{PathTo, module_paths, path_between, paths_of}
use Rattle.specify_model.specs.PulseLimits.{Limits, limits_of}
use Rattle.specify_model.specs.Values.{Measure, Values, value_of}
use Rattle.elab_laws.proofs.EndBits.{HasNetBit, terms-below}
use Rattle.elab_laws.proofs.Filters.{all-filter}
use Rattle.elab_laws.proofs.Lists.{all-flat_in, all-map, all-weaker}
use Rattle.elab_laws.proofs.NoFaults.{back, front}
use Rattle.elab_closed.specs.NamedNets.{EachInOutput, EachInPath}
use Rattle.elab_closed.proofs.Operands.{condition-known}
use Rattle.elab_closed.proofs.PathTimings.{paths-sound}

module _ (vs : List Variable) (P : NetBit → Type 0) (known : (b : NetBit) → HasNetBit vs b → P b) where
  -- ---- one specify path

  terms-known : (ts : List Term) → AllByRecursion P (terms_bits vs ts)
  terms-known ts = all-weaker (HasNetBit vs) P (terms_bits vs ts) known (terms-below vs ts)

  abbrev AreKnown : NetBit × NetBit → Type 0
  AreKnown b = P b.0 × P b.1

  zip-known : (xs ys : List NetBit) → AllByRecursion P xs → AllByRecursion P ys → AllByRecursion AreKnown (zip xs ys)
  zip-known [] ys h k = tt
  zip-known (x ∷ xs) [] h k = tt
  zip-known (x ∷ xs) (y ∷ ys) h k = ((h.0, k.0), zip-known xs ys h.1 k.1)

  pairs-known : (a : Arrow) (xs ys : List NetBit) → AllByRecursion P xs → AllByRecursion P ys → AllByRecursion AreKnown (pairs a xs ys)
  pairs-known Parallel xs ys h k = zip-known xs ys h k
  pairs-known Full xs ys h k =
      all-flat_in AreKnown (λ i. map (λ o. (i, o)) ys) xs
      (all-weaker P (λ i. AllByRecursion AreKnown (map (λ o. (i, o)) ys)) xs (λ i p. all-map AreKnown (λ o. (i, o)) ys (all-weaker P (λ o. P i × P o) ys (λ o q. (p, q)) k)) h)

  abbrev IsKnown : PathTo → Type 0
  IsKnown p = P p.output × EachInPath P p.path

  path-known : (by : Measure) (values : Values) (limits : Limits) (p : SpecifyPath) → path_faults by vs values p ≡ [] → AllByRecursion IsKnown (paths_of by vs values limits p)
  path-known by values limits p h =
      let conds = flat_map (condition_faults vs p.place) (own_condition p.condition) in
      let others = source_faults vs p.destination.source ++ list_faults by values p.place p.delays in
      let e : conds ≡ [] = front conds others (back (side_faults vs p) (conds ++ others) (back (end_faults vs p) (side_faults vs p ++ (conds ++ others)) h)) in
      all-map IsKnown (path_between by vs values limits p) (path_pairs vs p)
      (all-weaker AreKnown (λ b. IsKnown (path_between by vs values limits p b)) (path_pairs vs p) (λ b k. (k.1, record { input = k.0; condition = condition-known vs P known p.place p.condition e }))
      (pairs-known p.arrow (terms_bits vs p.sources) (terms_bits vs p.destination.terms) (terms-known p.sources) (terms-known p.destination.terms)))

  -- ---- all of a module

  first-known : (seen : List NetBit) (ps : List PathTo) → AllByRecursion IsKnown ps → AllByRecursion IsKnown (first_paths seen ps)
  first-known seen [] h = tt
  first-known seen (p ∷ ps) h = by (list_any (is_same_bit p.output) seen) (first-known seen ps h.1) (first-known (p.output ∷ seen) ps h.1)
    where
      by : (b : Bool) → AllByRecursion IsKnown (first_paths seen ps) → AllByRecursion IsKnown (first_paths (p.output ∷ seen) ps)
          → AllByRecursion IsKnown (if b then first_paths seen ps else p ∷ first_paths (p.output ∷ seen) ps)
      by true k l = k
      by false k l = (h.0, l)

  kept : (b : NetBit) (ps : List PathTo) → AllByRecursion IsKnown ps → AllByRecursion (EachInPath P) (paths_to b ps)
  kept b ps h =
      let own = filter (λ p. is_same_bit b p.output) ps in
      all-map (EachInPath P) (λ p. p.path) own (all-weaker IsKnown (λ p. EachInPath P p.path) own (λ p k. k.1) (all-filter IsKnown (λ p. is_same_bit b p.output) ps h))

pub outputs-known : (corner : Corner) (tick : ℤ) (m : Module) (P : NetBit → Type 0) → ((b : NetBit) → HasNetBit (variables m) b → P b) → specify_faults corner tick m ≡ []
    → AllByRecursion (EachInOutput P) (path_outputs corner tick m)
outputs-known corner tick m P known h =
    let by = measure corner tick m in
    let vs = variables m in
    let items = specify_items m in
    let values = value_of (parameters items) in
    let limits = limits_of by vs (pulses items) in
    let ps = module_paths by vs items in
    let each : AllByRecursion (IsKnown vs P known) ps =
    all-flat_in (IsKnown vs P known) (paths_of by vs values limits) (specify_paths items)
    (all-weaker (λ p. path_faults by vs values p ≡ []) (λ p. AllByRecursion (IsKnown vs P known) (paths_of by vs values limits p)) (specify_paths items)
    (path-known vs P known by values limits) (paths-sound corner tick m h)) in
    all-map (EachInOutput P) (output_of vs (style_texts items) ps) (first_paths [] ps)
    (all-weaker (IsKnown vs P known) (λ p. EachInOutput P (output_of vs (style_texts items) ps p)) (first_paths [] ps)
    (λ p k. record { output = k.0; paths = kept vs P known p.output ps each }) (first-known vs P known [] ps each))
