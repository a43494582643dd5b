-- Where a module's blocks have no fault, its paths lead from bits of input ports to bits of output ports.
use Rattle.std.specs.Prelude.{◌≡◌, ℕ, ℤ, List, [], ◌∷◌, ◌++◌, Bool, true, false, not, Option, Some, None, filter, filter_map, flat_map, map, zip, refl, if◌then◌else◌}
use Rattle.std.specs.List.{AllByRecursion, list_any}
use Rattle.std.proofs.Common.{sym, ◌∙◌, ap, subst}
use Rattle.std.proofs.lemmas.List.{append-nil}
use Rattle.sg_circuit.specs.declared.scopes.Port.{Port}
use Rattle.sg_circuit.specs.declared.scopes.Range.{Range}
use Rattle.sg_delay.specs.declared.corners.Corner.{Corner}
use Rattle.vl_tree.specs.declared.expressions.Select.{Select}
use Rattle.vl_tree.specs.declared.expressions.Select.TheVariants as select
use Rattle.vl_tree.specs.declared.paths.Arrow.{Arrow}
use Rattle.vl_tree.specs.declared.paths.Arrow.TheVariants.{Parallel, Full}
use Rattle.vl_tree.specs.Tree.{Module, SpecifyPath, Term}
use Rattle.elab_model.specs.declared.kinds.ElabKind.TheVariants.{BadTerminal}
use Rattle.elab_model.specs.Bits.{net, positions, positions_between, bits_between, position_at, select_bits, leaf_bits, variable_named, whole_bits, part_bits}
use Rattle.elab_model.specs.Faults.{fault_if}
use Rattle.elab_model.specs.Homes.{is_input, is_output}
use Rattle.elab_model.specs.Leaves.{leaf_of}
use Rattle.elab_model.specs.Names.{Variable, variable, variables}
use Rattle.elab_model.specs.Terms.{NetBit, is_same_bit, net_bit, pairs, path_pairs, term_bits, terms_bits}
use Rattle.specify_model.specs.Blocks.{parameters, pulses, specify_items, specify_paths, style_texts}
use Rattle.specify_model.specs.Faults.{end_faults, is_no, path_faults, port_faults, specify_faults, term_faults}
use Rattle.specify_model.specs.Outputs.{PathOutput, first_paths, measure, output_of, path_outputs, paths_to}
use Rattle.specify_model.specs.Paths.{PathTo, module_paths, path_between, paths_of}
use Rattle.specify_model.specs.PulseLimits.{Limits, limits_of}
use Rattle.specify_model.specs.Values.{Measure, Values, value_of}
use Rattle.elab_laws.proofs.ElementWidths.{no-fault}
use Rattle.elab_laws.proofs.EndBits.{HasNetBit, term-below}
use Rattle.elab_laws.proofs.Filters.{all-filter}
use Rattle.elab_laws.proofs.Legs.{variable-is}
use Rattle.elab_laws.proofs.Lists.{all-flat_in, all-map, all-weaker}
use Rattle.elab_laws.proofs.NoFaults.{back, flat-empty, front}
use Rattle.elab_closed.proofs.NamedChecks.{known-as}
use Rattle.elab_closed.proofs.PathTimings.{paths-sound}

-- a bit of a port of such a kind
pub record IsPortBit (such : Port → Bool) (m : Module) (b : NetBit) : Type 0 where
  pub bit : HasNetBit (variables m) b
  pub port : such (variable m b.name).port ≡ true

-- ---- the bits of a term have its name

module _ (n : List ℕ) where
  abbrev IsOfName : NetBit → Type 0
  IsOfName b = b.name ≡ n

  nets-named : (ps : List ℕ) → AllByRecursion IsOfName (filter_map net_bit (map (net n) ps))
  nets-named [] = tt
  nets-named (p ∷ ps) = (refl, nets-named ps)

  between-named : (a b : Option ℕ) → AllByRecursion IsOfName (filter_map net_bit (bits_between n a b))
  between-named None b = tt
  between-named (Some p) None = tt
  between-named (Some p) (Some q) = nets-named (positions_between p q)

  selected-named : (r : Option Range) (s : Select) → AllByRecursion IsOfName (filter_map net_bit (select_bits n r s))
  selected-named r (select.Bit i) = between-named (position_at r i) (position_at r i)
  selected-named r (select.Part left right) = between-named (position_at r left) (position_at r right)

  whole-named : (o : Option Variable) → AllByRecursion IsOfName (filter_map net_bit (whole_bits n o))
  whole-named None = tt
  whole-named (Some v) = nets-named (positions v.range)

  part-named : (s : Select) (o : Option Variable) → AllByRecursion IsOfName (filter_map net_bit (part_bits n s o))
  part-named s None = tt
  part-named s (Some v) = selected-named v.range s

term-named : (vs : List Variable) (t : Term) → AllByRecursion (IsOfName t.name.text) (term_bits vs t)
term-named vs t = subst (λ bs. AllByRecursion (IsOfName t.name.text) (filter_map net_bit bs)) (sym (append-nil (leaf_bits vs (leaf_of t.name t.select)))) (by t.select)
  where
    by : (s : Option Select) → AllByRecursion (IsOfName t.name.text) (filter_map net_bit (leaf_bits vs (leaf_of t.name s)))
    by None = whole-named t.name.text (variable_named vs t.name.text)
    by (Some s) = part-named t.name.text s (variable_named vs t.name.text)

-- ---- terms without fault

port-bit : (such : Port → Bool) (m : Module) (n : List ℕ) (b : NetBit) → is_no such (variable_named (variables m) n) ≡ false → HasNetBit (variables m) b → b.name ≡ n → IsPortBit such m b
port-bit such m n b misses h e =
    let w = h.variable in
    let k = known-as (variables m) b.name w h.found in
    let own : variable m b.name ≡ w = ap (variable m) k.1 ∙ variable-is m w k.0 in
    let is : is_no such (Some w) ≡ false = ap (is_no such) (sym h.found ∙ ap (variable_named (variables m)) e) ∙ misses in
    record { bit = h; port = ap (λ (v : Variable). such v.port) own ∙ right (such w.port) is }
  where
    right : (c : Bool) → not c ≡ false → c ≡ true
    right true g = refl
    right false g = cc

term-ports : (such : Port → Bool) (m : Module) (t : Term) → port_faults such (variables m) t ≡ [] → AllByRecursion (IsPortBit such m) (term_bits (variables m) t)
term-ports such m t h =
    let vs = variables m in
    let wrong = is_no such (variable_named vs t.name.text) in
    both (term_bits vs t) (no-fault wrong BadTerminal t.name.place (back (term_faults vs t) (fault_if wrong BadTerminal t.name.place) h)) (term-below vs t) (term-named vs t)
  where
    both : (bs : List NetBit) → is_no such (variable_named (variables m) t.name.text) ≡ false → AllByRecursion (HasNetBit (variables m)) bs → AllByRecursion (IsOfName t.name.text) bs → AllByRecursion (IsPortBit such m) bs
    both [] misses g k = tt
    both (b ∷ bs) misses g k = (port-bit such m t.name.text b misses g.0 k.0, both bs misses g.1 k.1)

terms-ports : (such : Port → Bool) (m : Module) (ts : List Term) → flat_map (port_faults such (variables m)) ts ≡ [] → AllByRecursion (IsPortBit such m) (terms_bits (variables m) ts)
terms-ports such m ts h =
    let vs = variables m in
    all-flat_in (IsPortBit such m) (term_bits vs) ts
    (all-weaker (λ t. port_faults such vs t ≡ []) (λ t. AllByRecursion (IsPortBit such m) (term_bits vs t)) ts (term-ports such m) (flat-empty (port_faults such vs) ts h))

-- ---- one specify path

module _ (m : Module) where
  abbrev AreEnds : NetBit × NetBit → Type 0
  AreEnds b = IsPortBit is_input m b.0 × IsPortBit is_output m b.1

  zip-ends : (xs ys : List NetBit) → AllByRecursion (IsPortBit is_input m) xs → AllByRecursion (IsPortBit is_output m) ys → AllByRecursion AreEnds (zip xs ys)
  zip-ends [] ys h k = tt
  zip-ends (x ∷ xs) [] h k = tt
  zip-ends (x ∷ xs) (y ∷ ys) h k = ((h.0, k.0), zip-ends xs ys h.1 k.1)

  pairs-ends : (a : Arrow) (xs ys : List NetBit) → AllByRecursion (IsPortBit is_input m) xs → AllByRecursion (IsPortBit is_output m) ys → AllByRecursion AreEnds (pairs a xs ys)
  pairs-ends Parallel xs ys h k = zip-ends xs ys h k
  pairs-ends Full xs ys h k =
      all-flat_in AreEnds (λ i. map (λ o. (i, o)) ys) xs
      (all-weaker (IsPortBit is_input m) (λ i. AllByRecursion AreEnds (map (λ o. (i, o)) ys)) xs
      (λ i p. all-map AreEnds (λ o. (i, o)) ys (all-weaker (IsPortBit is_output m) (λ o. IsPortBit is_input m i × IsPortBit is_output m o) ys (λ o q. (p, q)) k)) h)

  abbrev Leads : PathTo → Type 0
  Leads p = IsPortBit is_input m p.path.input × IsPortBit is_output m p.output

  path-leads : (by : Measure) (values : Values) (limits : Limits) (p : SpecifyPath) → path_faults by (variables m) values p ≡ [] → AllByRecursion Leads (paths_of by (variables m) values limits p)
  path-leads by values limits p h =
      let vs = variables m in
      let ins = flat_map (port_faults is_input vs) p.sources in
      let outs = flat_map (port_faults is_output vs) p.destination.terms in
      let ends : ins ++ outs ≡ [] = front (end_faults vs p) _ h in
      all-map Leads (path_between by vs values limits p) (path_pairs vs p)
      (pairs-ends p.arrow (terms_bits vs p.sources) (terms_bits vs p.destination.terms) (terms-ports is_input m p.sources (front ins outs ends)) (terms-ports is_output m p.destination.terms (back ins outs ends)))

  -- ---- all of a module

  first-leads : (seen : List NetBit) (ps : List PathTo) → AllByRecursion Leads ps → AllByRecursion Leads (first_paths seen ps)
  first-leads seen [] h = tt
  first-leads seen (p ∷ ps) h = by (list_any (is_same_bit p.output) seen) (first-leads seen ps h.1) (first-leads (p.output ∷ seen) ps h.1)
    where
      by : (b : Bool) → AllByRecursion Leads (first_paths seen ps) → AllByRecursion Leads (first_paths (p.output ∷ seen) ps)
          → AllByRecursion Leads (if b then first_paths seen ps else p ∷ first_paths (p.output ∷ seen) ps)
      by true k l = k
      by false k l = (h.0, l)

-- an output with paths, each from an input
pub record IsLedTo (m : Module) (o : PathOutput) : Type 0 where
  pub output : IsPortBit is_output m o.output
  pub paths : AllByRecursion (λ p. IsPortBit is_input m p.input) o.paths

pub outputs-led : (corner : Corner) (tick : ℤ) (m : Module) → specify_faults corner tick m ≡ [] → AllByRecursion (IsLedTo m) (path_outputs corner tick m)
outputs-led corner tick m h =
    let by = measure corner tick m in
    let vs = variables m in
    let items = specify_items m in
    let values = value_of (parameters items) in
    let limits = limits_of by vs (pulses items) in
    let ps = module_paths by vs items in
    let each : AllByRecursion (Leads m) ps =
    all-flat_in (Leads m) (paths_of by vs values limits) (specify_paths items)
    (all-weaker (λ p. path_faults by vs values p ≡ []) (λ p. AllByRecursion (Leads m) (paths_of by vs values limits p)) (specify_paths items)
    (path-leads m by values limits) (paths-sound corner tick m h)) in
    all-map (IsLedTo m) (output_of vs (style_texts items) ps) (first_paths [] ps)
    (all-weaker (Leads m) (λ p. IsLedTo m (output_of vs (style_texts items) ps p)) (first_paths [] ps) (λ p k. record { output = k.1; paths = kept p.output ps each }) (first-leads m [] ps each))
  where
    kept : (b : NetBit) (ps : List PathTo) → AllByRecursion (Leads m) ps → AllByRecursion (λ p. IsPortBit is_input m p.input) (paths_to b ps)
    kept b ps h =
        let own = filter (λ p. is_same_bit b p.output) ps in
        all-map (λ p. IsPortBit is_input m p.input) (λ p. p.path) own
        (all-weaker (Leads m) (λ p. IsPortBit is_input m p.path.input) own (λ p k. k.0) (all-filter (Leads m) (λ p. is_same_bit b p.output) ps h))
