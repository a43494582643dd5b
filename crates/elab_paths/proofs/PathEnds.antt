-- The output bits of a module whose blocks have no fault are those to which its paths lead.
use Rattle.std.specs.Prelude.{◌≡◌, ℕ, ℤ, List, [], ◌∷◌, ◌++◌, Bool, true, false, not, Option, Some, None, cond, bytes_eq, filter, filter_map, flat_map, map, zip, refl, if◌then◌else◌}
use Rattle.std.specs.List.{AllByRecursion, cons_option, list_any}
use Rattle.std.proofs.Common.{sym, ◌∙◌, ap, subst}
use Rattle.std.proofs.lemmas.Grind.{flat_map-append}
use Rattle.std.proofs.lemmas.List.{append-nil, map-append}
use Rattle.std.proofs.lemmas.List.Elements.{filter_map-append}
use Rattle.std.proofs.lemmas.Slice.Eq.{bytes_eq-Decides}
use Rattle.sg_circuit.specs.declared.scopes.Range.{Range}
use Rattle.sg_delay.specs.declared.corners.Corner.{Corner}
use Rattle.sg_text.specs.declared.places.Place.{Place}
use Rattle.vl_tree.specs.declared.expressions.Select.{Select}
use Rattle.vl_tree.specs.declared.expressions.Select.TheVariants as select
use Rattle.vl_tree.specs.declared.paths.Arrow.{Arrow}
use Rattle.vl_tree.specs.declared.paths.Arrow.TheVariants.{Parallel, Full}
use Rattle.vl_tree.specs.Tree.{Expression, NetName, Term, SpecifyPath, SpecifyItem, specparams, a_path, pulse_style, a_check}
use Rattle.vl_tree.specs.Tree.{Item, ports, nets, supplies, registers, assigns, gates, instances, specify_block, Module}
use Rattle.elab_model.specs.declared.kinds.ElabKind.{ElabKind}
use Rattle.elab_model.specs.declared.kinds.ElabKind.TheVariants.{BadTerminal}
use Rattle.elab_model.specs.Bits.{net, positions, positions_between, bits_between, position_at, select_bits, leaf_bits, variable_named}
use Rattle.elab_model.specs.Ends.{ends, first_bits, path_ends}
use Rattle.elab_model.specs.Faults.{fault_if}
use Rattle.elab_model.specs.Homes.{is_input, is_output}
use Rattle.elab_model.specs.Leaves.{leaf_of}
use Rattle.elab_model.specs.Members.{Member, assignment, supply, gate, instance, path, assignment_to, supply_value, member_of_item, members_of_item}
use Rattle.elab_model.specs.Names.{Variable, variable, variable_names, variables}
use Rattle.elab_model.specs.Terms.{NetBit, is_same_bit, net_bit, term_bits, terms_bits, pairs, path_pairs}
use Rattle.specify_model.specs.Blocks.{items_of_item, specify_items, specify_paths, path_of_item, parameters, pulses, style_texts}
use Rattle.specify_model.specs.Faults.{is_no, term_faults, port_faults, end_faults, path_faults, parameter_faults, pulse_faults, style_faults, specify_faults}
use Rattle.specify_model.specs.Outputs.{first_paths, output_of, measure, path_outputs}
use Rattle.specify_model.specs.Paths.{PathTo, path_between, paths_of, module_paths}
use Rattle.specify_model.specs.PulseLimits.{Limits, limits_of}
use Rattle.specify_model.specs.Values.{Measure, Values, value_of}
use Rattle.elab_laws.proofs.Ends.{path_ends-first}
use Rattle.elab_laws.proofs.Lists.{all-anyway, all-append, all-flat, all-map, all-weaker}
use Rattle.elab_laws.proofs.NoFaults.{front, back, flat-empty}

pub mapped-twice : {A B C : Type 0} (f : A → B) (g : B → C) (xs : List A) → map g (map f xs) ≡ map (λ x. g (f x)) xs
mapped-twice f g [] = refl
mapped-twice f g (x ∷ xs) = ap (λ ys. g (f x) ∷ ys) (mapped-twice f g xs)

-- ---- the first paths, and the bits to which they lead

abbrev lead-to : List PathTo → List NetBit
lead-to ps = map (λ p. p.output) ps

first-lead : (seen : List NetBit) (ps : List PathTo) → lead-to (first_paths seen ps) ≡ first_bits seen (lead-to ps)
first-lead seen [] = refl
first-lead seen (p ∷ ps) = by (list_any (is_same_bit p.output) seen) (first-lead seen ps) (first-lead (p.output ∷ seen) ps)
  where
    by : (b : Bool) → lead-to (first_paths seen ps) ≡ first_bits seen (lead-to ps) → lead-to (first_paths (p.output ∷ seen) ps) ≡ first_bits (p.output ∷ seen) (lead-to ps)
        → lead-to (if b then first_paths seen ps else p ∷ first_paths (p.output ∷ seen) ps) ≡ (if b then first_bits seen (lead-to ps) else p.output ∷ first_bits (p.output ∷ seen) (lead-to ps))
    by true h g = h
    by false h g = ap (λ bs. p.output ∷ bs) g

-- ---- the bits of a path

abbrev path-bits : Module → SpecifyPath → List NetBit
path-bits m p = map (λ e. e.1) (path_pairs (variables m) p)

abbrev is-end : Module → NetBit → Bool
is-end m b = is_output (variable m b.name).port

abbrev IsEnd : Module → NetBit → Type 0
IsEnd m b = is-end m b ≡ true

zip-seconds : {A B : Type 0} (P : B → Type 0) (xs : List A) (ys : List B) → AllByRecursion P ys → AllByRecursion P (map (λ e. e.1) (zip xs ys))
zip-seconds P [] ys h = tt
zip-seconds P (x ∷ xs) [] h = tt
zip-seconds P (x ∷ xs) (y ∷ ys) h = (h.0, zip-seconds P xs ys h.1)

-- what holds of the bits on the right holds where paths lead
pairs-seconds : (P : NetBit → Type 0) (a : Arrow) (xs ys : List NetBit) → AllByRecursion P ys → AllByRecursion P (map (λ e. e.1) (pairs a xs ys))
pairs-seconds P Parallel xs ys h = zip-seconds P xs ys h
pairs-seconds P Full xs ys h =
    all-map P (λ e. e.1) (flat_map (λ x. map (λ y. (x, y)) ys) xs) (all-flat (λ e. P e.1) (λ x. map (λ y. (x, y)) ys) xs (λ x. all-map (λ e. P e.1) (λ y. (x, y)) ys h))

-- ---- without fault they are bits of output ports

no-fault : (b : Bool) (k : ElabKind) (p : Place) → fault_if b k p ≡ [] → b ≡ false
no-fault true k p h = cc
no-fault false k p h = refl

not-false : (b : Bool) → not b ≡ false → b ≡ true
not-false true h = refl
not-false false h = cc

abbrev bit-of : List ℕ → ℕ → NetBit
bit-of n p = record { name = n; position = p }

module _ (P : NetBit → Type 0) (n : List ℕ) (each : (p : ℕ) → P (bit-of n p)) where
  all-nets : (ps : List ℕ) → AllByRecursion P (filter_map net_bit (map (net n) ps))
  all-nets [] = tt
  all-nets (p ∷ ps) = (each p, all-nets ps)

  all-between : (a b : Option ℕ) → AllByRecursion P (filter_map net_bit (bits_between n a b))
  all-between None b = tt
  all-between (Some p) None = tt
  all-between (Some p) (Some q) = all-nets (positions_between p q)

  all-selected : (r : Option Range) (s : Select) → AllByRecursion P (filter_map net_bit (select_bits n r s))
  all-selected r (select.Bit i) = all-between (position_at r i) (position_at r i)
  all-selected r (select.Part left right) = all-between (position_at r left) (position_at r right)

-- what is found of a name is what the module says of it
found-own : (m : Module) (n : List ℕ) (ns : List (List ℕ)) (v : Variable) → variable_named (map (variable m) ns) n ≡ Some v → v ≡ variable m n
found-own m n [] v h = cc
found-own m n (k ∷ ns) v h = by (bytes_eq n k) refl h (found-own m n ns v)
  where
    by : (b : Bool) → bytes_eq n k ≡ b → cond b (Some (variable m k)) (variable_named (map (variable m) ns) n) ≡ Some v
        → (variable_named (map (variable m) ns) n ≡ Some v → v ≡ variable m n) → v ≡ variable m n
    by true e f later = let same : variable m k ≡ v = cc in sym same ∙ ap (variable m) (sym ((bytes_eq-Decides n k).0 e))
    by false e f later = later f

term-ends : (m : Module) (t : Term) → is_no is_output (variable_named (variables m) t.name.text) ≡ false → AllByRecursion (IsEnd m) (term_bits (variables m) t)
term-ends m t h = subst (λ bs. AllByRecursion (IsEnd m) (filter_map net_bit bs)) (sym (append-nil (leaf_bits vs (leaf_of t.name t.select)))) (by t.select (variable_named vs n) refl h)
  where
    vs : List Variable
    vs = variables m

    n : List ℕ
    n = t.name.text

    own : (v : Variable) → variable_named vs n ≡ Some v → not (is_output v.port) ≡ false → is_output (variable m n).port ≡ true
    own v e g = subst (λ w. is_output w.port ≡ true) (found-own m n (variable_names m) v e) (not-false (is_output v.port) g)

    by : (s : Option Select) (o : Option Variable) → variable_named vs n ≡ o → is_no is_output o ≡ false → AllByRecursion (IsEnd m) (filter_map net_bit (leaf_bits vs (leaf_of t.name s)))
    by None None e g = rw e tt
    by None (Some v) e g = rw e (all-nets (IsEnd m) n (λ p. own v e g) (positions v.range))
    by (Some s) None e g = rw e tt
    by (Some s) (Some v) e g = rw e (all-selected (IsEnd m) n (λ p. own v e g) v.range s)

terms-ends : (m : Module) (ts : List Term) → flat_map (port_faults is_output (variables m)) ts ≡ [] → AllByRecursion (IsEnd m) (terms_bits (variables m) ts)
terms-ends m [] h = tt
terms-ends m (t ∷ ts) h =
    let vs = variables m in
    let no = is_no is_output (variable_named vs t.name.text) in
    let own : port_faults is_output vs t ≡ [] = front (port_faults is_output vs t) (flat_map (port_faults is_output vs) ts) h in
    all-append (IsEnd m) (term_bits vs t) (terms_bits vs ts) (term-ends m t (no-fault no BadTerminal t.name.place (back (term_faults vs t) (fault_if no BadTerminal t.name.place) own)))
    (terms-ends m ts (back (port_faults is_output vs t) (flat_map (port_faults is_output vs) ts) h))

filter-all : {A : Type 0} (test : A → Bool) (xs : List A) → AllByRecursion (λ x. test x ≡ true) xs → filter test xs ≡ xs
filter-all test [] h = refl
filter-all test (x ∷ xs) h = ap (λ b. cond b (x ∷ filter test xs) (filter test xs)) h.0 ∙ ap (λ ys. x ∷ ys) (filter-all test xs h.1)

path-ends : (by : Measure) (m : Module) (values : Values) (p : SpecifyPath) → path_faults by (variables m) values p ≡ [] → ends m (path p) ≡ path-bits m p
path-ends by m values p h =
    let vs = variables m in
    let outputs = flat_map (port_faults is_output vs) p.destination.terms in
    let none : outputs ≡ [] = back (flat_map (port_faults is_input vs) p.sources) outputs (front (end_faults vs p) _ h) in
    filter-all (is-end m) (path-bits m p) (pairs-seconds (IsEnd m) p.arrow (terms_bits vs p.sources) (terms_bits vs p.destination.terms) (terms-ends m p.destination.terms none))

-- ---- all paths of a module

pub map-flat : {A B C : Type 0} (f : B → C) (g : A → List B) (xs : List A) → map f (flat_map g xs) ≡ flat_map (λ x. map f (g x)) xs
map-flat f g [] = refl
map-flat f g (x ∷ xs) = map-append f (g x) (flat_map g xs) ∙ ap (λ ys. map f (g x) ++ ys) (map-flat f g xs)

pub flat-same : {A B : Type 0} (f g : A → List B) (xs : List A) → AllByRecursion (λ x. f x ≡ g x) xs → flat_map f xs ≡ flat_map g xs
flat-same f g [] h = refl
flat-same f g (x ∷ xs) h = ap (λ ys. ys ++ flat_map f xs) h.0 ∙ ap (λ ys. g x ++ ys) (flat-same f g xs h.1)

-- the members of a module that are paths are the paths of its blocks
module _ (m : Module) where
  abbrev path-end : SpecifyPath → List NetBit
  path-end p = ends m (path p)

  assigned-none : (ns : List NetName) → flat_map (ends m) (filter_map (λ n. assignment_to n.name n.value) ns) ≡ []
  assigned-none [] = refl
  assigned-none (n ∷ ns) = by n.value (assigned-none ns)
    where
      by : (o : Option Expression) → flat_map (ends m) (filter_map (λ n. assignment_to n.name n.value) ns) ≡ []
          → flat_map (ends m) (cons_option (assignment_to n.name o) (filter_map (λ n. assignment_to n.name n.value) ns)) ≡ []
      by None rest = rest
      by (Some e) rest = rest

  mapped-none : {A : Type 0} (f : A → Member) → ((x : A) → ends m (f x) ≡ []) → (xs : List A) → flat_map (ends m) (map f xs) ≡ []
  mapped-none f h [] = refl
  mapped-none f h (x ∷ xs) = ap (λ bs. bs ++ flat_map (ends m) (map f xs)) (h x) ∙ mapped-none f h xs

  block-ends : (items : List SpecifyItem) → flat_map (ends m) (filter_map member_of_item items) ≡ flat_map path-end (specify_paths items)
  block-ends [] = refl
  block-ends (specparams p ps ∷ items) = block-ends items
  block-ends (a_path p ∷ items) = ap (λ bs. ends m (path p) ++ bs) (block-ends items)
  block-ends (pulse_style p s ts ∷ items) = block-ends items
  block-ends (a_check c ∷ items) = block-ends items

  item-ends : (i : Item) → flat_map (ends m) (members_of_item i) ≡ flat_map path-end (specify_paths (items_of_item i))
  item-ends (ports p d t r ns) = refl
  item-ends (nets p t r ns) = assigned-none ns
  item-ends (supplies p s r ns) = mapped-none (λ n. supply n (supply_value s)) (λ n. refl) ns
  item-ends (registers p ns) = refl
  item-ends (assigns p js) = mapped-none assignment (λ j. refl) js
  item-ends (gates p g d is) = mapped-none (gate g d) (λ i. refl) is
  item-ends (instances n d is) = mapped-none (instance n d) (λ i. refl) is
  item-ends (specify_block b) = block-ends b.items

  all-items : (is : List Item) → flat_map (ends m) (flat_map members_of_item is) ≡ flat_map path-end (specify_paths (flat_map items_of_item is))
  all-items [] = refl
  all-items (i ∷ is) =
      flat_map-append (ends m) (members_of_item i) (flat_map members_of_item is)
      ∙ ap (λ bs. bs ++ flat_map (ends m) (flat_map members_of_item is)) (item-ends i)
      ∙ ap (λ bs. flat_map path-end (specify_paths (items_of_item i)) ++ bs) (all-items is)
      ∙ sym (ap (flat_map path-end) (filter_map-append path_of_item (items_of_item i) (flat_map items_of_item is))
      ∙ flat_map-append path-end (specify_paths (items_of_item i)) (specify_paths (flat_map items_of_item is)))

module-leads : (by : Measure) (vs : List Variable) (items : List SpecifyItem) → lead-to (module_paths by vs items) ≡ flat_map (λ p. map (λ e. e.1) (path_pairs vs p)) (specify_paths items)
module-leads by vs items = map-flat (λ p. p.output) (paths_of by vs values limits) (specify_paths items) ∙ flat-same _ _ (specify_paths items) (all-anyway _ (specify_paths items) each)
  where
    values : Values
    values = value_of (parameters items)

    limits : Limits
    limits = limits_of by vs (pulses items)

    each : (p : SpecifyPath) → map (λ p. p.output) (paths_of by vs values limits p) ≡ map (λ e. e.1) (path_pairs vs p)
    each p = mapped-twice (path_between by vs values limits p) (λ p. p.output) (path_pairs vs p)

-- where no block has a fault, the output bits with paths are the ends
pub outputs-are_ends : (corner : Corner) (tick : ℤ) (m : Module) → specify_faults corner tick m ≡ [] → map (λ o. o.output) (path_outputs corner tick m) ≡ path_ends m
outputs-are_ends corner tick m h =
    let by = measure corner tick m in
    let vs = variables m in
    let items = specify_items m in
    let values = value_of (parameters items) in
    let twice = parameter_faults (parameters items) in
    let pulsed = flat_map (pulse_faults by vs) (pulses items) in
    let paths = flat_map (path_faults by vs values) (specify_paths items) in
    let styles = flat_map (style_faults vs) (style_texts items) in
    let none : paths ≡ [] = front paths styles (back pulsed (paths ++ styles) (back twice (pulsed ++ (paths ++ styles)) h)) in
    let same : flat_map (path-end m) (specify_paths items) ≡ flat_map (path-bits m) (specify_paths items) =
    flat-same (path-end m) (path-bits m) (specify_paths items)
    (all-weaker (λ p. path_faults by vs values p ≡ []) (λ p. path-end m p ≡ path-bits m p) (specify_paths items) (λ p e. path-ends by m values p e)
    (flat-empty (path_faults by vs values) (specify_paths items) none)) in
    let ps = module_paths by vs items in
    mapped-twice (output_of vs (style_texts items) ps) (λ o. o.output) (first_paths [] ps)
    ∙ first-lead [] ps
    ∙ ap (first_bits []) (module-leads by vs items ∙ sym same ∙ sym (all-items m m.items))
    ∙ sym (path_ends-first m)
