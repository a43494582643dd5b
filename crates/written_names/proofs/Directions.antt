-- Where a module's declarations have no fault, each of its ports has a direction; and a module with paths has no child.
use Rattle.std.specs.Prelude.{◌≡◌, ◌⊎◌, ℕ, ℤ, ◌||◌, List, [], ◌∷◌, Bool, true, false, not, Some, bytes_eq, cond, filter_map, find, flat_map, if◌then◌else◌, map, refl}
use Rattle.std.proofs.Common.{sym, ◌∙◌, ap, inl, inr, subst}
use Rattle.std.proofs.lemmas.Bool.{not-false}
use Rattle.std.proofs.lemmas.Slice.Eq.{bytes_eq-Decides}
use Rattle.sg_circuit.specs.declared.scopes.Port.{Port}
use Rattle.sg_circuit.specs.declared.scopes.Port.TheVariants as port
use Rattle.sg_delay.specs.declared.corners.Corner.{Corner}
use Rattle.vl_tree.specs.declared.names.Direction.{Direction}
use Rattle.vl_tree.specs.declared.names.Direction.TheVariants as direction
use Rattle.vl_tree.specs.Tree.{Named, PortDeclaration, Item, ports, nets, supplies, registers, assigns, gates, instances, specify_block, Module, Source}
use Rattle.elab_model.specs.declared.kinds.ElabKind.TheVariants.{BadTerminal, SpecifyInHierarchy}
use Rattle.elab_model.specs.Faults.{Fault, fault, fault_if, missing, texts_of}
use Rattle.elab_model.specs.Hierarchy.{children_in, is_empty}
use Rattle.elab_model.specs.ModuleFaults.{module_faults}
use Rattle.elab_model.specs.NameFaults.{declaration_faults, declared_ports, no_direction}
use Rattle.elab_model.specs.Names.{is_among, port_of, port_of_direction, variables}
use Rattle.elab_model.specs.Ports.{port_declarations, port_list}
use Rattle.specify_model.specs.Blocks.{block_of, blocks, items_of_item, specify_items}
use Rattle.specify_model.specs.Faults.{blocks_in_hierarchy}
use Rattle.specify_model.specs.Outputs.{PathOutput, measure, outputs_by, path_outputs}
use Rattle.elab_laws.proofs.ElementWidths.{no-fault}
use Rattle.elab_laws.proofs.Lists.{In}
use Rattle.elab_laws.proofs.NoFaults.{back, front, has-ports, map-empty}
use Rattle.written_names.proofs.OwnNets.{AreDirected}

-- ---- directions

listed-declared : (ns ds : List Named) (n : List ℕ) → missing BadTerminal ns ds ≡ [] → is_among n (texts_of ns) ≡ true → is_among n (texts_of ds) ≡ true
listed-declared [] ds n h among = cc
listed-declared (m ∷ ns) ds n h among = by (bytes_eq n m.text) refl among (listed-declared ns ds n (back here (missing BadTerminal ns ds) h))
  where
    here : List Fault
    here = fault_if (not (is_among m.text (texts_of ds))) BadTerminal m.place

    by : (b : Bool) → bytes_eq n m.text ≡ b → (b || is_among n (texts_of ns)) ≡ true → (is_among n (texts_of ns) ≡ true → is_among n (texts_of ds) ≡ true) → is_among n (texts_of ds) ≡ true
    by true e k later =
        let own : is_among m.text (texts_of ds) ≡ true =
        not-false (is_among m.text (texts_of ds)) (no-fault (not (is_among m.text (texts_of ds))) BadTerminal m.place (front here (missing BadTerminal ns ds) h)) in
        ap (λ n. is_among n (texts_of ds)) ((bytes_eq-Decides n m.text).0 e) ∙ own
    by false e k later = later k

abbrev IsDirected : Port → Type 0
IsDirected p = (p ≡ port.Input) ⊎ (p ≡ port.Output)

declared-directed : (n : List ℕ) (ds : List PortDeclaration) → is_among n (texts_of (map (λ d. d.name) ds)) ≡ true → IsDirected (port_of (find (λ d. bytes_eq n d.name.text) ds))
declared-directed n [] h = cc
declared-directed n (d ∷ ds) h = by (bytes_eq n d.name.text) h (declared-directed n ds)
  where
    written : (d : Direction) → IsDirected (port_of_direction d)
    written direction.Input = inl refl
    written direction.Output = inr refl

    by : (b : Bool) → (b || is_among n (texts_of (map (λ d. d.name) ds))) ≡ true → (is_among n (texts_of (map (λ d. d.name) ds)) ≡ true → IsDirected (port_of (find (λ d. bytes_eq n d.name.text) ds)))
        → IsDirected (port_of (cond b (Some d) (find (λ d. bytes_eq n d.name.text) ds)))
    by true k later = written d.direction
    by false k later = later k

pub ports-directed : (source : Source) (corner : Corner) (tick : ℤ) (m : Module) → module_faults source corner tick m ≡ [] → AreDirected m
ports-directed source corner tick m h n among =
    let directed : no_direction m ≡ [] = (has-ports m (front (declaration_faults m) _ h)).directed in
    let found = declared-directed n (port_declarations m) (listed-declared (port_list m) (declared_ports m) n directed among) in
    subst (λ b. IsDirected (if b then port_of (find (λ d. bytes_eq n d.name.text) (port_declarations m)) else port.Inner)) (sym among) found

-- ---- modules with paths

no-items : (is : List Item) → filter_map block_of is ≡ [] → flat_map items_of_item is ≡ []
no-items [] h = refl
no-items (ports p d t r ns ∷ is) h = no-items is h
no-items (nets p t r ns ∷ is) h = no-items is h
no-items (supplies p s r ns ∷ is) h = no-items is h
no-items (registers p ns ∷ is) h = no-items is h
no-items (assigns p js ∷ is) h = no-items is h
no-items (gates p g d xs ∷ is) h = no-items is h
no-items (instances n d xs ∷ is) h = no-items is h
no-items (specify_block b ∷ is) h = cc

pub lone-with_paths : (source : Source) (corner : Corner) (tick : ℤ) (m : Module) (o : PathOutput) → map (fault SpecifyInHierarchy) (blocks_in_hierarchy source m) ≡ [] → In o (path_outputs corner tick m)
    → is_empty (children_in source m) ≡ true
lone-with_paths source corner tick m o h there = by (is_empty (children_in source m)) (map-empty (fault SpecifyInHierarchy) (blocks_in_hierarchy source m) h)
  where
    by : (b : Bool) → (if b then [] else map (λ b. b.place) (blocks m)) ≡ [] → b ≡ true
    by true g = refl
    by false g =
        let items : specify_items m ≡ [] = no-items m.items (map-empty (λ b. b.place) (blocks m) g) in
        absurd (subst (In o) (ap (outputs_by (measure corner tick m) (variables m)) items) there)
