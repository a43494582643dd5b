-- What no faults say of what is connected to a module's ports: the port is there, and as wide.
use Rattle.std.specs.Prelude.{◌≡◌, ℕ, ◌<◌, List, [], ◌∷◌, Bool, true, false, ◌||◌, not, nat_lt, Option, Some, None, cond, find, length, map, flat_map, filter_map, zip, refl, if◌then◌else◌, bytes_eq}
use Rattle.std.specs.List.{AllByRecursion, cons_option}
use Rattle.std.proofs.Common.{sym, ◌∙◌, ap, inl, inr, subst}
use Rattle.std.proofs.lemmas.Bool.{not-false}
use Rattle.std.proofs.lemmas.Slice.Eq.{bytes_eq-Decides}
use Rattle.sg_circuit.specs.Closed.{width_of}
use Rattle.sg_circuit.specs.declared.scopes.Port.{Port}
use Rattle.sg_circuit.specs.declared.scopes.Port.TheVariants as port
use Rattle.sg_text.specs.declared.places.Place.{Place}
use Rattle.vl_tree.specs.declared.names.Direction.{Direction}
use Rattle.vl_tree.specs.declared.names.Direction.TheVariants as direction
use Rattle.vl_tree.specs.Tree.{Named, Expression, Connections, by_order, by_name, PortDeclaration, Module}
use Rattle.elab_model.specs.declared.kinds.ElabKind.TheVariants.{UnknownName, BadTerminal}
use Rattle.elab_model.specs.Members.{connection_values}
use Rattle.elab_model.specs.Ports.{port_list, port_names, port_declarations}
use Rattle.elab_model.specs.Names.{Variable, variable, variables, variable_names, is_among, first_of_each, port_of, port_of_direction}
use Rattle.elab_model.specs.Bits.{bits}
use Rattle.elab_model.specs.Connections.{with_port, port_values}
use Rattle.elab_model.specs.Faults.{Fault, fault_if, texts_of, missing, duplicates}
use Rattle.elab_model.specs.NameFaults.{declared_ports, no_direction}
use Rattle.elab_model.specs.TerminalFaults.{expression_faults, width_faults, constant_faults}
use Rattle.elab_model.specs.ModuleFaults.{directed_faults, value_faults, port_faults, connection_faults}
use Rattle.elab_laws.proofs.Lists.{In, in-left, in-map, all-in, all-from}
use Rattle.elab_laws.proofs.Places.{HasBit}
use Rattle.elab_laws.proofs.Apart.{variables-apart}
use Rattle.elab_laws.proofs.Once.{all-kept}
use Rattle.elab_laws.proofs.NoFaults.{front, back, flat-empty}
use Rattle.elab_laws.proofs.Stated.{found-own}
use Rattle.elab_laws.proofs.ElementWidths.{no-fault, width-is}

-- what is connected to a port: the port is one of the module's, and the expression as wide
pub record FitsPort (vs : List Variable) (m : Module) (y : List ℕ × Expression) : Type 0 where
  pub named : is_among y.0 (port_names m) ≡ true
  pub wide : length (bits vs y.1) ≡ width_of (variable m y.0).range

abbrev HasSound : List Variable → Option Expression → Type 0
HasSound vs None = Unit {0}
HasSound vs (Some e) = expression_faults vs e ≡ []

-- a port of the list has a direction
abbrev IsDirected : Port → Type 0
IsDirected port.Input = Unit {0}
IsDirected port.Output = Unit {0}
IsDirected port.Inner = ⊥

listed-declared : (ns ds : List Named) (n : List ℕ) → missing BadTerminal ns ds ≡ [] → is_among n (texts_of ns) ≡ true → is_among n (texts_of ds) ≡ true
listed-declared [] ds n h among = cc
listed-declared (m ∷ ns) ds n h among = by (bytes_eq n m.text) refl among (listed-declared ns ds n (back here (missing BadTerminal ns ds) h))
  where
    here : List Fault
    here = fault_if (not (is_among m.text (texts_of ds))) BadTerminal m.place

    by : (b : Bool) → bytes_eq n m.text ≡ b → (b || is_among n (texts_of ns)) ≡ true → (is_among n (texts_of ns) ≡ true → is_among n (texts_of ds) ≡ true) → is_among n (texts_of ds) ≡ true
    by true e k later =
        let own : is_among m.text (texts_of ds) ≡ true =
        not-false (is_among m.text (texts_of ds)) (no-fault (not (is_among m.text (texts_of ds))) BadTerminal m.place (front here (missing BadTerminal ns ds) h)) in
        ap (λ n. is_among n (texts_of ds)) ((bytes_eq-Decides n m.text).0 e) ∙ own
    by false e k later = later k

declared-directed : (n : List ℕ) (ds : List PortDeclaration) → is_among n (texts_of (map (λ d. d.name) ds)) ≡ true → IsDirected (port_of (find (λ d. bytes_eq n d.name.text) ds))
declared-directed n [] h = cc
declared-directed n (d ∷ ds) h = by (bytes_eq n d.name.text) h (declared-directed n ds)
  where
    written : (d : Direction) → IsDirected (port_of_direction d)
    written direction.Input = tt
    written direction.Output = tt

    by : (b : Bool) → (b || is_among n (texts_of (map (λ d. d.name) ds))) ≡ true → (is_among n (texts_of (map (λ d. d.name) ds)) ≡ true → IsDirected (port_of (find (λ d. bytes_eq n d.name.text) ds)))
        → IsDirected (port_of (cond b (Some d) (find (λ d. bytes_eq n d.name.text) ds)))
    by true k later = written d.direction
    by false k later = later k

port-directed : (m : Module) → no_direction m ≡ [] → (n : List ℕ) → is_among n (port_names m) ≡ true → IsDirected (variable m n).port
port-directed m h n among =
    let found = declared-directed n (port_declarations m) (listed-declared (port_list m) (declared_ports m) n h among) in
    subst (λ b. IsDirected (if b then port_of (find (λ d. bytes_eq n d.name.text) (port_declarations m)) else port.Inner)) (sym among) found

directed-wide : (vs : List Variable) (p : Port) (w : ℕ) (e : Expression) → IsDirected p → directed_faults vs p w e ≡ [] → width_faults vs w e ≡ []
directed-wide vs port.Input w e directed h = h
directed-wide vs port.Output w e directed h = front (width_faults vs w e) (constant_faults vs e) h
directed-wide vs port.Inner w e directed h = absurd directed

fits : (vs : List Variable) (m : Module) → no_direction m ≡ [] → (n : Named) (o : Option Expression) → port_faults vs m n o ≡ [] → HasSound vs o
    → (y : List ℕ × Expression) → with_port n.text o ≡ Some y → FitsPort vs m y
fits vs m directions n None h sound y g = cc
fits vs m directions n (Some e) h sound y g =
    let s : (n.text, e) ≡ y = cc in
    let v = variable m n.text in
    let unknown = fault_if (not (is_among n.text (port_names m))) UnknownName n.place in
    let named = not-false (is_among n.text (port_names m)) (no-fault (not (is_among n.text (port_names m))) UnknownName n.place (front unknown (value_faults vs v (Some e)) h)) in
    let w = directed-wide vs v.port (width_of v.range) e (port-directed m directions n.text named) (back unknown (value_faults vs v (Some e)) h) in
    subst (FitsPort vs m) s (record { named = named; wide = width-is vs (width_of v.range) e sound w })

-- expressions that are kept have no faults
each-sound : {A : Type 0} (vs : List Variable) (f : A → Option Expression) (xs : List A) → flat_map (expression_faults vs) (filter_map f xs) ≡ [] → AllByRecursion (λ x. HasSound vs (f x)) xs
each-sound vs f [] h = tt
each-sound {A} vs f (x ∷ xs) h = by (f x) h (each-sound vs f xs)
  where
    by : (o : Option Expression) → flat_map (expression_faults vs) (cons_option o (filter_map f xs)) ≡ []
        → (flat_map (expression_faults vs) (filter_map f xs) ≡ [] → AllByRecursion (λ x. HasSound vs (f x)) xs) → HasSound vs o × AllByRecursion (λ x. HasSound vs (f x)) xs
    by None h rest = (tt, rest h)
    by (Some e) h rest = (front (expression_faults vs e) (flat_map (expression_faults vs) (filter_map f xs)) h, rest (back (expression_faults vs e) (flat_map (expression_faults vs) (filter_map f xs)) h))

zip-second : {A B : Type 0} (P : B → Type 0) (xs : List A) (ys : List B) → AllByRecursion P ys → AllByRecursion (λ x. P x.1) (zip xs ys)
zip-second P [] ys h = tt
zip-second P (x ∷ xs) [] h = tt
zip-second P (x ∷ xs) (y ∷ ys) h = (h.0, zip-second P xs ys h.1)

pub values-fit : (vs : List Variable) (m : Module) → no_direction m ≡ [] → (p : Place) (x : Connections) → connection_faults vs m p x ≡ [] → flat_map (expression_faults vs) (connection_values x) ≡ []
    → AllByRecursion (FitsPort vs m) (port_values x (port_list m))
values-fit vs m directions p (by_order es) h sound =
    let xs = zip (port_list m) es in
    let each = flat-empty (λ x. port_faults vs m x.0 x.1) xs
    (back (fault_if (nat_lt (length (port_list m)) (length es)) BadTerminal p) (flat_map (λ x. port_faults vs m x.0 x.1) xs) h) in
    let sounds = zip-second (HasSound vs) (port_list m) es (each-sound vs (λ e. e) es sound) in
    all-kept (FitsPort vs m) (λ x. with_port x.0.text x.1) xs
    (all-from (λ x. (y : List ℕ × Expression) → with_port x.0.text x.1 ≡ Some y → FitsPort vs m y) xs
    (λ x i. fits vs m directions x.0 x.1 (all-in (λ x. port_faults vs m x.0 x.1 ≡ []) x xs each i) (all-in (λ x. HasSound vs x.1) x xs sounds i)))
values-fit vs m directions p (by_name cs) h sound =
    let each = flat-empty (λ c. port_faults vs m c.port c.value) cs
    (back (duplicates (map (λ c. c.port) cs)) (flat_map (λ c. port_faults vs m c.port c.value) cs) h) in
    let sounds = each-sound vs (λ c. c.value) cs sound in
    all-kept (FitsPort vs m) (λ c. with_port c.port.text c.value) cs
    (all-from (λ c. (y : List ℕ × Expression) → with_port c.port.text c.value ≡ Some y → FitsPort vs m y) cs
    (λ c i. fits vs m directions c.port c.value (all-in (λ c. port_faults vs m c.port c.value ≡ []) c cs each i) (all-in (λ c. HasSound vs c.value) c cs sounds i)))

-- ---- a port is a variable

among-in : (n : List ℕ) (ns : List (List ℕ)) → is_among n ns ≡ true → In n ns
among-in n [] h = cc
among-in n (m ∷ ns) h = by (bytes_eq n m) refl h (among-in n ns)
  where
    by : (b : Bool) → bytes_eq n m ≡ b → (b || is_among n ns) ≡ true → (is_among n ns ≡ true → In n ns) → In n (m ∷ ns)
    by true e h rest = inl ((bytes_eq-Decides n m).0 e)
    by false e h rest = inr (rest h)

in-first : (n : List ℕ) (seen ns : List (List ℕ)) → In n ns → is_among n seen ≡ false → In n (first_of_each seen ns)
in-first n seen [] h new = absurd h
in-first n seen (m ∷ ns) h new = by (is_among m seen) refl h (λ k. in-first n seen ns k new) (in-first n (m ∷ seen) ns)
  where
    later : (b : Bool) → bytes_eq n m ≡ b → In n ns → (In n ns → (b || is_among n seen) ≡ false → In n (first_of_each (m ∷ seen) ns)) → In n (m ∷ first_of_each (m ∷ seen) ns)
    later true e k rest = inl ((bytes_eq-Decides n m).0 e)
    later false e k rest = inr (rest k new)

    by : (b : Bool) → is_among m seen ≡ b → In n (m ∷ ns) → (In n ns → In n (first_of_each seen ns)) → (In n ns → is_among n (m ∷ seen) ≡ false → In n (first_of_each (m ∷ seen) ns))
        → In n (if b then first_of_each seen ns else m ∷ first_of_each (m ∷ seen) ns)
    by true e (inl g) rest next = let t : is_among n seen ≡ true = ap (λ k. is_among k seen) g ∙ e in let f : true ≡ false = sym t ∙ new in cc
    by true e (inr k) rest next = rest k
    by false e (inl g) rest next = inl g
    by false e (inr k) rest next = later (bytes_eq n m) refl k next

pub port-bit : (m : Module) (n : List ℕ) (p : ℕ) → is_among n (port_names m) ≡ true → p < width_of (variable m n).range → HasBit (variables m) n p
port-bit m n p named lt =
    let name : In n (variable_names m) = in-first n [] _ (in-left n (port_names m) _ (among-in n (port_names m) named)) refl in
    record {
      variable = variable m n;
      found = found-own (variables m) (variables-apart m) (variable m n) (in-map (variable m) n (variable_names m) name);
      below = lt;
    }
