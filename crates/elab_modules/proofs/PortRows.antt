-- A port in the table of a module whose declarations have no fault: it is a variable that isn't inner.
use Rattle.std.specs.Prelude.{◌≡◌, ℕ, List, [], ◌∷◌, ◌++◌, Bool, true, false, ◌||◌, not, Option, Some, None, map, find, refl, if◌then◌else◌, bytes_eq}
use Rattle.std.proofs.Common.{sym, ◌∙◌, ap}
use Rattle.std.proofs.lemmas.Slice.Eq.{bytes_eq-Decides}
use Rattle.sg_circuit.specs.declared.scopes.Port.TheVariants as port
use Rattle.vl_tree.specs.declared.names.Direction.{Direction}
use Rattle.vl_tree.specs.declared.names.Direction.TheVariants as direction
use Rattle.vl_tree.specs.Tree.{Named, Module, PortDeclaration}
use Rattle.elab_model.specs.declared.kinds.ElabKind.TheVariants.{BadTerminal}
use Rattle.elab_model.specs.Faults.{fault_if, texts_of, missing}
use Rattle.elab_model.specs.NameFaults.{declaration_faults, name_faults, declared_ports, twice_in_list, two_directions, two_nets, two_instances, no_port, no_direction}
use Rattle.elab_model.specs.Ports.{port_list, port_names, port_declarations}
use Rattle.elab_model.specs.Names.{Variable, variable, variables, variable_names, is_among, first_of_each, port_of, port_of_direction}
use Rattle.elab_model.specs.Bits.{variable_named}
use Rattle.elab_laws.proofs.NoFaults.{front, back}
use Rattle.elab_variables.specs.Seen.{variable_at, place_named}
use Rattle.elab_variables.specs.declared.tables.Row.{Row}
use Rattle.elab_bits.proofs.NamedAt.{named-at, not-named}
use Rattle.elab_modules.specs.Telling.{is_port}
use Rattle.elab_modules.specs.Connecting.{IsPortRow}

-- ---- the variable of a name

-- what is found of a name among the variables of names
abbrev own : Module → List ℕ → Bool → Option Variable
own m n true = Some (variable m n)
own m n false = None

found-among : (m : Module) (n : List ℕ) (ns : List (List ℕ)) → find (λ v. bytes_eq n v.name) (map (variable m) ns) ≡ own m n (is_among n ns)
found-among m n [] = refl
found-among m n (k ∷ ns) = by (bytes_eq n k) refl (found-among m n ns)
  where
    by : (b : Bool) → bytes_eq n k ≡ b → find (λ v. bytes_eq n v.name) (map (variable m) ns) ≡ own m n (is_among n ns)
        → (if b then Some (variable m k) else find (λ v. bytes_eq n v.name) (map (variable m) ns)) ≡ own m n (b || is_among n ns)
    by true e h = ap (λ x. Some (variable m x)) (sym ((bytes_eq-Decides n k).0 e))
    by false e h = h

-- a name stays among those of which each stands once
first-keeps : (n : List ℕ) (seen ns : List (List ℕ)) → is_among n ns ≡ true → is_among n seen ≡ false → is_among n (first_of_each seen ns) ≡ true
first-keeps n seen [] h new = cc
first-keeps n seen (m ∷ ns) h new = by (is_among m seen) refl (bytes_eq n m) refl h (λ k. first-keeps n seen ns k new) (first-keeps n (m ∷ seen) ns)
  where
    by : (a : Bool) → is_among m seen ≡ a → (b : Bool) → bytes_eq n m ≡ b → (b || is_among n ns) ≡ true → (is_among n ns ≡ true → is_among n (first_of_each seen ns) ≡ true)
        → (is_among n ns ≡ true → (bytes_eq n m || is_among n seen) ≡ false → is_among n (first_of_each (m ∷ seen) ns) ≡ true)
        → is_among n (if a then first_of_each seen ns else m ∷ first_of_each (m ∷ seen) ns) ≡ true
    by true s true e g rest next =
        let is : n ≡ m = (bytes_eq-Decides n m).0 e in
        let t : is_among n seen ≡ true = ap (λ k. is_among k seen) is ∙ s in
        let f : true ≡ false = sym t ∙ new in cc
    by true s false e g rest next = rest g
    by false s true e g rest next = ap (λ b. b || is_among n (first_of_each (m ∷ seen) ns)) e
    by false s false e g rest next = ap (λ b. b || is_among n (first_of_each (m ∷ seen) ns)) e ∙ next g (ap (λ b. b || is_among n seen) e ∙ new)

among-front : (n : List ℕ) (ns ms : List (List ℕ)) → is_among n ns ≡ true → is_among n (ns ++ ms) ≡ true
among-front n [] ms h = cc
among-front n (k ∷ ns) ms h = by (bytes_eq n k) h (among-front n ns ms)
  where
    by : (b : Bool) → (b || is_among n ns) ≡ true → (is_among n ns ≡ true → is_among n (ns ++ ms) ≡ true) → (b || is_among n (ns ++ ms)) ≡ true
    by true h rest = refl
    by false h rest = rest h

pub port-named : (m : Module) (n : List ℕ) → is_among n (port_names m) ≡ true → variable_named (variables m) n ≡ Some (variable m n)
port-named m n h = found-among m n (variable_names m) ∙ ap (own m n) (first-keeps n [] _ (among-front n (port_names m) _ h) refl)

pub named-own : (m : Module) (n : List ℕ) (v : Variable) → variable_named (variables m) n ≡ Some v → v ≡ variable m n
named-own m n v e = by (is_among n (variable_names m)) (sym (found-among m n (variable_names m)) ∙ e)
  where
    by : (b : Bool) → own m n b ≡ Some v → v ≡ variable m n
    by true h = cc
    by false h = cc

-- ---- a port has a direction

declared : (n : List ℕ) (ns os : List Named) → missing BadTerminal ns os ≡ [] → is_among n (map (λ k. k.text) ns) ≡ true → is_among n (texts_of os) ≡ true
declared n [] os h g = cc
declared n (k ∷ ns) os h g =
    let f = fault_if (not (is_among k.text (texts_of os))) BadTerminal k.place in
    by (bytes_eq n k.text) refl g (here (is_among k.text (texts_of os)) refl (front f (missing BadTerminal ns os) h)) (declared n ns os (back f (missing BadTerminal ns os) h))
  where
    here : (b : Bool) → is_among k.text (texts_of os) ≡ b → fault_if (not b) BadTerminal k.place ≡ [] → is_among k.text (texts_of os) ≡ true
    here true e z = e
    here false e z = cc

    by : (b : Bool) → bytes_eq n k.text ≡ b → (b || is_among n (map (λ k. k.text) ns)) ≡ true → is_among k.text (texts_of os) ≡ true
        → (is_among n (map (λ k. k.text) ns) ≡ true → is_among n (texts_of os) ≡ true) → is_among n (texts_of os) ≡ true
    by true e z own rest = ap (λ t. is_among t (texts_of os)) ((bytes_eq-Decides n k.text).0 e) ∙ own
    by false e z own rest = rest z

direction-port : (d : Direction) → is_port (port_of_direction d) ≡ true
direction-port direction.Input = refl
direction-port direction.Output = refl

found-port : (n : List ℕ) (ds : List PortDeclaration) → is_among n (texts_of (map (λ d. d.name) ds)) ≡ true → is_port (port_of (find (λ d. bytes_eq n d.name.text) ds)) ≡ true
found-port n [] h = cc
found-port n (d ∷ ds) h = by (bytes_eq n d.name.text) h (found-port n ds)
  where
    by : (b : Bool) → (b || is_among n (texts_of (map (λ d. d.name) ds))) ≡ true
        → (is_among n (texts_of (map (λ d. d.name) ds)) ≡ true → is_port (port_of (find (λ d. bytes_eq n d.name.text) ds)) ≡ true)
        → is_port (port_of (if b then Some d else find (λ d. bytes_eq n d.name.text) ds)) ≡ true
    by true h rest = direction-port d.direction
    by false h rest = rest h

directed : (m : Module) → declaration_faults m ≡ [] → no_direction m ≡ []
directed m h =
    let five = no_direction m ++ [] in
    let four = no_port m ++ five in
    let three = two_instances m ++ four in
    let two = two_nets m ++ three in
    let one = two_directions m ++ two in
    front (no_direction m) [] (back (no_port m) five (back (two_instances m) four (back (two_nets m) three (back (two_directions m) two (back (twice_in_list m) one (front (name_faults m) _ h))))))

-- a name is a port exactly where its variable is one
pub port-is : (m : Module) (n : List ℕ) → declaration_faults m ≡ [] → is_port (variable m n).port ≡ is_among n (port_names m)
port-is m n h = by (is_among n (port_names m)) refl
  where
    by : (b : Bool) → is_among n (port_names m) ≡ b → is_port (if b then port_of (find (λ d. bytes_eq n d.name.text) (port_declarations m)) else port.Inner) ≡ b
    by true e = found-port n (port_declarations m) (declared n (port_list m) (declared_ports m) (directed m h) e)
    by false e = refl

-- ---- a row of the table

not-both : (b : Bool) → (b ≡ true → ⊥) → b ≡ false
not-both true h = absurd (h refl)
not-both false h = refl

pub none-named : (vs : List Variable) (m : Module) (n : List ℕ) → None ≡ place_named vs n → vs ≡ variables m → is_among n (port_names m) ≡ false
none-named vs m n e is =
    let f : variable_named (variables m) n ≡ None = ap (λ ws. variable_named ws n) (sym is) ∙ not-named vs n e in
    not-both (is_among n (port_names m)) (λ h. let g : Some (variable m n) ≡ None = sym (port-named m n h) ∙ f in cc)

row-own : (vs : List Variable) (m : Module) (n : List ℕ) (i : ℕ) → Some i ≡ place_named vs n → vs ≡ variables m → variable_at vs i ≡ variable m n
row-own vs m n i e is = named-own m n (variable_at vs i) (ap (λ ws. variable_named ws n) (sym is) ∙ (named-at vs n i e).found)

pub no-port : (vs : List Variable) (m : Module) (n : List ℕ) (i : ℕ) (r : Row) → Some i ≡ place_named vs n → vs ≡ variables m → declaration_faults m ≡ [] → r.port ≡ (variable_at vs i).port
    → is_port r.port ≡ false → is_among n (port_names m) ≡ false
no-port vs m n i r e is h p none = sym (port-is m n h) ∙ ap (λ v. is_port v.port) (sym (row-own vs m n i e is)) ∙ ap is_port (sym p) ∙ none

pub port-found : (vs : List Variable) (m : Module) (n : List ℕ) (i : ℕ) (r : Row) → Some i ≡ place_named vs n → vs ≡ variables m → declaration_faults m ≡ [] → r.port ≡ (variable_at vs i).port
    → r.range ≡ (variable_at vs i).range → is_port r.port ≡ true → IsPortRow m n (Some r)
port-found vs m n i r e is h p q some =
    let own = row-own vs m n i e is in
    (sym (port-is m n h) ∙ ap (λ v. is_port v.port) (sym own) ∙ ap is_port (sym p) ∙ some, (q ∙ ap (λ v. v.range) own, (p ∙ ap (λ v. v.port) own, some)))
