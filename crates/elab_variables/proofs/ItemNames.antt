-- The names that are used in an item, and in all items of a module.
use Rattle.std.specs.Prelude.{◌≡◌, ℕ, List, [], ◌∷◌, ◌++◌, true, false, Option, Some, None, map, flat_map, filter_map, refl}
use Rattle.std.specs.Borrow.{Bor}
use Rattle.std.specs.List.{cons_option}
use Rattle.std.specs.Option.{option_map}
use Rattle.std.proofs.Common.{sym, ◌∙◌, ap, Vec, Global}
use Rattle.std.proofs.lemmas.List.{append-nil}
use Rattle.std.proofs.lemmas.List.Concat.{flat_map-append}
use Rattle.std.proofs.lemmas.List.Folds.{flat_map-map}
use Rattle.sg_logic.specs.declared.gates.GateKind.{GateKind}
use Rattle.sg_logic.specs.declared.values.Value.{Value}
use Rattle.sg_text.specs.declared.places.Place.{Place}
use Rattle.vl_tree.specs.declared.expressions.Delay as code_delay
use Rattle.vl_tree.specs.declared.items.GateInstance as code_gate
use Rattle.vl_tree.specs.declared.items.Instance as code_instance
use Rattle.vl_tree.specs.declared.items.Item as code_item
use Rattle.vl_tree.specs.declared.items.Item.TheVariants as item
use Rattle.vl_tree.specs.declared.items.Join as code_join
use Rattle.vl_tree.specs.declared.items.NetName as code_net
use Rattle.vl_tree.specs.declared.modules.Module as code_module
use Rattle.vl_tree.specs.declared.names.Name as code_name
use Rattle.vl_tree.specs.declared.names.NetType.{NetType}
use Rattle.vl_tree.specs.declared.names.Range.{Range}
use Rattle.vl_tree.specs.declared.specify.SpecifyBlock as code_block
use Rattle.vl_tree.specs.declared.specify.SpecifyItem as code_specify_item
use Rattle.vl_tree.specs.Seen.{view_name, view_expression, view_delay, view_net_name, view_join, view_gate_instance, view_instance, view_specify_item, view_item, view_module}
use Rattle.vl_tree.specs.Tree.{Named, Expression, signal, NetName, Join, SpecifyItem, specparams, a_path, pulse_style, a_check}
use Rattle.elab_model.specs.Members.{assignment, supply, gate, instance, check, assignment_to, listed, connection_values, member_of_item, members_of_item}
use Rattle.elab_model.specs.Names.{variable_names, whole_names}
use Rattle.elab_model.specs.Ports.{port_list, net_declarations}
use Rattle.elab_declared.specs.declared.nets.NetDeclaration as code_declaration
use Rattle.elab_declared.specs.Words.{view_net}
use Rattle.elab_variables.specs.Naming.{key_texts, with_names, names_in, names_at_net, names_listed, names_of_member, names_of_specify, names_where}
use Rattle.elab_variables.proofs.WithNames.{with-none, with-both, all-new}

of-nets : (ns : List NetName) → flat_map names_of_member (filter_map (λ n. assignment_to n.name n.value) ns) ≡ flat_map (λ n. names_at_net n.name.text n.value) ns
of-nets [] = refl
of-nets (n ∷ ns) = by n.name n.value (of-nets ns)
  where
    by : (m : Named) (e : Option Expression) → flat_map names_of_member (filter_map (λ n. assignment_to n.name n.value) ns) ≡ flat_map (λ n. names_at_net n.name.text n.value) ns
        → flat_map names_of_member (cons_option (assignment_to m e) (filter_map (λ n. assignment_to n.name n.value) ns)) ≡ names_at_net m.text e ++ flat_map (λ n. names_at_net n.name.text n.value) ns
    by m None h = h
    by m (Some e) h = ap (λ xs. m.text ∷ (xs ++ flat_map names_of_member (filter_map (λ n. assignment_to n.name n.value) ns))) (append-nil (names_in e)) ∙ ap (λ xs. m.text ∷ (names_in e ++ xs)) h

of-supplies : (v : Value) (ns : List Named) → flat_map names_of_member (map (λ n. supply n v) ns) ≡ []
of-supplies v [] = refl
of-supplies v (n ∷ ns) = of-supplies v ns

of-joins : (js : List Join) → flat_map names_of_member (map assignment js) ≡ flat_map (λ j. names_of_member (assignment j)) js
of-joins js = flat_map-map names_of_member assignment js

-- ---- one item

-- what was added is what the item names
as-item : (known after : List (List ℕ)) (x v : code_item.Item) (names : List (List ℕ)) → x ≡ v → flat_map names_of_member (members_of_item (view_item v)) ≡ names → after ≡ with_names known names
    → after ≡ with_names known (flat_map names_of_member (members_of_item (view_item x)))
as-item known after x v names is e h = h ∙ ap (with_names known) (sym e) ∙ ap (λ i. with_names known (flat_map names_of_member (members_of_item (view_item i)))) (sym is)

pub unnamed : (known : List (List ℕ)) (x v : code_item.Item) → x ≡ v → flat_map names_of_member (members_of_item (view_item v)) ≡ []
    → known ≡ with_names known (flat_map names_of_member (members_of_item (view_item x)))
unnamed known x v is e = as-item known known x v [] is e (with-none known)

pub supplies-unnamed : (v : Value) (ns : List Named) → flat_map names_of_member (map (λ n. supply n v) ns) ≡ []
supplies-unnamed v [] = refl
supplies-unnamed v (n ∷ ns) = supplies-unnamed v ns

-- ---- specify blocks

of-specify : (is : List SpecifyItem) → flat_map names_of_member (filter_map member_of_item is) ≡ flat_map names_of_specify is
of-specify [] = refl
of-specify (specparams p ps ∷ is) = of-specify is
of-specify (a_path p ∷ is) = of-specify is
of-specify (pulse_style p s ts ∷ is) = of-specify is
of-specify (a_check c ∷ is) = ap (λ ns. names_of_member (check c) ++ ns) (of-specify is)

pub specify-named : (known after : List (List ℕ)) (x : code_item.Item) (b : code_block.SpecifyBlock) → x ≡ item.Specify b → (now : List code_specify_item.SpecifyItem) → now ≡ b.items.items
    → after ≡ with_names known (flat_map (λ i. names_of_specify (view_specify_item i)) now) → after ≡ with_names known (flat_map names_of_member (members_of_item (view_item x)))
specify-named known after x b is now same h =
    as-item known after x (item.Specify b) (flat_map (λ i. names_of_specify (view_specify_item i)) now) is
    (of-specify (map view_specify_item b.items.items) ∙ flat_map-map names_of_specify view_specify_item b.items.items ∙ ap (flat_map (λ i. names_of_specify (view_specify_item i))) (sym same)) h

-- what has no name for a delayed copy
pub none-given : {A : Type 0} (names : A → List (List ℕ)) (known : List (List ℕ)) (x v : A) → x ≡ v → names v ≡ [] → known ≡ with_names known (names x)
none-given names known x v is e = with-none known ∙ ap (with_names known) (sym (ap names is ∙ e))

pub some-given : {A : Type 0} (names : A → List (List ℕ)) (known after : List (List ℕ)) (x v : A) (ns : List (List ℕ)) → x ≡ v → names v ≡ ns → after ≡ with_names known ns → after ≡ with_names known (names x)
some-given names known after x v ns is e h = h ∙ ap (with_names known) (sym (ap names is ∙ e))

pub both-listed : (f g : Option Named) → flat_map names_in (map (λ n. signal n None) (listed f ++ listed g)) ≡ names_listed f ++ names_listed g
both-listed None None = refl
both-listed None (Some n) = refl
both-listed (Some n) None = refl
both-listed (Some n) (Some m) = refl

pub nets-named : (known after : List (List ℕ)) (x : code_item.Item) (p : Place) (t : NetType) (r : Option Range) (ns : Vec code_net.NetName Global) → x ≡ item.Nets p t r ns
    → (now : List code_net.NetName) → now ≡ ns.items
    → after ≡ with_names known (flat_map (λ n. names_at_net n.name.text.now (option_map view_expression n.value)) now) → after ≡ with_names known
    (flat_map names_of_member (members_of_item (view_item x)))
nets-named known after x p t r ns is now same h =
    as-item known after x (item.Nets p t r ns) (flat_map (λ n. names_at_net n.name.text.now (option_map view_expression n.value)) now) is
    (of-nets (map view_net_name ns.items) ∙ flat_map-map (λ n. names_at_net n.name.text n.value) view_net_name ns.items ∙ ap
    (flat_map (λ n. names_at_net n.name.text.now (option_map view_expression n.value))) (sym same))
    h

pub assigns-named : (known after : List (List ℕ)) (x : code_item.Item) (p : Place) (js : Vec code_join.Join Global) → x ≡ item.Assigns p js → (now : List code_join.Join) → now ≡ js.items
    → after ≡ with_names known (flat_map (λ j. names_of_member (assignment (view_join j))) now) → after ≡ with_names known (flat_map names_of_member (members_of_item (view_item x)))
assigns-named known after x p js is now same h =
    as-item known after x (item.Assigns p js) (flat_map (λ j. names_of_member (assignment (view_join j))) now) is
    (of-joins (map view_join js.items) ∙ flat_map-map (λ j. names_of_member (assignment j)) view_join js.items ∙ ap (flat_map (λ j. names_of_member (assignment (view_join j)))) (sym same))
    h

pub gates-named : (known after : List (List ℕ)) (x : code_item.Item) (p : Place) (g : GateKind) (d : Option code_delay.Delay) (is : Vec code_gate.GateInstance Global) → x ≡ item.Gates p g d is
    → (now : List code_gate.GateInstance) → now ≡ is.items
    → after ≡ with_names known (flat_map (λ i. flat_map names_in (view_gate_instance i).terminals) now) → after ≡ with_names known (flat_map names_of_member (members_of_item (view_item x)))
gates-named known after x p g d is e now same h =
    as-item known after x (item.Gates p g d is) (flat_map (λ i. flat_map names_in (view_gate_instance i).terminals) now) e
    (flat_map-map names_of_member (gate g (option_map view_delay d)) (map view_gate_instance is.items) ∙ flat_map-map (λ i. flat_map names_in i.terminals) view_gate_instance is.items
    ∙ ap (flat_map (λ i. flat_map names_in (view_gate_instance i).terminals)) (sym same))
    h

pub instances-named : (known after : List (List ℕ)) (x : code_item.Item) (n : code_name.Name) (d : Option code_delay.Delay) (is : Vec code_instance.Instance Global) → x ≡ item.Instances n d is
    → (now : List code_instance.Instance) → now ≡ is.items
    → after ≡ with_names known (flat_map (λ i. flat_map names_in (connection_values (view_instance i).connections)) now) → after ≡ with_names known
    (flat_map names_of_member (members_of_item (view_item x)))
instances-named known after x n d is e now same h =
    as-item known after x (item.Instances n d is) (flat_map (λ i. flat_map names_in (connection_values (view_instance i).connections)) now) e
    (flat_map-map names_of_member (instance (view_name n) (option_map view_delay d)) (map view_instance is.items) ∙ flat_map-map (λ i. flat_map names_in (connection_values i.connections))
    view_instance is.items
    ∙ ap (flat_map (λ i. flat_map names_in (connection_values (view_instance i).connections))) (sym same))
    h

-- ---- all items

flat-flat : {A B C : Type 0} (f : B → List C) (g : A → List B) (xs : List A) → flat_map f (flat_map g xs) ≡ flat_map (λ x. flat_map f (g x)) xs
flat-flat f g [] = refl
flat-flat f g (x ∷ xs) = flat_map-append f (g x) (flat_map g xs) ∙ ap (λ ys. flat_map f (g x) ++ ys) (flat-flat f g xs)

whole-named : (m : code_module.Module) → whole_names (view_module m) ≡ flat_map (λ i. flat_map names_of_member (members_of_item (view_item i))) m.items.items
whole-named m = flat-flat names_of_member members_of_item (map view_item m.items.items) ∙ flat_map-map (λ i. flat_map names_of_member (members_of_item i)) view_item m.items.items

pub implicit-named : (known after : List (List ℕ)) (m : code_module.Module) (now : List code_item.Item) → now ≡ m.items.items → m.mark.implicit ≡ true
    → after ≡ with_names known (flat_map (λ i. flat_map names_of_member (members_of_item (view_item i))) now) → after ≡ with_names known (names_where m.mark.implicit (whole_names (view_module m)))
implicit-named known after m now same b h =
    h
    ∙ ap (λ is. with_names known (flat_map (λ i. flat_map names_of_member (members_of_item (view_item i))) is)) same
    ∙ ap (with_names known) (sym (whole-named m))
    ∙ ap (λ c. with_names known (names_where c (whole_names (view_module m)))) (sym b)

pub none-implicit : (known : List (List ℕ)) (m : code_module.Module) → m.mark.implicit ≡ false → known ≡ with_names known (names_where m.mark.implicit (whole_names (view_module m)))
none-implicit known m b = with-none known ∙ ap (λ c. with_names known (names_where c (whole_names (view_module m)))) (sym b)

-- ---- all names

ports-texts : (ns : List code_name.Name) → flat_map (λ n. n.text.now ∷ []) ns ≡ map (λ n. n.text) (map view_name ns)
ports-texts [] = refl
ports-texts (n ∷ ns) = ap (λ xs. n.text.now ∷ xs) (ports-texts ns)

nets-texts : (ds : List code_declaration.NetDeclaration) → flat_map (λ d. d.name.text.now ∷ []) ds ≡ map (λ d. d.name.text) (map view_net ds)
nets-texts [] = refl
nets-texts (d ∷ ds) = ap (λ xs. d.name.text.now ∷ xs) (nets-texts ds)

pub all-named : (m : code_module.Module) (none first second third : List (Bor (List ℕ))) (ports : List code_name.Name) (nets : List code_declaration.NetDeclaration) (now : List code_name.Name)
    → now ≡ ports
    → map view_name ports ≡ port_list (view_module m) → map view_net nets ≡ net_declarations (view_module m) → none ≡ []
    → key_texts first ≡ with_names (key_texts none) (flat_map (λ n. n.text.now ∷ []) now) → key_texts second ≡ with_names (key_texts first) (flat_map (λ d. d.name.text.now ∷ []) nets)
    → key_texts third ≡ with_names (key_texts second) (names_where m.mark.implicit (whole_names (view_module m))) → key_texts third ≡ variable_names (view_module m)
all-named m none first second third ports nets now same ps ds e a b c =
    let used = names_where m.mark.implicit (whole_names (view_module m)) in
    let p = a ∙ ap (λ ks. with_names (key_texts ks) (flat_map (λ n. n.text.now ∷ []) now)) e ∙ ap (with_names [])
    (ap (flat_map (λ n. n.text.now ∷ [])) same ∙ ports-texts ports ∙ ap (map (λ n. n.text)) ps) in
    let d = nets-texts nets ∙ ap (map (λ d. d.name.text)) ds in
    c
    ∙ ap (λ ks. with_names ks used) (b ∙ ap (λ ks. with_names ks (flat_map (λ d. d.name.text.now ∷ []) nets)) p ∙ ap (with_names (with_names [] (map (λ n. n.text) (port_list (view_module m))))) d)
    ∙ with-both (with_names [] (map (λ n. n.text) (port_list (view_module m)))) (map (λ d. d.name.text) (net_declarations (view_module m))) used
    ∙ with-both [] (map (λ n. n.text) (port_list (view_module m))) (map (λ d. d.name.text) (net_declarations (view_module m)) ++ used)
    ∙ all-new (map (λ n. n.text) (port_list (view_module m)) ++ (map (λ d. d.name.text) (net_declarations (view_module m)) ++ used))
