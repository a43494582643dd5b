-- The names of the instances among the members of items.
use Rattle.std.specs.Prelude.{◌≡◌, ℕ, suc, ◌<◌, List, [], ◌∷◌, ◌++◌, Option, Some, None, map, flat_map, filter_map, length, slice_index_or, refl}
use Rattle.std.specs.List.{cons_option}
use Rattle.std.proofs.Common.{sym, ◌∙◌, ap, drop, append_assoc, drop-cons}
use Rattle.sg_logic.specs.declared.gates.GateKind.{GateKind}
use Rattle.sg_logic.specs.declared.values.Value.{Value}
use Rattle.vl_tree.specs.declared.items.Item as code
use Rattle.vl_tree.specs.declared.names.Name as code_name
use Rattle.vl_tree.specs.Seen.{view_name, view_item}
use Rattle.vl_tree.specs.Tree.{Named, Delay, GateInstance, Instance, NetName, Join, Expression, SpecifyItem, specparams, a_path, pulse_style, a_check}
use Rattle.elab_model.specs.Members.{Member, assignment, supply, gate, instance, assignment_to, member_of_item, members_of_item}
use Rattle.elab_model.specs.NameFaults.{instance_name}

pub gates-named : (g : GateKind) (d : Option Delay) (is : List GateInstance) → filter_map instance_name (map (gate g d) is) ≡ filter_map (λ i. i.name) is
gates-named g d [] = refl
gates-named g d (i ∷ is) = ap (cons_option i.name) (gates-named g d is)

pub instances-named : (n : Named) (d : Option Delay) (is : List Instance) → filter_map instance_name (map (instance n d) is) ≡ filter_map (λ i. i.name) is
instances-named n d [] = refl
instances-named n d (i ∷ is) = ap (cons_option i.name) (instances-named n d is)

pub assigns-unnamed : (js : List Join) → filter_map instance_name (map assignment js) ≡ []
assigns-unnamed [] = refl
assigns-unnamed (j ∷ js) = assigns-unnamed js

pub paths-unnamed : (is : List SpecifyItem) → filter_map instance_name (filter_map member_of_item is) ≡ []
paths-unnamed [] = refl
paths-unnamed (specparams p ps ∷ is) = paths-unnamed is
paths-unnamed (a_path p ∷ is) = paths-unnamed is
paths-unnamed (pulse_style p s ts ∷ is) = paths-unnamed is
paths-unnamed (a_check c ∷ is) = paths-unnamed is

pub supplies-unnamed : (v : Value) (ns : List Named) → filter_map instance_name (map (λ n. supply n v) ns) ≡ []
supplies-unnamed v [] = refl
supplies-unnamed v (n ∷ ns) = supplies-unnamed v ns

pub nets-unnamed : (ns : List NetName) → filter_map instance_name (filter_map (λ n. assignment_to n.name n.value) ns) ≡ []
nets-unnamed [] = refl
nets-unnamed (n ∷ ns) = by n.value (nets-unnamed ns)
  where
    by : (e : Option Expression) → filter_map instance_name (filter_map (λ n. assignment_to n.name n.value) ns) ≡ []
        → filter_map instance_name (cons_option (assignment_to n.name e) (filter_map (λ n. assignment_to n.name n.value) ns)) ≡ []
    by None h = h
    by (Some e) h = h

-- the names of an item
abbrev pub item_names : code.Item → List Named
item_names i = filter_map instance_name (members_of_item (view_item i))

pub item-named : (old new : List Named) (i v : code.Item) (ns : List Named) → i ≡ v → item_names v ≡ ns → new ≡ old ++ ns → new ≡ old ++ item_names i
item-named old new i v ns e f h = h ∙ ap (λ xs. old ++ xs) (sym f ∙ ap item_names (sym e))

nil-append : {A : Type 0} (xs : List A) → xs ≡ xs ++ []
nil-append [] = refl
nil-append (x ∷ xs) = ap (λ ys. x ∷ ys) (nil-append xs)

pub item-unnamed : (old : List Named) (i v : code.Item) → i ≡ v → item_names v ≡ [] → old ≡ old ++ item_names i
item-unnamed old i v e f = item-named old old i v [] e f (nil-append old)

filter-append : (xs ys : List Member) → filter_map instance_name (xs ++ ys) ≡ filter_map instance_name xs ++ filter_map instance_name ys
filter-append [] ys = refl
filter-append (x ∷ xs) ys = by (instance_name x) (filter-append xs ys)
  where
    by : (o : Option Named) → filter_map instance_name (xs ++ ys) ≡ filter_map instance_name xs ++ filter_map instance_name ys
        → cons_option o (filter_map instance_name (xs ++ ys)) ≡ cons_option o (filter_map instance_name xs) ++ filter_map instance_name ys
    by None h = h
    by (Some n) h = ap (λ ns. n ∷ ns) h

abbrev pub names_from : List code.Item → List Named
names_from items = filter_map instance_name (flat_map members_of_item (map view_item items))

pub item-next : (old new : List code_name.Name) (items : List code.Item) (i : ℕ) (x : code.Item) (all : List Named) → i < length items → x ≡ slice_index_or items i x
    → map view_name new ≡ map view_name old ++ item_names x → map view_name old ++ names_from (drop i items) ≡ all → map view_name new ++ names_from (drop (suc i) items) ≡ all
item-next old new items i x all lt is e h =
    ap (λ ns. ns ++ names_from (drop (suc i) items)) e
    ∙ append_assoc (map view_name old) (item_names x) (names_from (drop (suc i) items))
    ∙ ap (λ ns. map view_name old ++ ns) (sym (filter-append (members_of_item (view_item x)) (flat_map members_of_item (map view_item (drop (suc i) items)))))
    ∙ ap (λ xs. map view_name old ++ names_from xs) (sym (drop-cons items i x lt ∙ ap (λ y. y ∷ drop (suc i) items) (sym is)))
    ∙ h
