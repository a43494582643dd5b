-- The variables of named modules have good names.
use Rattle.std.specs.Prelude.{◌≡◌, ℕ, Bool, true, false, if◌then◌else◌, IfSome, List, [], ◌∷◌, ◌++◌, map, flat_map, Option, Some, None}
use Rattle.std.specs.List.{AllByRecursion}
use Rattle.std.proofs.Common.{sym, subst}
use Rattle.std.proofs.lemmas.List.Concat.{flat_map-append}
use Rattle.vl_tree.specs.Tree as tree
use Rattle.vl_tree.specs.Tree.{Connections, Expression, Expressions, Head, HeadPort, Instance, Item, Module, Named, NetName, PortDeclaration, SpecifyItem, a_check, a_path, by_name, by_order, concatenation, declared_port, head_declarations, head_names, named_port, no_more, one_more, pulse_style, signal, sized, specparams}
use Rattle.elab_model.specs.Leaves.{leaves, leaves_of}
use Rattle.elab_model.specs.Members.{Member, assignment, assignment_to, connection_values, delayed_names, gate, instance, member_of_item, member_values, members, members_of_item, supply, supply_value}
use Rattle.elab_model.specs.Names.{Variable, first_of_each, is_among, variable, variable_names, variables, whole_name, whole_names}
use Rattle.elab_model.specs.Ports.{NetDeclaration, name_of_port, names_of_head, net_as, net_declarations, nets_of_item, port_list, port_names}
use Rattle.elab_laws.proofs.Lists.{all-anyway, all-append, all-flat_in, all-map, all-weaker}
use Rattle.elab_laws.proofs.Once.{all-kept}
use Rattle.written_reading.specs.Named.{IsNameText}
use Rattle.written_names.proofs.DeclaredNames.{AreNamed, HasNamesIn, HaveNamesIn, IsNamed, IsNamedConnection, IsNamedHead, IsNamedHeadPort, IsNamedInstance, IsNamedItem, IsNamedJoin, IsNamedModule, IsNamedNet, IsNamedSpecify}

abbrev pub IsText : List ℕ → Type 0
IsText text = IsNameText text

each_first : (seen ns : List (List ℕ)) → AllByRecursion IsText ns → AllByRecursion IsText (first_of_each seen ns)
each_first seen [] h = tt
each_first seen (n ∷ ns) h = at (is_among n seen) (each_first seen ns h.1) (each_first (n ∷ seen) ns h.1)
  where
    at : (b : Bool) → AllByRecursion IsText (first_of_each seen ns) → AllByRecursion IsText (first_of_each (n ∷ seen) ns) → AllByRecursion IsText (if b then first_of_each seen ns else n ∷ first_of_each (n ∷ seen) ns)
    at true a b = a
    at false a b = (h.0, b)

-- ---- ports

port_named : (p : HeadPort) → IsNamedHeadPort p → IsNamed (name_of_port p)
port_named (declared_port d) h = h
port_named (named_port n) h = h

head_names_are : (o : Option (Option Head)) → IfSome o (λ h. IfSome h IsNamedHead) → AllByRecursion IsNamed (names_of_head o)
head_names_are None h = tt
head_names_are (Some None) h = tt
head_names_are (Some (Some (head_names ns))) h = h
head_names_are (Some (Some (head_declarations d ps))) h = (h.0, all-map IsNamed name_of_port ps (all-weaker IsNamedHeadPort (λ p. IsNamed (name_of_port p)) ps port_named h.1))

-- ---- nets

abbrev IsNamedDeclaration : NetDeclaration → Type 0
IsNamedDeclaration d = IsNamed d.name

item_nets_are : (i : Item) → IsNamedItem i → AllByRecursion IsNamedDeclaration (nets_of_item i)
item_nets_are (tree.ports p d t r ns) h = tt
item_nets_are (tree.nets p t r ns) h = all-map IsNamedDeclaration (λ (n : NetName). net_as false r n.name) ns (all-weaker IsNamedNet (λ n. IsNamed n.name) ns (λ n k. k.0) h)
item_nets_are (tree.supplies p s r ns) h = all-map IsNamedDeclaration (net_as false r) ns h
item_nets_are (tree.registers p ns) h = all-map IsNamedDeclaration (net_as true None) ns h
item_nets_are (tree.assigns p js) h = tt
item_nets_are (tree.gates p g d is) h = tt
item_nets_are (tree.instances n d is) h = tt
item_nets_are (tree.specify_block b) h = tt

nets_are : (m : Module) → IsNamedModule m → AllByRecursion IsNamedDeclaration (net_declarations m)
nets_are m h = all-flat_in IsNamedDeclaration nets_of_item m.items (all-weaker IsNamedItem (λ i. AllByRecursion IsNamedDeclaration (nets_of_item i)) m.items item_nets_are h.items)

-- ---- implicit nets

mutual
  leaf_texts : (e : Expression) → HasNamesIn e → AllByRecursion IsText (flat_map whole_name (leaves e))
  leaf_texts (signal n None) h = (h, tt)
  leaf_texts (signal n (Some s)) h = tt
  leaf_texts (sized p vs) h = tt
  leaf_texts (concatenation p es) h = leaves_texts es h

  leaves_texts : (es : Expressions) → HaveNamesIn es → AllByRecursion IsText (flat_map whole_name (leaves_of es))
  leaves_texts no_more h = tt
  leaves_texts (one_more e es) h =
      subst (AllByRecursion IsText) (sym (flat_map-append whole_name (leaves e) (leaves_of es))) (all-append IsText (flat_map whole_name (leaves e)) (flat_map whole_name (leaves_of es)) (leaf_texts e h.0) (leaves_texts es h.1))

abbrev IsNamedMember : Member → Type 0
IsNamedMember p = AllByRecursion HasNamesIn (member_values p)

assigned : (n : NetName) → IsNamedNet n → (y : Member) → assignment_to n.name n.value ≡ Some y → IsNamedMember y
assigned n h y e = at n.value h.1 e
  where
    at : (o : Option Expression) → IfSome o HasNamesIn → assignment_to n.name o ≡ Some y → IsNamedMember y
    at None k e = absurd cc
    at (Some x) k e = subst (λ o. IfSome o IsNamedMember) e (h.0, (k, tt))

connected : (c : Connections) → AreNamed c → AllByRecursion HasNamesIn (connection_values c)
connected (by_order es) h = all-kept HasNamesIn (λ e. e) es (all-weaker (λ o. IfSome o HasNamesIn) (λ o. (y : Expression) → o ≡ Some y → HasNamesIn y) es (λ o k y e. subst (λ x. IfSome x HasNamesIn) e k) h)
connected (by_name cs) h = all-kept HasNamesIn (λ c. c.value) cs (all-weaker IsNamedConnection (λ c. (y : Expression) → c.value ≡ Some y → HasNamesIn y) cs (λ c k y e. subst (λ x. IfSome x HasNamesIn) e k) h)

specified : (i : SpecifyItem) → IsNamedSpecify i → (y : Member) → member_of_item i ≡ Some y → IsNamedMember y
specified (specparams p ps) h y e = absurd cc
specified (pulse_style p s ts) h y e = absurd cc
specified (a_path p) h y e = subst (λ o. IfSome o IsNamedMember) e tt
specified (a_check c) h y e = subst (λ o. IfSome o IsNamedMember) e (all-map HasNamesIn (λ n. signal n None) (delayed_names c) h)

item_members : (i : Item) → IsNamedItem i → AllByRecursion IsNamedMember (members_of_item i)
item_members (tree.ports p d t r ns) h = tt
item_members (tree.nets p t r ns) h = all-kept IsNamedMember (λ n. assignment_to n.name n.value) ns (all-weaker IsNamedNet (λ n. (y : Member) → assignment_to n.name n.value ≡ Some y → IsNamedMember y) ns assigned h)
item_members (tree.supplies p s r ns) h = all-map IsNamedMember (λ n. supply n (supply_value s)) ns (all-anyway (λ n. Unit {0}) ns (λ n. tt))
item_members (tree.registers p ns) h = tt
item_members (tree.assigns p js) h = all-map IsNamedMember assignment js (all-weaker IsNamedJoin (λ j. IsNamedMember (assignment j)) js (λ j k. (k.0, (k.1, tt))) h)
item_members (tree.gates p g d is) h = all-map IsNamedMember (gate g d) is h
item_members (tree.instances n d is) h = all-map IsNamedMember (instance n d) is (all-weaker IsNamedInstance (λ i. IsNamedMember (instance n d i)) is (λ i k. connected i.connections k.1) h)
item_members (tree.specify_block b) h = all-kept IsNamedMember member_of_item b.items (all-weaker IsNamedSpecify (λ i. (y : Member) → member_of_item i ≡ Some y → IsNamedMember y) b.items specified h)

whole_texts : (m : Module) → IsNamedModule m → AllByRecursion IsText (whole_names m)
whole_texts m h =
    all-flat_in IsText (λ i. flat_map (λ e. flat_map whole_name (leaves e)) (member_values i)) (members m)
    (all-weaker IsNamedMember (λ i. AllByRecursion IsText (flat_map (λ e. flat_map whole_name (leaves e)) (member_values i))) (members m)
    (λ i k. all-flat_in IsText (λ e. flat_map whole_name (leaves e)) (member_values i) (all-weaker HasNamesIn (λ e. AllByRecursion IsText (flat_map whole_name (leaves e))) (member_values i) leaf_texts k))
    (all-flat_in IsNamedMember members_of_item m.items (all-weaker IsNamedItem (λ i. AllByRecursion IsNamedMember (members_of_item i)) m.items item_members h.items)))

-- ---- variables

texts : (m : Module) → IsNamedModule m → AllByRecursion IsText (variable_names m)
texts m h =
    each_first [] (port_names m ++ (map (λ d. d.name.text) (net_declarations m) ++ implicit))
    (all-append IsText (port_names m) (map (λ d. d.name.text) (net_declarations m) ++ implicit) (all-map IsText (λ n. n.text) (port_list m) (head_names_are m.head h.head))
    (all-append IsText (map (λ d. d.name.text) (net_declarations m)) implicit
    (all-map IsText (λ (d : NetDeclaration). d.name.text) (net_declarations m) (all-weaker IsNamedDeclaration (λ d. IsText d.name.text) (net_declarations m) (λ d k. k) (nets_are m h)))
    (at m.settings.implicit)))
  where
    implicit : List (List ℕ)
    implicit = if m.settings.implicit then whole_names m else []

    at : (b : Bool) → AllByRecursion IsText (if b then whole_names m else [])
    at true = whole_texts m h
    at false = tt

abbrev pub HasGoodName : Variable → Type 0
HasGoodName v = IsNameText v.name

pub variables_are : (m : Module) → IsNamedModule m → AllByRecursion HasGoodName (variables m)
variables_are m h = all-map HasGoodName (variable m) (variable_names m) (texts m h)
