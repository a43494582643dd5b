-- The variables of named modules without faults: names without blanks, ranges of few digits, and few bits.
use Rattle.std.specs.Prelude.{◌≡◌, ℕ, ◌≤◌, nat_lt, Bool, true, false, if◌then◌else◌, IfSome, List, [], ◌∷◌, ◌++◌, bytes_eq, find, map, flat_map, option_map, Option, Some, None, refl}
use Rattle.std.specs.List.{AllByRecursion}
use Rattle.std.proofs.Common.{sym, subst, arith}
use Rattle.std.proofs.lemmas.Bool.{ltb-false}
use Rattle.std.proofs.lemmas.List.Concat.{flat_map-append}
use Rattle.sg_circuit.specs.declared.scopes.Range.{Range}
use Rattle.sg_circuit.specs.Closed.{width_of}
use Rattle.vl_tree.specs.declared.names.Range as written
use Rattle.vl_tree.specs.Tree as tree
use Rattle.vl_tree.specs.Tree.{Connections, Expression, Expressions, Head, HeadPort, Instance, Item, Module, Named, NetName, PortDeclaration, SpecifyItem, a_check, a_path, by_name, by_order, concatenation, declared_port, head_declarations, head_names, named_port, no_more, one_more, pulse_style, signal, sized, specparams}
use Rattle.elab_model.specs.Faults.{Fault, fault, fault_if}
use Rattle.elab_model.specs.Leaves.{leaves, leaves_of}
use Rattle.elab_model.specs.Members.{Member, assignment, assignment_to, connection_values, delayed_names, gate, instance, member_of_item, member_values, members, members_of_item, supply, supply_value}
use Rattle.elab_model.specs.NameFaults.{RangeText, net_range, port_range, range_texts, too_wide, width_limit}
use Rattle.elab_model.specs.Names.{Variable, bounds, first_of_each, is_among, range_of, variable, variable_names, variables, whole_name, whole_names}
use Rattle.elab_model.specs.Ports.{NetDeclaration, name_of_port, names_of_head, net_as, net_declarations, nets_of_item, port_as, port_declarations, port_list, port_names, ports_after, ports_of_head, ports_of_item}
use Rattle.elab_model.specs.declared.kinds.ElabKind.TheVariants.{TooMany}
use Rattle.elab_laws.proofs.Lists.{all-anyway, all-append, all-flat_in, all-map, all-map_back, all-weaker}
use Rattle.elab_laws.proofs.NoFaults.{flat-empty}
use Rattle.elab_laws.proofs.Once.{all-kept}
use Rattle.vcd_laws.proofs.Decimals.{IsShort}
use Rattle.vcd_laws.proofs.Named.{AreNamed, HasNamesIn, HaveNamesIn, IsNamed, IsNamedConnection, IsNamedHead, IsNamedHeadPort, IsNamedInstance, IsNamedItem, IsNamedJoin, IsNamedModule, IsNamedNet, IsNamedPort, IsNamedSpecify, IsSpan}
use Rattle.vcd_laws.proofs.Rows.{is_word}

abbrev pub IsText : List ℕ → Type 0
IsText text = is_word text ≡ true

each_first : (seen ns : List (List ℕ)) → AllByRecursion IsText ns → AllByRecursion IsText (first_of_each seen ns)
each_first seen [] h = tt
each_first seen (n ∷ ns) h = at (is_among n seen) (each_first seen ns h.1) (each_first (n ∷ seen) ns h.1)
  where
    at : (b : Bool) → AllByRecursion IsText (first_of_each seen ns) → AllByRecursion IsText (first_of_each (n ∷ seen) ns) → AllByRecursion IsText (if b then first_of_each seen ns else n ∷ first_of_each (n ∷ seen) ns)
    at true a b = a
    at false a b = (h.0, b)

-- ---- ports

port_named : (p : HeadPort) → IsNamedHeadPort p → IsNamed (name_of_port p)
port_named (declared_port d) h = h.1
port_named (named_port n) h = h

head_names_are : (o : Option (Option Head)) → IfSome o (λ h. IfSome h IsNamedHead) → AllByRecursion IsNamed (names_of_head o)
head_names_are None h = tt
head_names_are (Some None) h = tt
head_names_are (Some (Some (head_names ns))) h = h
head_names_are (Some (Some (head_declarations d ps))) h = (h.0.1, all-map IsNamed name_of_port ps (all-weaker IsNamedHeadPort (λ p. IsNamed (name_of_port p)) ps port_named h.1))

after_are : (before : PortDeclaration) (ps : List HeadPort) → IsNamedPort before → AllByRecursion IsNamedHeadPort ps → AllByRecursion IsNamedPort (ports_after before ps)
after_are before [] b h = tt
after_are before (declared_port d ∷ ps) b h = (h.0, after_are d ps h.0 h.1)
after_are before (named_port n ∷ ps) b h = ((b.0, h.0), after_are before ps b h.1)

head_ports_are : (o : Option (Option Head)) → IfSome o (λ h. IfSome h IsNamedHead) → AllByRecursion IsNamedPort (ports_of_head o)
head_ports_are None h = tt
head_ports_are (Some None) h = tt
head_ports_are (Some (Some (head_names ns))) h = tt
head_ports_are (Some (Some (head_declarations d ps))) h = (h.0, after_are d ps h.0 h.1)

item_ports_are : (i : Item) → IsNamedItem i → AllByRecursion IsNamedPort (ports_of_item i)
item_ports_are (tree.ports p d t r ns) h = all-map IsNamedPort (port_as p d t r) ns (all-weaker IsNamed (λ n. IfSome r IsSpan × IsNamed n) ns (λ n k. (h.0, k)) h.1)
item_ports_are (tree.nets p t r ns) h = tt
item_ports_are (tree.supplies p s r ns) h = tt
item_ports_are (tree.registers p ns) h = tt
item_ports_are (tree.assigns p js) h = tt
item_ports_are (tree.gates p g d is) h = tt
item_ports_are (tree.instances n d is) h = tt
item_ports_are (tree.specify_block b) h = tt

ports_are : (m : Module) → IsNamedModule m → AllByRecursion IsNamedPort (port_declarations m)
ports_are m h =
    all-append IsNamedPort (ports_of_head m.head) (flat_map ports_of_item m.items) (head_ports_are m.head h.head)
    (all-flat_in IsNamedPort ports_of_item m.items (all-weaker IsNamedItem (λ i. AllByRecursion IsNamedPort (ports_of_item i)) m.items item_ports_are h.items))

-- ---- nets

abbrev IsNamedDeclaration : NetDeclaration → Type 0
IsNamedDeclaration d = IfSome d.range IsSpan × IsNamed d.name

item_nets_are : (i : Item) → IsNamedItem i → AllByRecursion IsNamedDeclaration (nets_of_item i)
item_nets_are (tree.ports p d t r ns) h = tt
item_nets_are (tree.nets p t r ns) h = all-map IsNamedDeclaration (λ (n : NetName). net_as false r n.name) ns (all-weaker IsNamedNet (λ n. IfSome r IsSpan × IsNamed n.name) ns (λ n k. (h.0, k.0)) h.1)
item_nets_are (tree.supplies p s r ns) h = all-map IsNamedDeclaration (net_as false r) ns (all-weaker IsNamed (λ n. IfSome r IsSpan × IsNamed n) ns (λ n k. (h.0, k)) h.1)
item_nets_are (tree.registers p ns) h = all-map IsNamedDeclaration (net_as true None) ns (all-weaker IsNamed (λ n. Unit {0} × IsNamed n) ns (λ n k. (tt, k)) h)
item_nets_are (tree.assigns p js) h = tt
item_nets_are (tree.gates p g d is) h = tt
item_nets_are (tree.instances n d is) h = tt
item_nets_are (tree.specify_block b) h = tt

nets_are : (m : Module) → IsNamedModule m → AllByRecursion IsNamedDeclaration (net_declarations m)
nets_are m h = all-flat_in IsNamedDeclaration nets_of_item m.items (all-weaker IsNamedItem (λ i. AllByRecursion IsNamedDeclaration (nets_of_item i)) m.items item_nets_are h.items)

-- ---- ranges

pub found_has : {A : Type 0} (P : A → Type 0) (test : A → Bool) (xs : List A) → AllByRecursion P xs → IfSome (find test xs) P
found_has P test [] h = tt
found_has {A} P test (x ∷ xs) h = at (test x) (found_has P test xs h.1)
  where
    at : (b : Bool) → IfSome (find test xs) P → IfSome (if b then Some x else find test xs) P
    at true k = h.0
    at false k = k

abbrev IsShortRange : Range → Type 0
IsShortRange r = IsShort r.left × IsShort r.right

bounds_are : (o : Option written.Range) → IfSome o IsSpan → IfSome (option_map bounds o) IsShortRange
bounds_are None h = tt
bounds_are (Some r) h = h

range_is : (p : Option PortDeclaration) (d : Option NetDeclaration) → IfSome p IsNamedPort → IfSome d IsNamedDeclaration → IfSome (range_of p d) IsShortRange
range_is (Some p) d h k = bounds_are p.range h.0
range_is None (Some d) h k = bounds_are d.range k.0
range_is None None h k = tt

-- ---- widths

abbrev IsNarrow : Option Range → Type 0
IsNarrow r = width_of r ≤ width_limit

abbrev width_fault : RangeText → List Fault
width_fault s = fault_if (nat_lt width_limit (width_of s.range)) TooMany s.name.place

no_width_fault : (s : RangeText) → width_fault s ≡ [] → IsNarrow s.range
no_width_fault s = at (nat_lt width_limit (width_of s.range)) refl
  where
    at : (b : Bool) → nat_lt width_limit (width_of s.range) ≡ b → (if b then fault TooMany s.name.place ∷ [] else []) ≡ [] → IsNarrow s.range
    at true t e = absurd cc
    at false t e = ltb-false width_limit (width_of s.range) t

pub split_all : {A : Type 0} (P : A → Type 0) (xs ys : List A) → AllByRecursion P (xs ++ ys) → AllByRecursion P xs × AllByRecursion P ys
split_all P [] ys h = (tt, h)
split_all P (x ∷ xs) ys h = (let r = split_all P xs ys h.1 in ((h.0, r.0), r.1))

split_flat : {A B : Type 0} (P : B → Type 0) (f : A → List B) (xs : List A) → AllByRecursion P (flat_map f xs) → AllByRecursion (λ x. AllByRecursion P (f x)) xs
split_flat P f [] h = tt
split_flat P f (x ∷ xs) h = (let r = split_all P (f x) (flat_map f xs) h in (r.0, split_flat P f xs r.1))

abbrev Widths : Item → Type 0
Widths i = AllByRecursion (λ s. IsNarrow s.range) (map port_range (ports_of_item i) ++ map net_range (nets_of_item i))

record AreNarrow (m : Module) : Type 0 where
  ports : AllByRecursion (λ (d : PortDeclaration). IsNarrow (option_map bounds d.range)) (port_declarations m)
  nets : AllByRecursion (λ (d : NetDeclaration). IsNarrow (option_map bounds d.range)) (net_declarations m)

narrow : (m : Module) → too_wide m ≡ [] → AreNarrow m
narrow m e = record {
  ports = all-append P (ports_of_head m.head) (flat_map ports_of_item m.items) (all-map_back (λ s. IsNarrow s.range) port_range (ports_of_head m.head) whole.0)
      (all-flat_in P ports_of_item m.items
      (all-weaker Widths (λ i. AllByRecursion P (ports_of_item i)) m.items
      (λ i k. all-map_back (λ s. IsNarrow s.range) port_range (ports_of_item i) (split_all (λ s. IsNarrow s.range) (map port_range (ports_of_item i)) (map net_range (nets_of_item i)) k).0) items));
  nets = all-flat_in Q nets_of_item m.items
      (all-weaker Widths (λ i. AllByRecursion Q (nets_of_item i)) m.items
      (λ i k. all-map_back (λ s. IsNarrow s.range) net_range (nets_of_item i) (split_all (λ s. IsNarrow s.range) (map port_range (ports_of_item i)) (map net_range (nets_of_item i)) k).1) items);
}
  where
    P : PortDeclaration → Type 0
    P d = IsNarrow (option_map bounds d.range)

    Q : NetDeclaration → Type 0
    Q d = IsNarrow (option_map bounds d.range)

    each : AllByRecursion (λ s. IsNarrow s.range) (range_texts m)
    each = all-weaker (λ s. width_fault s ≡ []) (λ s. IsNarrow s.range) (range_texts m) no_width_fault (flat-empty width_fault (range_texts m) e)

    whole : AllByRecursion (λ s. IsNarrow s.range) (map port_range (ports_of_head m.head)) × AllByRecursion (λ s. IsNarrow s.range) (flat_map (λ i. map port_range (ports_of_item i) ++ map net_range (nets_of_item i)) m.items)
    whole = split_all (λ s. IsNarrow s.range) (map port_range (ports_of_head m.head)) (flat_map (λ i. map port_range (ports_of_item i) ++ map net_range (nets_of_item i)) m.items) each

    items : AllByRecursion Widths m.items
    items = split_flat (λ s. IsNarrow s.range) (λ i. map port_range (ports_of_item i) ++ map net_range (nets_of_item i)) m.items whole.1

width_is : (p : Option PortDeclaration) (d : Option NetDeclaration) → IfSome p (λ x. IsNarrow (option_map bounds x.range)) → IfSome d (λ x. IsNarrow (option_map bounds x.range)) → IsNarrow (range_of p d)
width_is (Some p) d h k = h
width_is None (Some d) h k = k
width_is None None h k = (let q : 1 ≤ width_limit = omega arith in q)

-- ---- implicit nets

mutual
  leaf_texts : (e : Expression) → HasNamesIn e → AllByRecursion IsText (flat_map whole_name (leaves e))
  leaf_texts (signal n None) h = (h, tt)
  leaf_texts (signal n (Some s)) h = tt
  leaf_texts (sized p vs) h = tt
  leaf_texts (concatenation p es) h = leaves_texts es h

  leaves_texts : (es : Expressions) → HaveNamesIn es → AllByRecursion IsText (flat_map whole_name (leaves_of es))
  leaves_texts no_more h = tt
  leaves_texts (one_more e es) h =
      subst (AllByRecursion IsText) (sym (flat_map-append whole_name (leaves e) (leaves_of es))) (all-append IsText (flat_map whole_name (leaves e)) (flat_map whole_name (leaves_of es)) (leaf_texts e h.0) (leaves_texts es h.1))

abbrev IsNamedMember : Member → Type 0
IsNamedMember p = AllByRecursion HasNamesIn (member_values p)

assigned : (n : NetName) → IsNamedNet n → (y : Member) → assignment_to n.name n.value ≡ Some y → IsNamedMember y
assigned n h y e = at n.value h.1 e
  where
    at : (o : Option Expression) → IfSome o HasNamesIn → assignment_to n.name o ≡ Some y → IsNamedMember y
    at None k e = absurd cc
    at (Some x) k e = subst (λ o. IfSome o IsNamedMember) e (h.0, (k, tt))

connected : (c : Connections) → AreNamed c → AllByRecursion HasNamesIn (connection_values c)
connected (by_order es) h = all-kept HasNamesIn (λ e. e) es (all-weaker (λ o. IfSome o HasNamesIn) (λ o. (y : Expression) → o ≡ Some y → HasNamesIn y) es (λ o k y e. subst (λ x. IfSome x HasNamesIn) e k) h)
connected (by_name cs) h = all-kept HasNamesIn (λ c. c.value) cs (all-weaker IsNamedConnection (λ c. (y : Expression) → c.value ≡ Some y → HasNamesIn y) cs (λ c k y e. subst (λ x. IfSome x HasNamesIn) e k) h)

specified : (i : SpecifyItem) → IsNamedSpecify i → (y : Member) → member_of_item i ≡ Some y → IsNamedMember y
specified (specparams p ps) h y e = absurd cc
specified (pulse_style p s ts) h y e = absurd cc
specified (a_path p) h y e = subst (λ o. IfSome o IsNamedMember) e tt
specified (a_check c) h y e = subst (λ o. IfSome o IsNamedMember) e (all-map HasNamesIn (λ n. signal n None) (delayed_names c) h)

item_members : (i : Item) → IsNamedItem i → AllByRecursion IsNamedMember (members_of_item i)
item_members (tree.ports p d t r ns) h = tt
item_members (tree.nets p t r ns) h = all-kept IsNamedMember (λ n. assignment_to n.name n.value) ns (all-weaker IsNamedNet (λ n. (y : Member) → assignment_to n.name n.value ≡ Some y → IsNamedMember y) ns assigned h.1)
item_members (tree.supplies p s r ns) h = all-map IsNamedMember (λ n. supply n (supply_value s)) ns (all-anyway (λ n. Unit {0}) ns (λ n. tt))
item_members (tree.registers p ns) h = tt
item_members (tree.assigns p js) h = all-map IsNamedMember assignment js (all-weaker IsNamedJoin (λ j. IsNamedMember (assignment j)) js (λ j k. (k.0, (k.1, tt))) h)
item_members (tree.gates p g d is) h = all-map IsNamedMember (gate g d) is h
item_members (tree.instances n d is) h = all-map IsNamedMember (instance n d) is (all-weaker IsNamedInstance (λ i. IsNamedMember (instance n d i)) is (λ i k. connected i.connections k.1) h)
item_members (tree.specify_block b) h = all-kept IsNamedMember member_of_item b.items (all-weaker IsNamedSpecify (λ i. (y : Member) → member_of_item i ≡ Some y → IsNamedMember y) b.items specified h)

whole_texts : (m : Module) → IsNamedModule m → AllByRecursion IsText (whole_names m)
whole_texts m h =
    all-flat_in IsText (λ i. flat_map (λ e. flat_map whole_name (leaves e)) (member_values i)) (members m)
    (all-weaker IsNamedMember (λ i. AllByRecursion IsText (flat_map (λ e. flat_map whole_name (leaves e)) (member_values i))) (members m)
    (λ i k. all-flat_in IsText (λ e. flat_map whole_name (leaves e)) (member_values i) (all-weaker HasNamesIn (λ e. AllByRecursion IsText (flat_map whole_name (leaves e))) (member_values i) leaf_texts k))
    (all-flat_in IsNamedMember members_of_item m.items (all-weaker IsNamedItem (λ i. AllByRecursion IsNamedMember (members_of_item i)) m.items item_members h.items)))

-- ---- variables

pub record IsDeclared (v : Variable) : Type 0 where
  pub name : is_word v.name ≡ true
  pub range : IfSome v.range (λ r. IsShort r.left × IsShort r.right)
  pub narrow : width_of v.range ≤ width_limit

texts : (m : Module) → IsNamedModule m → AllByRecursion IsText (variable_names m)
texts m h =
    each_first [] (port_names m ++ (map (λ d. d.name.text) (net_declarations m) ++ implicit))
    (all-append IsText (port_names m) (map (λ d. d.name.text) (net_declarations m) ++ implicit) (all-map IsText (λ n. n.text) (port_list m) (head_names_are m.head h.head))
    (all-append IsText (map (λ d. d.name.text) (net_declarations m)) implicit
    (all-map IsText (λ (d : NetDeclaration). d.name.text) (net_declarations m) (all-weaker IsNamedDeclaration (λ d. IsText d.name.text) (net_declarations m) (λ d k. k.1) (nets_are m h)))
    (at m.settings.implicit)))
  where
    implicit : List (List ℕ)
    implicit = if m.settings.implicit then whole_names m else []

    at : (b : Bool) → AllByRecursion IsText (if b then whole_names m else [])
    at true = whole_texts m h
    at false = tt

pub variables_are : (m : Module) → IsNamedModule m → too_wide m ≡ [] → AllByRecursion IsDeclared (variables m)
variables_are m h e = all-map IsDeclared (variable m) (variable_names m) (all-weaker IsText (λ n. IsDeclared (variable m n)) (variable_names m) one (texts m h))
  where
    few : AreNarrow m
    few = narrow m e

    one : (n : List ℕ) → IsText n → IsDeclared (variable m n)
    one n t = record {
      name = t;
      range = range_is (find (λ d. bytes_eq n d.name.text) (port_declarations m)) (find (λ d. bytes_eq n d.name.text) (net_declarations m))
          (found_has IsNamedPort (λ d. bytes_eq n d.name.text) (port_declarations m) (ports_are m h)) (found_has IsNamedDeclaration (λ d. bytes_eq n d.name.text) (net_declarations m) (nets_are m h));
      narrow = width_is (find (λ d. bytes_eq n d.name.text) (port_declarations m)) (find (λ d. bytes_eq n d.name.text) (net_declarations m))
          (found_has (λ (x : PortDeclaration). IsNarrow (option_map bounds x.range)) (λ d. bytes_eq n d.name.text) (port_declarations m) few.ports)
          (found_has (λ (x : NetDeclaration). IsNarrow (option_map bounds x.range)) (λ d. bytes_eq n d.name.text) (net_declarations m) few.nets);
    }
