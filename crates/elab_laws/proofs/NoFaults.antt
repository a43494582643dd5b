-- Where there are no faults, no port is connected twice, and so the nets are distinct.
use Rattle.std.specs.Prelude.{◌≡◌, ℕ, zero, suc, ◌+◌, List, [], ◌∷◌, ◌++◌, Option, Some, None, map, flat_map, refl, ℤ}
use Rattle.std.specs.List.{AllByRecursion, enumerate_from}
use Rattle.std.proofs.Common.{◌∙◌, ap, inl, inr, subst}
use Rattle.std.specs.Option.{option_and_then}
use Rattle.vl_tree.specs.Tree.{Part, a_module, a_primitive}
use Rattle.sg_text.specs.declared.places.Place.{Place}
use Rattle.elab_model.specs.declared.kinds.ElabKind.TheVariants.{DuplicateName, BadTerminal}
use Rattle.elab_model.specs.Members.{Member, assignment, supply, gate, instance, path, check, members, member_values}
use Rattle.elab_model.specs.Definitions.{definition_of, as_module}
use Rattle.elab_model.specs.Ports.{port_list}
use Rattle.elab_model.specs.Names.{Variable, variables}
use Rattle.elab_model.specs.Hierarchy.{Step, Instance, Child, children_in, child_of_member, child_of, size, instances, instances_from, children, children_at, children_from, top_instance, levels_below_top}
use Rattle.elab_model.specs.Delays.{tick_of}
use Rattle.elab_model.specs.Nets.{nets}
use Rattle.elab_model.specs.Faults.{fault, fault_if, places_again, duplicates}
use Rattle.elab_model.specs.NameFaults.{twice_in_list, two_directions, two_nets, two_instances, no_port, no_direction, name_faults, two_ranges, too_wide, declaration_faults}
use Rattle.elab_model.specs.TerminalFaults.{expression_faults, is_missing}
use Rattle.elab_model.specs.ModuleFaults.{connection_faults, delay_on_module, instance_faults, member_faults, all_member_faults, module_faults}
use Rattle.elab_model.specs.HierarchyFaults.{instance_faults_below, self_instances}
pub use Rattle.elab_laws.proofs.Lists.{all-from}
use Rattle.elab_laws.proofs.Lists.{In, in-flat, from-flat, all-in, all-weaker}
use Rattle.elab_laws.proofs.Apart.{AreApart}
use Rattle.elab_laws.proofs.Chains.{IsBelow, children-below, children-are}
use Rattle.elab_laws.proofs.PartsApart.{AreOnce}
use Rattle.elab_laws.proofs.NetsApart.{ConnectedOnce, nets-apart}
use Rattle.elab_laws.proofs.Once.{all-kept, once-by_name, once-by_order}
use Rattle.sg_delay.specs.declared.corners.Corner.{Corner}
use Rattle.vl_tree.specs.Tree.{Module, Connections, by_order, by_name, Source}

pub front : {A : Type 0} (xs ys : List A) → xs ++ ys ≡ [] → xs ≡ []
front [] ys h = refl
front (x ∷ xs) ys h = cc

pub back : {A : Type 0} (xs ys : List A) → xs ++ ys ≡ [] → ys ≡ []
back [] ys h = h
back (x ∷ xs) ys h = cc

pub flat-empty : {A B : Type 0} (f : A → List B) (xs : List A) → flat_map f xs ≡ [] → AllByRecursion (λ x. f x ≡ []) xs
flat-empty f [] h = tt
flat-empty f (x ∷ xs) h = (front (f x) (flat_map f xs) h, flat-empty f xs (back (f x) (flat_map f xs) h))

pub map-empty : {A B : Type 0} (f : A → B) (xs : List A) → map f xs ≡ [] → xs ≡ []
map-empty f [] h = refl
map-empty f (x ∷ xs) h = cc

-- ---- a instance of an instance is an instance

pub in-own : (source : Source) (d : ℕ) (c : Instance) → In c (instances_from source d c)
in-own source zero c = inl refl
in-own source (suc d) c = inl refl

pub child-there : (source : Source) (d : ℕ) (t s c : Instance) → t.step.levels ≡ d → In s (instances_from source d t) → In c (children source s) → In c (instances_from source d t)
child-there source zero t s c l (inr h) k = absurd h
child-there source zero t s c l (inl e) k = absurd (subst (In c) (ap (children source) e ∙ children-are source 0 t l) k)
child-there source (suc d) t s c l (inl e) k =
    inr (in-flat (instances_from source d) c c (children_at source (suc d) t) (subst (In c) (ap (children source) e ∙ children-are source (suc d) t l) k) (in-own source d c))
child-there source (suc d) t s c l (inr h) k =
    let r = from-flat (instances_from source d) s (children_at source (suc d) t) h in
    let b = all-in (IsBelow (t.step ∷ t.above) d) r.source (children_at source (suc d) t) (children-below source d (t.step ∷ t.above) (suc t.step.number) (children_in source t.step.definition)) r.there in
    inr (in-flat (instances_from source d) r.source c (children_at source (suc d) t) r.there (child-there source d r.source s c b.1 r.made k))

-- ---- what no faults of a module say

abbrev pub PortsOnce : Module → Type 0
PortsOnce m = places_again [] (port_list m) ≡ []

abbrev pub NamesOnce : Connections → Type 0
NamesOnce (by_order es) = Unit {0}
NamesOnce (by_name cs) = places_again [] (map (λ c. c.port) cs) ≡ []

-- what declarations without fault say of ports: none stands twice in the list, and each has a direction
pub record HasPorts (m : Module) : Type 0 where
  pub once : PortsOnce m
  pub directed : no_direction m ≡ []

pub has-ports : (m : Module) → declaration_faults m ≡ [] → HasPorts m
has-ports m h =
    let each = flat-empty (λ fs. fs) (twice_in_list m ∷ two_directions m ∷ two_nets m ∷ two_instances m ∷ no_port m ∷ no_direction m ∷ []) (front (name_faults m) (two_ranges m ++ too_wide m) h) in
    record { once = map-empty (fault DuplicateName) (places_again [] (port_list m)) each.0; directed = each.1.1.1.1.1.0 }

pub declared-once : (m : Module) → declaration_faults m ≡ [] → PortsOnce m
declared-once m h = (has-ports m h).once

pub connected-once : (vs : List Variable) (m : Module) (p : Place) (x : Connections) → connection_faults vs m p x ≡ [] → NamesOnce x
connected-once vs m p (by_order es) h = tt
connected-once vs m p (by_name cs) h = map-empty (fault DuplicateName) (places_again [] (map (λ c. c.port) cs)) (front (duplicates (map (λ c. c.port) cs)) _ h)

abbrev connections_or : Connections → Option Child → Connections
connections_or x None = x
connections_or x (Some y) = y.connections

part-once : (source : Source) (c : Corner) (tick : ℤ) (m : Module) (k : ℕ) (p : Member) → member_faults source c tick m (variables m) p ≡ [] → (y : Child) → child_of_member source k p ≡ Some y → NamesOnce y.connections
part-once source c tick m k (assignment j) h y e = cc
part-once source c tick m k (supply n v) h y e = cc
part-once source c tick m k (gate g d i) h y e = cc
part-once source c tick m k (path p) h y e = cc
part-once source c tick m k (check t) h y e = cc
part-once source c tick m k (instance n d i) h y e = by (definition_of source n.text) h e
  where
    by : (o : Option Part) → instance_faults c tick m (variables m) d i o ≡ [] → child_of (option_and_then as_module o) k i ≡ Some y → NamesOnce y.connections
    by None h e = cc
    by (Some (a_primitive p)) h e = cc
    by (Some (a_module x)) h e =
        let f : connection_faults (variables m) x i.place i.connections ≡ [] =
        back (delay_on_module d) (connection_faults (variables m) x i.place i.connections) (back (fault_if (is_missing i.name) BadTerminal i.place) (delay_on_module d ++ connection_faults (variables m) x i.place i.connections) h) in
        let g : i.connections ≡ y.connections = ap (λ o. connections_or i.connections o) e in
        subst NamesOnce g (connected-once (variables m) x i.place i.connections f)

pub all-second : {A : Type 0} (P : A → Type 0) (a : ℕ) (ps : List A) → AllByRecursion P ps → AllByRecursion (λ x. P x.1) (enumerate_from a ps)
all-second P a [] h = tt
all-second P a (p ∷ ps) h = (h.0, all-second P (a + 1) ps h.1)

inner-once : (source : Source) (c : Corner) (tick : ℤ) (m : Module) → module_faults source c tick m ≡ [] → AllByRecursion (λ i. NamesOnce i.connections) (children_in source m)
inner-once source c tick m h =
    let g : flat_map (all_member_faults source c tick m) (members m) ≡ [] = back (declaration_faults m) (flat_map (all_member_faults source c tick m) (members m)) h in
    let each : AllByRecursion (λ p. member_faults source c tick m (variables m) p ≡ []) (members m) =
    all-weaker (λ p. all_member_faults source c tick m p ≡ []) (λ p. member_faults source c tick m (variables m) p ≡ []) (members m)
    (λ p e. back (flat_map (expression_faults (variables m)) (member_values p)) (member_faults source c tick m (variables m) p) e) (flat-empty (all_member_faults source c tick m) (members m) g) in
    all-kept (λ i. NamesOnce i.connections) (λ p. child_of_member source p.0 p.1) (enumerate_from 0 (members m))
    (all-weaker (λ x. member_faults source c tick m (variables m) x.1 ≡ []) (λ x. (y : Child) → child_of_member source x.0 x.1 ≡ Some y → NamesOnce y.connections) (enumerate_from 0 (members m))
    (λ x e y g. part-once source c tick m x.0 x.1 e y g) (all-second (λ p. member_faults source c tick m (variables m) p ≡ []) 0 (members m) each))

children-once : (source : Source) (d : ℕ) (above : List Step) (next : ℕ) (is : List Child) → AllByRecursion (λ i. NamesOnce i.connections) is → AllByRecursion (λ c. NamesOnce c.step.connections) (children_from source d above next is)
children-once source d above next [] h = tt
children-once source d above next (i ∷ is) h = (h.0, children-once source d above (next + size source d i.definition) is h.1)

children_at-once : (source : Source) (n : ℕ) (s : Instance) → AllByRecursion (λ i. NamesOnce i.connections) (children_in source s.step.definition) → AllByRecursion (λ c. NamesOnce c.step.connections) (children_at source n s)
children_at-once source zero s h = tt
children_at-once source (suc d) s h = children-once source d (s.step ∷ s.above) (suc s.step.number) (children_in source s.step.definition) h

pub once-by : (c : Step) (x : Connections) → c.connections ≡ x → NamesOnce x → PortsOnce c.definition → AreOnce c
once-by c (by_order es) e n p = once-by_order c es e p
once-by c (by_name cs) e n p = once-by_name c cs e n

-- ---- all instances

abbrev pub IsFaultless : Source → Module → Corner → Instance → Type 0
IsFaultless source top c s = module_faults source c (tick_of source top) s.step.definition ≡ []

pub each-faultless : (source : Source) (top : Module) (c : Corner) → flat_map (instance_faults_below source top c) (instances source top) ≡ [] → AllByRecursion (IsFaultless source top c) (instances source top)
each-faultless source top c z =
    all-weaker (λ s. instance_faults_below source top c s ≡ []) (IsFaultless source top c) (instances source top)
    (λ s e. back (self_instances source s) (module_faults source c (tick_of source top) s.step.definition) e)
    (flat-empty (instance_faults_below source top c) (instances source top) z)

pub connected-once_all : (source : Source) (top : Module) (c : Corner) → AllByRecursion (IsFaultless source top c) (instances source top) → AllByRecursion (ConnectedOnce source) (instances source top)
connected-once_all source top c each =
    all-from (ConnectedOnce source) (instances source top) (λ s there.
    all-from (λ x. AreOnce x.step) (children source s) (λ x k.
    let own = all-in (IsFaultless source top c) s (instances source top) each there in
    let below = all-in (IsFaultless source top c) x (instances source top) each (child-there source levels_below_top (top_instance top) s x refl there k) in
    let names = all-in (λ c. NamesOnce c.step.connections) x (children source s) (children_at-once source s.step.levels s (inner-once source c (tick_of source top) s.step.definition own)) k in
    once-by x.step x.step.connections refl names (declared-once x.step.definition (front (declaration_faults x.step.definition) _ below))))

-- the nets are distinct, where no module of the hierarchy has faults
pub nets-apart_each : (source : Source) (top : Module) (c : Corner) → AllByRecursion (IsFaultless source top c) (instances source top) → AreApart (nets source top)
nets-apart_each source top c each = nets-apart source top (connected-once_all source top c each)
