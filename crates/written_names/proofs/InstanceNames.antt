-- The instances of modules with good names, where no fault stands, have good names.
use Rattle.std.specs.Prelude.{◌≡◌, ℕ, zero, suc, ◌+◌, ℤ, IfSome, IsSome, List, [], ◌∷◌, ◌++◌, flat_map, Option, Some, None, refl}
use Rattle.std.specs.List.{AllByRecursion, enumerate_from}
use Rattle.std.specs.Option.{option_and_then}
use Rattle.std.proofs.Common.{sym, subst, inl, inr}
use Rattle.sg_delay.specs.declared.corners.Corner.{Corner}
use Rattle.vl_tree.specs.Tree.{Module, Named, Part, Source, a_module, a_primitive}
use Rattle.vl_tree.specs.Tree as tree
use Rattle.elab_model.specs.Definitions.{as_module, definition_of}
use Rattle.elab_model.specs.Delays.{tick_of}
use Rattle.elab_model.specs.Faults.{fault_if}
use Rattle.elab_model.specs.Hierarchy.{Child, Instance, Step, child_of, child_of_member, children, children_at, children_from, children_in, instances, levels_below_top, size, text_of, top_instance}
use Rattle.elab_model.specs.Members.{Member, assignment, assignment_to, check, gate, instance, member_of_item, member_values, members, members_of_item, path, supply, supply_value}
use Rattle.elab_model.specs.ModuleFaults.{all_member_faults, connection_faults, delay_on_module, instance_faults, member_faults, module_faults}
use Rattle.elab_model.specs.NameFaults.{declaration_faults}
use Rattle.elab_model.specs.Names.{variables}
use Rattle.elab_model.specs.TerminalFaults.{expression_faults, is_missing}
use Rattle.elab_model.specs.declared.kinds.ElabKind.TheVariants.{BadTerminal}
use Rattle.elab_laws.proofs.Lists.{In, all-anyway, all-flat_in, all-in, all-map, all-weaker}
use Rattle.elab_laws.proofs.NoFaults.{IsFaultless, all-second, back, flat-empty, front}
use Rattle.elab_laws.proofs.Once.{all-kept}
use Rattle.elab_laws.proofs.Parents.{has-parent}
use Rattle.written_reading.specs.Named.{IsNameText}
use Rattle.written_names.proofs.DeclaredNames.{IsNamed, IsNamedInstance, IsNamedItem, IsNamedModule}
use Rattle.written_names.proofs.InstanceLaws.{HasName}

-- a child has a name, and it is good
pub record IsNamedChild (c : Child) : Type 0 where
  pub some : HasName c
  pub name : IsNameText (text_of c.name)

-- ---- the children of a module

-- an instance of a module, which has no fault, has a name
abbrev IsNamedUse : Member → Type 0
IsNamedUse (assignment j) = Unit {0}
IsNamedUse (supply n v) = Unit {0}
IsNamedUse (gate g d i) = Unit {0}
IsNamedUse (instance n d i) = IfSome i.name IsNamed
IsNamedUse (path p) = Unit {0}
IsNamedUse (check c) = Unit {0}

assigned : (n : tree.NetName) (y : Member) → assignment_to n.name n.value ≡ Some y → IsNamedUse y
assigned n y e = at n.value e
  where
    at : (o : Option tree.Expression) → assignment_to n.name o ≡ Some y → IsNamedUse y
    at None e = absurd cc
    at (Some x) e = subst (λ o. IfSome o IsNamedUse) e tt

specified : (i : tree.SpecifyItem) (y : Member) → member_of_item i ≡ Some y → IsNamedUse y
specified (tree.specparams p ps) y e = absurd cc
specified (tree.pulse_style p s ts) y e = absurd cc
specified (tree.a_path p) y e = subst (λ o. IfSome o IsNamedUse) e tt
specified (tree.a_check c) y e = subst (λ o. IfSome o IsNamedUse) e tt

item_uses : (i : tree.Item) → IsNamedItem i → AllByRecursion IsNamedUse (members_of_item i)
item_uses (tree.ports p d t r ns) h = tt
item_uses (tree.nets p t r ns) h = all-kept IsNamedUse (λ n. assignment_to n.name n.value) ns (all-anyway (λ (n : tree.NetName). (y : Member) → assignment_to n.name n.value ≡ Some y → IsNamedUse y) ns assigned)
item_uses (tree.supplies p s r ns) h = all-map IsNamedUse (λ n. supply n (supply_value s)) ns (all-anyway (λ n. Unit {0}) ns (λ n. tt))
item_uses (tree.registers p ns) h = tt
item_uses (tree.assigns p js) h = all-map IsNamedUse assignment js (all-anyway (λ n. Unit {0}) js (λ n. tt))
item_uses (tree.gates p g d is) h = all-map IsNamedUse (gate g d) is (all-anyway (λ n. Unit {0}) is (λ n. tt))
item_uses (tree.instances n d is) h = all-map IsNamedUse (instance n d) is (all-weaker IsNamedInstance (λ i. IfSome i.name IsNamed) is (λ i k. k.0) h)
item_uses (tree.specify_block b) h = all-kept IsNamedUse member_of_item b.items (all-anyway (λ (i : tree.SpecifyItem). (y : Member) → member_of_item i ≡ Some y → IsNamedUse y) b.items specified)

named_child : (c : Child) → IfSome c.name IsNamed → fault_if (is_missing c.name) BadTerminal c.place ≡ [] → IsNamedChild c
named_child c u e = record { some = (by c.name u e).0; name = (by c.name u e).1 }
  where
    by : (o : Option Named) → IfSome o IsNamed → fault_if (is_missing o) BadTerminal c.place ≡ [] → IsSome o × IsNameText (text_of o)
    by None u e = absurd cc
    by (Some n) u e = (refl, u)

child_of_use : (source : Source) (c : Corner) (tick : ℤ) (m : Module) (k : ℕ) (p : Member) → IsNamedUse p → member_faults source c tick m (variables m) p ≡ [] → (y : Child) → child_of_member source k p ≡ Some y → IsNamedChild y
child_of_use source c tick m k (assignment j) u h y e = absurd cc
child_of_use source c tick m k (supply n v) u h y e = absurd cc
child_of_use source c tick m k (gate g d i) u h y e = absurd cc
child_of_use source c tick m k (path p) u h y e = absurd cc
child_of_use source c tick m k (check t) u h y e = absurd cc
child_of_use source c tick m k (instance n d i) u h y e = by (definition_of source n.text) h e
  where
    by : (o : Option Part) → instance_faults c tick m (variables m) d i o ≡ [] → child_of (option_and_then as_module o) k i ≡ Some y → IsNamedChild y
    by None h e = absurd cc
    by (Some (a_primitive p)) h e = absurd cc
    by (Some (a_module x)) h e =
        subst (λ o. IfSome o IsNamedChild) e
        (named_child (record { definition = x; member = k; place = i.place; name = i.name; connections = i.connections }) u
        (front (fault_if (is_missing i.name) BadTerminal i.place) (delay_on_module d ++ connection_faults (variables m) x i.place i.connections) h))

both : {A : Type 0} (P Q : A → Type 0) (xs : List A) → AllByRecursion P xs → AllByRecursion Q xs → AllByRecursion (λ x. P x × Q x) xs
both P Q [] h k = tt
both P Q (x ∷ xs) h k = ((h.0, k.0), both P Q xs h.1 k.1)

children_named : (source : Source) (c : Corner) (tick : ℤ) (m : Module) → IsNamedModule m → module_faults source c tick m ≡ [] → AllByRecursion IsNamedChild (children_in source m)
children_named source c tick m h e =
    all-kept IsNamedChild (λ p. child_of_member source p.0 p.1) (enumerate_from 0 (members m))
    (all-weaker (λ x. Plain x.1) (λ x. (y : Child) → child_of_member source x.0 x.1 ≡ Some y → IsNamedChild y) (enumerate_from 0 (members m))
    (λ x q y g. child_of_use source c tick m x.0 x.1 q.0 q.1 y g) (all-second Plain 0 (members m) (both IsNamedUse (λ p. member_faults source c tick m (variables m) p ≡ []) (members m) uses each)))
  where
    Plain : Member → Type 0
    Plain p = IsNamedUse p × (member_faults source c tick m (variables m) p ≡ [])

    uses : AllByRecursion IsNamedUse (members m)
    uses = all-flat_in IsNamedUse members_of_item m.items (all-weaker IsNamedItem (λ i. AllByRecursion IsNamedUse (members_of_item i)) m.items item_uses h.items)

    each : AllByRecursion (λ p. member_faults source c tick m (variables m) p ≡ []) (members m)
    each =
        all-weaker (λ p. all_member_faults source c tick m p ≡ []) (λ p. member_faults source c tick m (variables m) p ≡ []) (members m)
        (λ p g. back (flat_map (expression_faults (variables m)) (member_values p)) (member_faults source c tick m (variables m) p) g)
        (flat-empty (all_member_faults source c tick m) (members m) (back (declaration_faults m) (flat_map (all_member_faults source c tick m) (members m)) e))

-- ---- all instances

abbrev HasGoodName : Instance → Type 0
HasGoodName s = IsNameText s.step.name

from_named : (source : Source) (levels : ℕ) (above : List Step) (next : ℕ) (cs : List Child) → AllByRecursion IsNamedChild cs → AllByRecursion HasGoodName (children_from source levels above next cs)
from_named source levels above next [] h = tt
from_named source levels above next (c ∷ cs) h = (h.0.name, from_named source levels above (next + size source levels c.definition) cs h.1)

at_named : (source : Source) (levels : ℕ) (s : Instance) → AllByRecursion IsNamedChild (children_in source s.step.definition) → AllByRecursion HasGoodName (children_at source levels s)
at_named source zero s h = tt
at_named source (suc levels) s h = from_named source levels (s.step ∷ s.above) (suc s.step.number) (children_in source s.step.definition) h

abbrev pub IsOfNamed : Instance → Type 0
IsOfNamed s = IsNamedModule s.step.definition

pub each_child_named : (source : Source) (top : Module) (corner : Corner) → AllByRecursion (IsFaultless source top corner) (instances source top) → AllByRecursion IsOfNamed (instances source top)
    → (s : Instance) → In s (instances source top) → AllByRecursion IsNamedChild (children_in source s.step.definition)
each_child_named source top corner faultless named s there =
    children_named source corner (tick_of source top) s.step.definition (all-in IsOfNamed s (instances source top) named there) (all-in (IsFaultless source top corner) s (instances source top) faultless there)

pub instance_named : (source : Source) (top : Module) (corner : Corner) → AllByRecursion (IsFaultless source top corner) (instances source top) → AllByRecursion IsOfNamed (instances source top)
    → (x : Instance) → In x (instances source top) → IsNameText x.step.name
instance_named source top corner faultless named x there = elim (has-parent source levels_below_top (top_instance top) x refl there) [
  | inl e ↦ subst HasGoodName (sym e) (subst IsOfNamed e (all-in IsOfNamed x (instances source top) named there)).name
  | inr p ↦ all-in HasGoodName x (children source p.parent) (at_named source p.parent.step.levels p.parent (each_child_named source top corner faultless named p.parent p.there)) p.child
]
