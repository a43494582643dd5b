-- Where a module has no fault, each instance of a module in it is connected as its ports ask.
use Rattle.std.specs.Prelude.{◌≡◌, ℕ, zero, suc, ◌+◌, List, [], ◌∷◌, ◌++◌, Option, Some, None, flat_map, refl, ℤ}
use Rattle.std.specs.List.{AllByRecursion, enumerate_from}
use Rattle.std.specs.Option.{option_and_then}
use Rattle.std.proofs.Common.{subst}
use Rattle.sg_delay.specs.declared.corners.Corner.{Corner}
use Rattle.vl_tree.specs.Tree.{Part, a_module, a_primitive, Connections, Module, Source}
use Rattle.elab_model.specs.declared.kinds.ElabKind.TheVariants.{BadTerminal}
use Rattle.elab_model.specs.Members.{Member, assignment, supply, gate, instance, path, check, members, connection_values}
use Rattle.elab_model.specs.Definitions.{definition_of, as_module}
use Rattle.elab_model.specs.Ports.{port_list}
use Rattle.elab_model.specs.Names.{Variable, variables}
use Rattle.elab_model.specs.Hierarchy.{Step, Instance, Child, child_of, child_of_member, children_in, children_from, children_at, children, instances, size, top_instance, levels_below_top}
use Rattle.elab_model.specs.Connections.{port_values}
use Rattle.elab_model.specs.Delays.{tick_of}
use Rattle.elab_model.specs.Faults.{fault_if}
use Rattle.elab_model.specs.NameFaults.{no_direction, declaration_faults}
use Rattle.elab_model.specs.TerminalFaults.{expression_faults, is_missing}
use Rattle.elab_model.specs.ModuleFaults.{connection_faults, delay_on_module, instance_faults, member_faults, all_member_faults, module_faults}
use Rattle.elab_laws.specs.Laws.{AreSound}
use Rattle.elab_laws.proofs.Lists.{In, all-in, all-weaker}
use Rattle.elab_laws.proofs.PartsApart.{AreOnce, children-above}
use Rattle.elab_laws.proofs.NetsApart.{ConnectedOnce}
use Rattle.elab_laws.proofs.Once.{all-kept}
use Rattle.elab_laws.proofs.NoFaults.{back, front, flat-empty, all-second, child-there, has-ports, connected-once_all}
use Rattle.elab_laws.proofs.Ports.{FitsPort, values-fit}
use Rattle.elab_laws.proofs.PortConstants.{IsConnected}

-- the members of a module have no fault
abbrev pub MembersSound : Source → Corner → ℤ → Module → Type 0
MembersSound source corner tick m = AllByRecursion (λ p. all_member_faults source corner tick m p ≡ []) (members m)

pub members-sound : (source : Source) (corner : Corner) (tick : ℤ) (m : Module) → module_faults source corner tick m ≡ [] → MembersSound source corner tick m
members-sound source corner tick m h = flat-empty (all_member_faults source corner tick m) (members m) (back (declaration_faults m) (flat_map (all_member_faults source corner tick m) (members m)) h)

-- all that is connected fits its port, if each port has a direction
abbrev Fits : List Variable → Module → Connections → Type 0
Fits vs m x = no_direction m ≡ [] → AllByRecursion (FitsPort vs m) (port_values x (port_list m))

part-fits : (source : Source) (corner : Corner) (tick : ℤ) (m : Module) (k : ℕ) (p : Member) → all_member_faults source corner tick m p ≡ [] → (y : Child) → child_of_member source k p ≡ Some y → Fits (variables m) y.definition y.connections
part-fits source corner tick m k (assignment j) h y e = cc
part-fits source corner tick m k (supply n v) h y e = cc
part-fits source corner tick m k (gate g d i) h y e = cc
part-fits source corner tick m k (path p) h y e = cc
part-fits source corner tick m k (check t) h y e = cc
part-fits source corner tick m k (instance n d i) h y e =
    by (definition_of source n.text) (back (flat_map (expression_faults (variables m)) (connection_values i.connections)) (member_faults source corner tick m (variables m) (instance n d i)) h) e
  where
    by : (o : Option Part) → instance_faults corner tick m (variables m) d i o ≡ [] → child_of (option_and_then as_module o) k i ≡ Some y → Fits (variables m) y.definition y.connections
    by None f e = cc
    by (Some (a_primitive p)) f e = cc
    by (Some (a_module x)) f e =
        let cs = connection_faults (variables m) x i.place i.connections in
        let connected : cs ≡ [] = back (delay_on_module d) cs (back (fault_if (is_missing i.name) BadTerminal i.place) (delay_on_module d ++ cs) f) in
        let sound : flat_map (expression_faults (variables m)) (connection_values i.connections) ≡ [] =
        front (flat_map (expression_faults (variables m)) (connection_values i.connections)) (member_faults source corner tick m (variables m) (instance n d i)) h in
        let c : Child = record { definition = x; member = k; place = i.place; name = i.name; connections = i.connections } in
        let same : c ≡ y = cc in
        subst (λ y. Fits (variables m) y.definition y.connections) same (λ d. values-fit (variables m) x d i.place i.connections connected sound)

-- what holds of the texts of children
children-all : (P : Module → Connections → Type 0) (source : Source) (d : ℕ) (above : List Step) (next : ℕ) (is : List Child) → AllByRecursion (λ i. P i.definition i.connections) is
    → AllByRecursion (λ c. P c.step.definition c.step.connections) (children_from source d above next is)
children-all P source d above next [] h = tt
children-all P source d above next (i ∷ is) h = (h.0, children-all P source d above (next + size source d i.definition) is h.1)

children_at-all : (P : Module → Connections → Type 0) (source : Source) (n : ℕ) (s : Instance) → AllByRecursion (λ i. P i.definition i.connections) (children_in source s.step.definition)
    → AllByRecursion (λ c. P c.step.definition c.step.connections) (children_at source n s)
children_at-all P source zero s h = tt
children_at-all P source (suc d) s h = children-all P source d (s.step ∷ s.above) (suc s.step.number) (children_in source s.step.definition) h

children-fit : (source : Source) (corner : Corner) (tick : ℤ) (s : Instance) → MembersSound source corner tick s.step.definition
    → AllByRecursion (λ c. Fits (variables s.step.definition) c.step.definition c.step.connections) (children source s)
children-fit source corner tick s each =
    let m = s.step.definition in
    children_at-all (Fits (variables m)) source s.step.levels s
    (all-kept (λ i. Fits (variables m) i.definition i.connections) (λ p. child_of_member source p.0 p.1) (enumerate_from 0 (members m))
    (all-weaker (λ x. all_member_faults source corner tick m x.1 ≡ []) (λ x. (y : Child) → child_of_member source x.0 x.1 ≡ Some y → Fits (variables m) y.definition y.connections) (enumerate_from 0 (members m))
    (λ x e y g. part-fits source corner tick m x.0 x.1 e y g) (all-second (λ p. all_member_faults source corner tick m p ≡ []) 0 (members m) each)))

pub is-connected : (source : Source) (top : Module) (corner : Corner) → AreSound source top corner → (s c : Instance) → In s (instances source top) → In c (children source s) → IsConnected source top s c
is-connected source top corner sound s c there child =
    let tick = tick_of source top in
    let own = all-in (λ s. module_faults source corner tick s.step.definition ≡ []) s (instances source top) sound there in
    let once = all-in (ConnectedOnce source) s (instances source top) (connected-once_all source top corner sound) there in
    let among = child-there source levels_below_top (top_instance top) s c refl there child in
    let below = all-in (λ s. module_faults source corner tick s.step.definition ≡ []) c (instances source top) sound among in
    let directed = (has-ports c.step.definition (front (declaration_faults c.step.definition) _ below)).directed in
    let fit = children-fit source corner tick s (members-sound source corner tick s.step.definition own) in
    record {
      there = there;
      child = child;
      above = all-in (λ c. c.above ≡ s.step ∷ s.above) c (children source s) (children-above source s.step.levels s) child;
      once = all-in (λ c. AreOnce c.step) c (children source s) once child;
      fit = all-in (λ c. Fits (variables s.step.definition) c.step.definition c.step.connections) c (children source s) fit child directed;
    }
