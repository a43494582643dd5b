-- What the elements of each member read and drive has nets, and so all elements.
use Rattle.std.specs.Prelude.{◌≡◌, ℕ, suc, [], ◌++◌, Option, Some, None, length, flat_map, refl, not, ℤ}
use Rattle.std.specs.List.{enumerate_from}
use Rattle.std.proofs.Common.{sym, ap, subst}
use Rattle.sg_circuit.specs.Circuit.{Gate, Udp}
use Rattle.sg_delay.specs.declared.corners.Corner.{Corner}
use Rattle.sg_logic.specs.Gate.{most_delays}
use Rattle.sg_logic.specs.declared.gates.GateKind.{GateKind}
use Rattle.vl_tree.specs.Tree.{Part, a_module, a_primitive, Primitive, GateInstance, Instance as instance_text, Delay, Named, Module, Source}
use Rattle.elab_model.specs.declared.kinds.ElabKind.TheVariants.{BadTerminal}
use Rattle.elab_model.specs.Members.{Member, assignment, supply, gate, instance, path, check, members, connection_values}
use Rattle.elab_model.specs.Definitions.{definition_of}
use Rattle.elab_model.specs.Names.{variables}
use Rattle.elab_model.specs.Hierarchy.{Instance, children, instances}
use Rattle.elab_model.specs.Delays.{tick_of, delays_of}
use Rattle.elab_model.specs.Primitives.{table_of, initial_value}
use Rattle.elab_model.specs.Elements.{output_count, output_bits, input_bits, terminal_elements, child_elements, child_at, instance_elements, member_elements, elements_of, legs}
use Rattle.elab_model.specs.Nets.{instance_nets, terminal_nets, nets}
use Rattle.elab_model.specs.Faults.{fault_if}
use Rattle.elab_model.specs.TerminalFaults.{expression_faults, terminal_faults, delay_faults}
use Rattle.elab_model.specs.PrimitiveFaults.{primitive_faults}
use Rattle.elab_model.specs.ModuleFaults.{are_terminals, takes_terminals, instance_faults, member_faults, all_member_faults, module_faults}
use Rattle.elab_laws.specs.Laws.{AreSound}
use Rattle.elab_laws.proofs.Lists.{In, all-in, all-append, all-flat_in, all-from}
use Rattle.elab_laws.proofs.PartsApart.{child_at-all}
use Rattle.elab_laws.proofs.NoFaults.{front, back, all-second}
use Rattle.elab_laws.specs.ElementLaws.{HasNets, ElementsHaveNets}
use Rattle.elab_laws.proofs.HaveNets.{HaveNets, all-flat_from}
use Rattle.elab_laws.proofs.Legs.{legs-have}
use Rattle.elab_laws.proofs.Passes.{assignment-has, supply-has}
use Rattle.elab_laws.proofs.DrivenNets.{paths-have}
use Rattle.elab_laws.proofs.LateNets.{lates-have}
use Rattle.elab_laws.proofs.ElementWidths.{no-fault}
use Rattle.elab_laws.proofs.Gates.{AreTerminals, terminals-have, has-output}
use Rattle.elab_laws.proofs.PortConstants.{child-has}
use Rattle.elab_laws.proofs.Connected.{members-sound, is-connected}

-- a member, by its number, among those of an instance
abbrev IsMember : Instance → ℕ → Member → Type 0
IsMember s k x = In (k, x) (enumerate_from 0 (members s.step.definition))

gate-has : (source : Source) (top : Module) (corner : Corner) (tick : ℤ) (s : Instance) (k : ℕ) (g : GateKind) (d : Option Delay) (i : GateInstance) → In s (instances source top) → IsMember s k (gate g d i)
    → all_member_faults source corner tick s.step.definition (gate g d i) ≡ [] → HaveNets source top (member_elements source corner tick s (k, gate g d i))
gate-has source top corner tick s k g d i there member h =
    let m = s.step.definition in
    let vs = variables m in
    let es = i.terminals in
    let named = flat_map (expression_faults vs) es in
    let few = fault_if (not (takes_terminals g (length es))) BadTerminal i.place in
    let ts = terminal_faults vs (output_count g (length es)) es in
    let ds = delay_faults (most_delays g) corner tick m d in
    let own : few ++ (ts ++ ds) ≡ [] = back named (few ++ (ts ++ ds)) h in
    let faultless : ts ≡ [] = front ts ds (back few (ts ++ ds) own) in
    let output = has-output g (length es) (no-fault (not (takes_terminals g (length es))) BadTerminal i.place (front few (ts ++ ds) own)) in
    let kind = Gate g (delays_of corner tick m d) in
    let t : AreTerminals source s k (gate g d i) (suc output.0) es = record {
      there = member;
      nets_are = ap (λ o. terminal_nets s k (output_bits s o es) (input_bits s o es)) output.1;
      sound = front named (few ++ (ts ++ ds)) h;
      faultless = subst (λ o. terminal_faults vs o es ≡ []) output.1 faultless;
    } in
    subst (λ o. HaveNets source top (terminal_elements source s i.place k kind (output_bits s o es) (input_bits s o es))) (sym output.1)
    (terminals-have source top s i.place k (gate g d i) kind output.0 es there t)

primitive-has : (source : Source) (top : Module) (corner : Corner) (tick : ℤ) (s : Instance) (k : ℕ) (n : Named) (d : Option Delay) (i : instance_text) (p : Primitive) → In s (instances source top)
    → IsMember s k (instance n d i) → definition_of source n.text ≡ Some (a_primitive p) → flat_map (expression_faults (variables s.step.definition)) (connection_values i.connections) ≡ []
    → instance_faults corner tick s.step.definition (variables s.step.definition) d i (Some (a_primitive p)) ≡ [] → HaveNets source top (instance_elements source corner tick s k d i (Some (a_primitive p)))
primitive-has source top corner tick s k n d i p there member is sound h =
    let m = s.step.definition in
    let vs = variables m in
    let es = connection_values i.connections in
    let wrong = fault_if (not (are_terminals p i.connections)) BadTerminal i.place in
    let ts = terminal_faults vs 1 es in
    let rest = delay_faults 2 corner tick m d ++ primitive_faults p in
    let faultless : ts ≡ [] = front ts rest (back wrong (ts ++ rest) h) in
    let t : AreTerminals source s k (instance n d i) 1 es = record { there = member; nets_are = ap (instance_nets source s k i) is; sound = sound; faultless = faultless } in
    terminals-have source top s i.place k (instance n d i) (Udp (table_of p) (initial_value p.initial) (delays_of corner tick m d)) 0 es there t

module-has : (source : Source) (top : Module) (corner : Corner) → AreSound source top corner → (s : Instance) (k : ℕ) → In s (instances source top)
    → HaveNets source top (flat_map (child_elements source s) (child_at source s k))
module-has source top corner sound s k there =
    all-flat_in (HasNets (nets source top)) (child_elements source s) (child_at source s k)
    (child_at-all (λ c. HaveNets source top (child_elements source s c)) source s k
    (all-from (λ c. HaveNets source top (child_elements source s c)) (children source s) (λ c h. child-has source top s c (is-connected source top corner sound s c there h))))

member-has : (source : Source) (top : Module) (corner : Corner) → AreSound source top corner → (s : Instance) (k : ℕ) (x : Member) → In s (instances source top) → IsMember s k x
    → all_member_faults source corner (tick_of source top) s.step.definition x ≡ [] → HaveNets source top (member_elements source corner (tick_of source top) s (k, x))
member-has source top corner sound s k (assignment j) there member h = assignment-has source top s j there
member-has source top corner sound s k (supply n v) there member h = supply-has source top s n v there
member-has source top corner sound s k (gate g d i) there member h = gate-has source top corner (tick_of source top) s k g d i there member h
member-has source top corner sound s k (path p) there member h = paths-have source top s p.place (k, path p) there member
member-has source top corner sound s k (check t) there member h = lates-have source top s (k, check t) there member
member-has source top corner sound s k (instance n d i) there member h =
    let values = flat_map (expression_faults (variables s.step.definition)) (connection_values i.connections) in
    let own = member_faults source corner (tick_of source top) s.step.definition (variables s.step.definition) (instance n d i) in
    by (definition_of source n.text) refl (front values own h) (back values own h)
  where
    by : (o : Option Part) → definition_of source n.text ≡ o → flat_map (expression_faults (variables s.step.definition)) (connection_values i.connections) ≡ []
        → instance_faults corner (tick_of source top) s.step.definition (variables s.step.definition) d i o ≡ [] → HaveNets source top (instance_elements source corner (tick_of source top) s k d i o)
    by None e named f = tt
    by (Some (a_module m)) e named f = module-has source top corner sound s k there
    by (Some (a_primitive p)) e named f = primitive-has source top corner (tick_of source top) s k n d i p there member e named f

instance-has : (source : Source) (top : Module) (corner : Corner) → AreSound source top corner → (s : Instance) → In s (instances source top)
    → HaveNets source top (elements_of source corner (tick_of source top) s)
instance-has source top corner sound s there =
    let tick = tick_of source top in
    let m = s.step.definition in
    let faultless = all-in (λ s. module_faults source corner tick s.step.definition ≡ []) s (instances source top) sound there in
    let each = all-second (λ p. all_member_faults source corner tick m p ≡ []) 0 (members m) (members-sound source corner tick m faultless) in
    all-append (HasNets (nets source top)) (legs source s) (flat_map (member_elements source corner tick s) (enumerate_from 0 (members m)))
    (legs-have source top s there)
    (all-flat_from (HasNets (nets source top)) (member_elements source corner tick s) (enumerate_from 0 (members m))
    (λ x h. member-has source top corner sound s x.0 x.1 there h (all-in (λ x. all_member_faults source corner tick m x.1 ≡ []) x (enumerate_from 0 (members m)) each h)))

pub elements-have_nets : ElementsHaveNets
elements-have_nets source top corner sound =
    all-flat_from (HasNets (nets source top)) (elements_of source corner (tick_of source top)) (instances source top) (λ s there. instance-has source top corner sound s there)
