-- Where a module has no fault, its elements have the inputs and the delays that their kinds ask for.
use Rattle.std.specs.Prelude.{◌≡◌, ℕ, zero, suc, ◌-◌, ◌==◌, ◌||◌, List, [], ◌∷◌, ◌++◌, true, false, not, Option, Some, None, flat_map, filter_map, zip, length, map, drop, refl, ℤ}
use Rattle.std.specs.List.{AllByRecursion, enumerate_from, list_any}
use Rattle.std.proofs.Common.{sym, ◌∙◌, ap, arith, subst, length-drop}
use Rattle.std.proofs.lemmas.Bool.{and_parts, eqb-true, not-false, not-true}
use Rattle.std.proofs.lemmas.List.{length-map}
use Rattle.std.proofs.lemmas.List.Elements.{All-from_recursion}
use Rattle.std.proofs.lemmas.List.FromFn.{length-enumerate_from}
use Rattle.sg_circuit.specs.Circuit.{Kind, Gate, Udp}
use Rattle.sg_circuit.specs.Closed.{AreTimings, TakesInputs, HasDelays, IsPathOf, NamesNets}
use Rattle.sg_delay.specs.declared.corners.Corner.{Corner}
use Rattle.sg_logic.specs.Gate.{most_delays, TakesInputs as GateTakes}
use Rattle.sg_logic.specs.declared.gates.GateKind.{GateKind}
use Rattle.sg_text.specs.declared.places.Place.{Place}
use Rattle.vl_tree.specs.Tree.{Expression, Delay, Source, Part, a_module, a_primitive, Primitive, Connections, by_order, by_name, GateInstance, Instance as instance_text}
use Rattle.elab_model.specs.declared.kinds.ElabKind.TheVariants.{BadTerminal}
use Rattle.elab_model.specs.Bits.{Bit, net, constant, positions, leaf_bits}
use Rattle.elab_model.specs.Connections.{port_values}
use Rattle.elab_model.specs.Definitions.{definition_of}
use Rattle.elab_model.specs.Delays.{delays_of}
use Rattle.elab_model.specs.Elements.{Component, expression_bits, leg_at, variable_legs, legs, pass_to, constant_pass, output_count, input_spot, output_bits, input_bits, output_element, path_at, late_at}
use Rattle.elab_model.specs.Elements.{terminal_elements}
use Rattle.elab_model.specs.Elements.{port_spot, port_elements, child_elements, child_at, instance_elements, member_elements, elements_of}
use Rattle.elab_model.specs.Ends.{first_ends}
use Rattle.elab_model.specs.Hierarchy.{Step, Instance, is_leaf}
use Rattle.elab_model.specs.Homes.{Spot, bit, inner, terminal, is_input, is_same_spot, home, same_above}
use Rattle.elab_model.specs.Lates.{DelayedCopy, own_copies}
use Rattle.elab_model.specs.Leaves.{whole}
use Rattle.elab_model.specs.Members.{Member, assignment, supply, gate, instance, path, check, members, connection_values}
use Rattle.elab_model.specs.ModuleFaults.{are_terminals, takes_terminals, primitive_instance_faults, instance_faults, member_faults, all_member_faults, module_faults}
use Rattle.elab_model.specs.Names.{variables}
use Rattle.elab_model.specs.Ports.{port_list}
use Rattle.elab_model.specs.PrimitiveFaults.{primitive_faults}
use Rattle.elab_model.specs.Primitives.{table_of, initial_value}
use Rattle.elab_model.specs.TerminalFaults.{is_missing, expression_faults, width_faults, terminal_faults, delay_faults}
use Rattle.elab_model.specs.Terms.{NetBit}
use Rattle.elab_model.specs.Faults.{fault_if}
use Rattle.elab_model.proofs.TerminalLaws.{inputs-taken}
use Rattle.elab_laws.proofs.Lists.{all-append, all-flat, all-flat_in, all-map, all-anyway, all-weaker}
use Rattle.elab_laws.proofs.PartsApart.{all-if}
use Rattle.elab_laws.proofs.NoFaults.{front, back, all-second}
use Rattle.elab_laws.proofs.Connected.{members-sound}
use Rattle.elab_laws.proofs.ElementWidths.{no-fault, bits-count}
use Rattle.elab_closed.proofs.Delays.{gate-delays, leg-delays}

-- where it reads an inner net, it reads that alone
abbrev pub ReadsInnerAlone : List Spot → Type 0
ReadsInnerAlone spots = (s : ℕ) (n : List ℕ) (p : ℕ) → list_any (is_same_spot (inner s n p)) spots ≡ true → length spots ≡ 1

-- an element of an instance of this number, that has what its kind asks for
pub record Fits (k : ℕ) (c : Component) : Type 0 where
  pub scope : c.scope ≡ k
  pub takes : TakesInputs c.kind (length c.inputs)
  pub delays : HasDelays c.kind
  pub paths : (n : ℕ) → NamesNets n c.kind
  pub alone : ReadsInnerAlone c.inputs

reads-nothing : ReadsInnerAlone []
reads-nothing s n p e = cc

-- ---- legs, passes, paths and Lates

leg-fits : (source : Source) (s : Instance) (n : List ℕ) (p : ℕ) → Fits s.step.number (leg_at source s n p)
leg-fits source s n p = record { scope = refl; takes = refl; delays = leg-delays; paths = λ n. tt; alone = λ s n p e. refl }

legs-fit : (source : Source) (s : Instance) → AllByRecursion (Fits s.step.number) (legs source s)
legs-fit source s =
    all-if (Fits s.step.number) (is_leaf source s) (flat_map (variable_legs source s) (variables s.step.definition))
    (all-flat (Fits s.step.number) (variable_legs source s) (variables s.step.definition)
    (λ v. all-if (Fits s.step.number) (is_input v.port) (map (leg_at source s v.name) (positions v.range))
    (all-map (Fits s.step.number) (leg_at source s v.name) (positions v.range) (all-anyway (λ p. Fits s.step.number (leg_at source s v.name p)) (positions v.range) (leg-fits source s v.name)))))

pass-fits : (source : Source) (s : Instance) (at : Place) (b : Bit × Bit) → AllByRecursion (Fits s.step.number) (pass_to source s at b)
pass-fits source s at (net n p, net m q) = (record { scope = refl; takes = refl; delays = tt; paths = λ n. tt; alone = λ s n p e. refl }, tt)
pass-fits source s at (net n p, constant there v) = (record { scope = refl; takes = refl; delays = tt; paths = λ n. tt; alone = reads-nothing }, tt)
pass-fits source s at (constant there v, b) = tt

constant-fits : (s : Instance) (spot : Spot) (b : Bit) → AllByRecursion (Fits s.step.number) (constant_pass s spot b)
constant-fits s spot (net n p) = tt
constant-fits s spot (constant at v) = (record { scope = refl; takes = refl; delays = tt; paths = λ n. tt; alone = reads-nothing }, tt)

path-fits : (source : Source) (s : Instance) (at : Place) (b : NetBit) → Fits s.step.number (path_at source s at b)
path-fits source s at b = record { scope = refl; takes = refl; delays = All-from_recursion (λ p. AreTimings p.timings) [] tt; paths = λ n. All-from_recursion (IsPathOf n) [] tt; alone = λ s n p e. refl }

late-fits : (source : Source) (s : Instance) (c : Place × DelayedCopy) → Fits s.step.number (late_at source s c)
late-fits source s c = record { scope = refl; takes = refl; delays = omega arith; paths = λ n. tt; alone = λ s n p e. refl }

-- ---- gates and primitives

-- no bit's net is an inner one
pub home-outer : (source : Source) (s : Step) (above : List Step) (n : List ℕ) (p t : ℕ) (m : List ℕ) (q : ℕ) → is_same_spot (inner t m q) (home source s above n p) ≡ false
home-outer source s [] n p t m q = refl
home-outer source s (parent ∷ above) n p t m q = by (same_above source s parent n p) (λ k i. home-outer source parent above k i t m q)
  where
    by : (o : Option Bit) → ((k : List ℕ) (i : ℕ) → is_same_spot (inner t m q) (home source parent above k i) ≡ false)
        → is_same_spot (inner t m q) (elim o [ None ↦ bit s.number n p | Some (net k i) ↦ home source parent above k i | Some (constant at v) ↦ bit s.number n p ]) ≡ false
    by None rest = refl
    by (Some (net k i)) rest = rest k i
    by (Some (constant at v)) rest = refl

input-outer : (source : Source) (s : Instance) (k : ℕ) (x : ℕ × Bit) (t : ℕ) (m : List ℕ) (q : ℕ) → is_same_spot (inner t m q) (input_spot source s k x) ≡ false
input-outer source s k (i, net n p) t m q = home-outer source s.step s.above n p t m q
input-outer source s k (i, constant at v) t m q = refl

none-read : (source : Source) (s : Instance) (k : ℕ) (xs : List (ℕ × Bit)) (t : ℕ) (m : List ℕ) (q : ℕ) → list_any (is_same_spot (inner t m q)) (map (input_spot source s k) xs) ≡ false
none-read source s k [] t m q = refl
none-read source s k (x ∷ xs) t m q = ap (λ b. b || list_any (is_same_spot (inner t m q)) (map (input_spot source s k) xs)) (input-outer source s k x t m q) ∙ none-read source s k xs t m q

output-fits : (source : Source) (s : Instance) (at : Place) (kind : Kind) (inputs : List Spot) → TakesInputs kind (length inputs) → HasDelays kind → ((n : ℕ) → NamesNets n kind)
    → ReadsInnerAlone inputs → (b : Bit) → AllByRecursion (Fits s.step.number) (output_element source s at kind inputs b)
output-fits source s at kind inputs h g ns alone (net n p) = (record { scope = refl; takes = h; delays = g; paths = ns; alone = alone }, tt)
output-fits source s at kind inputs h g ns alone (constant there v) = tt

terminals-fit : (source : Source) (s : Instance) (at : Place) (k : ℕ) (kind : Kind) (outputs inputs : List Bit) → TakesInputs kind (length inputs) → HasDelays kind → ((n : ℕ) → NamesNets n kind)
    → AllByRecursion (Fits s.step.number) (terminal_elements source s at k kind outputs inputs)
terminals-fit source s at k kind outputs inputs h g ns =
    let numbered = enumerate_from 0 inputs in
    let spots = map (input_spot source s k) numbered in
    let l : length spots ≡ length inputs = length-map numbered (input_spot source s k) ∙ length-enumerate_from 0 inputs in
    all-append (Fits s.step.number) (flat_map (output_element source s at kind spots) outputs) (flat_map (λ i. constant_pass s (terminal s.step.number k i.0) i.1) numbered)
    (all-flat (Fits s.step.number) (output_element source s at kind spots) outputs
    (output-fits source s at kind spots (subst (TakesInputs kind) (sym l) h) g ns (λ t m q e. let f : list_any (is_same_spot (inner t m q)) spots ≡ false = none-read source s k numbered t m q in cc)))
    (all-flat (Fits s.step.number) (λ i. constant_pass s (terminal s.step.number k i.0) i.1) numbered (λ i. constant-fits s (terminal s.step.number k i.0) i.1))

-- what stands behind the outputs is one bit each
dropped : {A B : Type 0} (f : A → List B) (n : ℕ) (xs : List A) → flat_map f xs ≡ [] → flat_map f (drop n xs) ≡ []
dropped f zero xs h = h
dropped f (suc n) [] h = h
dropped f (suc n) (x ∷ xs) h = dropped f n xs (back (f x) (flat_map f xs) h)

inputs-count : (s : Instance) (outputs : ℕ) (es : List Expression) → flat_map (expression_faults (variables s.step.definition)) es ≡ [] → flat_map (width_faults (variables s.step.definition) 1) es ≡ []
    → length (input_bits s outputs es) ≡ length es - outputs
inputs-count s outputs es sound one =
    let vs = variables s.step.definition in
    bits-count vs (drop outputs es) (dropped (expression_faults vs) outputs es sound) (dropped (width_faults vs 1) outputs es one) ∙ length-drop outputs es

-- as many terminals as ports
all-present : (es : List (Option Expression)) → list_any is_missing es ≡ false → length (filter_map (λ e. e) es) ≡ length es
all-present [] h = refl
all-present (None ∷ es) h = cc
all-present (Some e ∷ es) h = let l = all-present es h in omega arith

ports-counted : (p : Primitive) (c : Connections) → are_terminals p c ≡ true → length (connection_values c) ≡ length p.ports
ports-counted p (by_name cs) h = cc
ports-counted p (by_order es) h =
    let two = and_parts (not (list_any is_missing es)) (length es == length p.ports) h in
    all-present es (not-true (list_any is_missing es) two.0) ∙ eqb-true (length es) (length p.ports) two.1

gate-fits : (source : Source) (corner : Corner) (tick : ℤ) (s : Instance) (k : ℕ) (g : GateKind) (d : Option Delay) (i : GateInstance)
    → flat_map (expression_faults (variables s.step.definition)) i.terminals ≡ [] → member_faults source corner tick s.step.definition (variables s.step.definition) (gate g d i) ≡ []
    → AllByRecursion (Fits s.step.number) (member_elements source corner tick s (k, gate g d i))
gate-fits source corner tick s k g d i sound h =
    let vs = variables s.step.definition in
    let m = s.step.definition in
    let ends = terminal_faults vs (output_count g (length i.terminals)) i.terminals in
    let widths = flat_map (width_faults vs 1) i.terminals in
    let late = delay_faults (most_delays g) corner tick m d in
    let few = fault_if (not (takes_terminals g (length i.terminals))) BadTerminal i.place in
    let later : ends ++ late ≡ [] = back few (ends ++ late) h in
    let taken : takes_terminals g (length i.terminals) ≡ true = not-false (takes_terminals g (length i.terminals)) (no-fault _ BadTerminal i.place (front few (ends ++ late) h)) in
    let outputs = output_count g (length i.terminals) in
    let count : length (input_bits s outputs i.terminals) ≡ length i.terminals - outputs = inputs-count s outputs i.terminals sound (front widths _ (front ends late later)) in
    terminals-fit source s i.place k (Gate g (delays_of corner tick m d)) (output_bits s outputs i.terminals) (input_bits s outputs i.terminals)
    (subst (GateTakes g) (sym count) (inputs-taken g (length i.terminals) taken))
    (gate-delays (most_delays g) corner tick m d (back ends late later)) (λ n. tt)

primitive-fits : (source : Source) (corner : Corner) (tick : ℤ) (s : Instance) (k : ℕ) (p : Primitive) (d : Option Delay) (i : instance_text)
    → flat_map (expression_faults (variables s.step.definition)) (connection_values i.connections) ≡ []
    → primitive_instance_faults corner tick s.step.definition (variables s.step.definition) p d i ≡ []
    → AllByRecursion (Fits s.step.number) (instance_elements source corner tick s k d i (Some (a_primitive p)))
primitive-fits source corner tick s k p d i sound h =
    let vs = variables s.step.definition in
    let m = s.step.definition in
    let es = connection_values i.connections in
    let ends = terminal_faults vs 1 es in
    let late = delay_faults 2 corner tick m d ++ primitive_faults p in
    let wrong = fault_if (not (are_terminals p i.connections)) BadTerminal i.place in
    let later : ends ++ late ≡ [] = back wrong (ends ++ late) h in
    let right : are_terminals p i.connections ≡ true = not-false (are_terminals p i.connections) (no-fault _ BadTerminal i.place (front wrong (ends ++ late) h)) in
    let count : length (input_bits s 1 es) ≡ length p.ports - 1 =
    inputs-count s 1 es sound (front (flat_map (width_faults vs 1) es) _ (front ends late later)) ∙ ap (λ n. n - 1) (ports-counted p i.connections right) in
    terminals-fit source s i.place k (Udp (table_of p) (initial_value p.initial) (delays_of corner tick m d)) (output_bits s 1 es) (input_bits s 1 es) count
    (gate-delays 2 corner tick m d (front (delay_faults 2 corner tick m d) (primitive_faults p) (back ends late later))) (λ n. tt)

-- ---- all members

child-fits : (source : Source) (s c : Instance) → AllByRecursion (Fits s.step.number) (child_elements source s c)
child-fits source s c =
    all-flat (Fits s.step.number) (port_elements source s c) (port_values c.step.connections (port_list c.step.definition))
    (λ e. all-flat (Fits s.step.number) (λ b. constant_pass s (port_spot source s c e.0 b.0) b.1) (enumerate_from 0 (expression_bits s e.1))
    (λ b. constant-fits s (port_spot source s c e.0 b.0) b.1))

member-fits : (source : Source) (corner : Corner) (tick : ℤ) (s : Instance) (x : ℕ × Member) → all_member_faults source corner tick s.step.definition x.1 ≡ []
    → AllByRecursion (Fits s.step.number) (member_elements source corner tick s x)
member-fits source corner tick s (k, assignment j) h =
    all-flat (Fits s.step.number) (pass_to source s j.place) (zip (expression_bits s j.left) (expression_bits s j.right)) (pass-fits source s j.place)
member-fits source corner tick s (k, supply n v) h =
    all-flat (Fits s.step.number) (λ b. pass_to source s n.place (b, constant n.place v)) (leaf_bits (variables s.step.definition) (whole n)) (λ b. pass-fits source s n.place (b, constant n.place v))
member-fits source corner tick s (k, gate g d i) h =
    let vs = variables s.step.definition in
    let own = member_faults source corner tick s.step.definition vs (gate g d i) in
    gate-fits source corner tick s k g d i (front (flat_map (expression_faults vs) i.terminals) own h) (back (flat_map (expression_faults vs) i.terminals) own h)
member-fits source corner tick s (k, instance n d i) h = by (definition_of source n.text) h
  where
    by : (o : Option Part)
        → flat_map (expression_faults (variables s.step.definition)) (connection_values i.connections) ++ instance_faults corner tick s.step.definition (variables s.step.definition) d i o ≡ []
        → AllByRecursion (Fits s.step.number) (instance_elements source corner tick s k d i o)
    by None g = tt
    by (Some (a_module m)) g = all-flat (Fits s.step.number) (child_elements source s) (child_at source s k) (child-fits source s)
    by (Some (a_primitive p)) g =
        let vs = variables s.step.definition in
        let names = flat_map (expression_faults vs) (connection_values i.connections) in
        let own = primitive_instance_faults corner tick s.step.definition vs p d i in
        primitive-fits source corner tick s k p d i (front names own g) (back names own g)
member-fits source corner tick s (k, path p) h =
    let bs = first_ends s.step.definition (k, path p) in
    all-map (Fits s.step.number) (path_at source s p.place) bs (all-anyway (λ b. Fits s.step.number (path_at source s p.place b)) bs (path-fits source s p.place))
member-fits source corner tick s (k, check t) h =
    let cs = own_copies s.step.definition (k, check t) in
    all-map (Fits s.step.number) (late_at source s) cs (all-anyway (λ c. Fits s.step.number (late_at source s c)) cs (late-fits source s))

pub elements-fit : (source : Source) (corner : Corner) (tick : ℤ) (s : Instance) → module_faults source corner tick s.step.definition ≡ []
    → AllByRecursion (Fits s.step.number) (elements_of source corner tick s)
elements-fit source corner tick s h =
    let m = s.step.definition in
    all-append (Fits s.step.number) (legs source s) (flat_map (member_elements source corner tick s) (enumerate_from 0 (members m)))
    (legs-fit source s)
    (all-flat_in (Fits s.step.number) (member_elements source corner tick s) (enumerate_from 0 (members m))
    (all-weaker (λ x. all_member_faults source corner tick m x.1 ≡ []) (λ x. AllByRecursion (Fits s.step.number) (member_elements source corner tick s x)) (enumerate_from 0 (members m))
    (member-fits source corner tick s) (all-second (λ x. all_member_faults source corner tick m x ≡ []) 0 (members m) (members-sound source corner tick m h))))
