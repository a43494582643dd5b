-- The elements of an instance, in text order.
use Rattle.std.specs.Prelude.{ℕ, ◌-◌, List, [], ◌∷◌, ◌++◌, ◌==◌, Option, Some, None, bytes_eq, find, flat_map, map, zip, length, take, drop, replicate, if◌then◌else◌, ℤ}
use Rattle.std.specs.List.{enumerate_from}
use Rattle.sg_circuit.specs.Circuit.{Kind, Gate, Udp, Pass, Leg, Path, Late}
use Rattle.sg_circuit.specs.Corner.{Corner}
use Rattle.sg_circuit.specs.PulseStyle.TheVariants.{OnEvent}
use Rattle.sg_logic.specs.declared.gates.GateKind.{GateKind}
use Rattle.sg_logic.specs.declared.gates.GateKind.TheVariants.{Buf, Not}
use Rattle.sg_logic.specs.declared.values.Value.{Value}
use Rattle.sg_text.specs.declared.places.Place.{Place}
use Rattle.vl_tree.specs.Tree.{Named, Expression, Delay, Instance as instance_text, Part, a_module, a_primitive, Source}
use Rattle.elab_model.specs.Members.{Member, assignment, supply, gate, instance, path, check, members, connection_values}
use Rattle.elab_model.specs.Definitions.{definition_of}
use Rattle.elab_model.specs.Ports.{port_list}
use Rattle.elab_model.specs.Leaves.{whole}
use Rattle.elab_model.specs.Names.{Variable, variables}
use Rattle.elab_model.specs.Bits.{Bit, net, constant, bits, leaf_bits, positions}
use Rattle.elab_model.specs.Terms.{NetBit}
use Rattle.elab_model.specs.Hierarchy.{Step, Instance, children, is_leaf}
use Rattle.elab_model.specs.Connections.{bound_to, port_values}
use Rattle.elab_model.specs.Homes.{Spot, bit, outside, terminal, home, home_of, is_input, has_leg}
use Rattle.elab_model.specs.Ends.{first_ends, inner_spot, driven}
use Rattle.elab_model.specs.Lates.{DelayedCopy, own_copies, copy_spot}
use Rattle.elab_model.specs.Delays.{delays_of}
use Rattle.elab_model.specs.Primitives.{table_of, initial_value}

-- an element, with nets that have no number yet
pub record Component : Type 0 where
  pub scope : ℕ
  pub place : Place
  pub inputs : List Spot
  pub output : Spot
  pub kind : Kind

abbrev pub expression_bits : Instance → Expression → List Bit
expression_bits s e = bits (variables s.step.definition) e

-- Legs: one at each bit of each input port of a leaf, at the port in the list of ports, with no delay until a text gives one

abbrev pub leg_kind : Kind
leg_kind = Leg (replicate 12 (record { delay = 0; limits = None }))

abbrev pub bound_above : Step → List Step → List ℕ → ℕ → Option Bit
bound_above s [] n p = None
bound_above s (parent ∷ above) n p = bound_to s parent n p

-- what a Leg reads: the net that the bit is connected to
abbrev pub leg_source : Source → Step → List Step → List ℕ → ℕ → Option Bit → Spot
leg_source source s [] n p b = outside s.number s.member n p
leg_source source s (parent ∷ above) n p None = outside parent.number s.member n p
leg_source source s (parent ∷ above) n p (Some (constant at v)) = outside parent.number s.member n p
leg_source source s (parent ∷ above) n p (Some (net m q)) = home source parent above m q

abbrev pub place_in : Option Named → Place → Place
place_in None p = p
place_in (Some n) p = n.place

abbrev pub port_place : Instance → List ℕ → Place
port_place s n = place_in (find (λ q. bytes_eq n q.text) (port_list s.step.definition)) s.step.place

abbrev pub leg_at : Source → Instance → List ℕ → ℕ → Component
leg_at source s n p = record {
  scope = s.step.number;
  place = port_place s n;
  inputs = leg_source source s.step s.above n p (bound_above s.step s.above n p) ∷ [];
  output = bit s.step.number n p;
  kind = leg_kind;
}

abbrev pub variable_legs : Source → Instance → Variable → List Component
variable_legs source s v = if is_input v.port then map (leg_at source s v.name) (positions v.range) else []

abbrev pub legs : Source → Instance → List Component
legs source s = if is_leaf source s then flat_map (variable_legs source s) (variables s.step.definition) else []

-- Passes: one from each bit to each bit that is assigned (6.1), and one for each constant that drives a net of its own

abbrev pub bit_spots : Source → Instance → Bit → List Spot
bit_spots source s (net n p) = home_of source s n p ∷ []
bit_spots source s (constant at v) = []

abbrev pub value_of : Bit → Option Value
value_of (net n p) = None
value_of (constant at v) = Some v

abbrev pub pass_to : Source → Instance → Place → Bit × Bit → List Component
pass_to source s at (net n p, b) = record { scope = s.step.number; place = at; inputs = bit_spots source s b; output = driven source s n p; kind = Pass (value_of b) } ∷ []
pass_to source s at (constant there v, b) = []

abbrev pub passes : Source → Instance → Place → List Bit → List Bit → List Component
passes source s at left right = flat_map (pass_to source s at) (zip left right)

abbrev pub constant_pass : Instance → Spot → Bit → List Component
constant_pass s spot (net n p) = []
constant_pass s spot (constant at v) = record { scope = s.step.number; place = at; inputs = []; output = spot; kind = Pass (Some v) } ∷ []

-- Gates and primitives: outputs stand first (7.2, 7.3, 7.4, 8.1.1), and each output of one bit has an element

abbrev pub output_count : GateKind → ℕ → ℕ
output_count Buf terminals = terminals - 1
output_count Not terminals = terminals - 1
output_count _ terminals = 1

abbrev pub input_spot : Source → Instance → ℕ → ℕ × Bit → Spot
input_spot source s k (i, net n p) = home_of source s n p
input_spot source s k (i, constant at v) = terminal s.step.number k i

abbrev pub output_element : Source → Instance → Place → Kind → List Spot → Bit → List Component
output_element source s at kind inputs (net n p) = record { scope = s.step.number; place = at; inputs = inputs; output = driven source s n p; kind = kind } ∷ []
output_element source s at kind inputs (constant there v) = []

-- of an instance that is the member k, by the bits of its outputs and those of its inputs
abbrev pub terminal_elements : Source → Instance → Place → ℕ → Kind → (outputs : List Bit) → (inputs : List Bit) → List Component
terminal_elements source s at k kind outputs inputs =
    flat_map (output_element source s at kind (map (input_spot source s k) (enumerate_from 0 inputs))) outputs
    ++ flat_map (λ i. constant_pass s (terminal s.step.number k i.0) i.1) (enumerate_from 0 inputs)

-- an output of another width than one drives nothing
abbrev pub only_bit : List Bit → List Bit
only_bit [] = []
only_bit (b ∷ []) = b ∷ []
only_bit (b ∷ c ∷ bs) = []

-- of so many outputs, and of what stands behind them
abbrev pub output_bits : Instance → (outputs : ℕ) → List Expression → List Bit
output_bits s outputs es = flat_map (λ e. only_bit (expression_bits s e)) (take outputs es)

abbrev pub input_bits : Instance → (outputs : ℕ) → List Expression → List Bit
input_bits s outputs es = flat_map (expression_bits s) (drop outputs es)

-- Instances of modules: their own elements come later; here stand the constants at their ports

-- the net that a constant at a port drives
abbrev pub port_spot : Source → Instance → Instance → List ℕ → ℕ → Spot
port_spot source s c n p = if has_leg source c.step n then outside s.step.number c.step.member n p else bit c.step.number n p

abbrev pub port_elements : Source → Instance → Instance → List ℕ × Expression → List Component
port_elements source s c e = flat_map (λ b. constant_pass s (port_spot source s c e.0 b.0) b.1) (enumerate_from 0 (expression_bits s e.1))

abbrev pub child_elements : Source → Instance → Instance → List Component
child_elements source s c = flat_map (port_elements source s c) (port_values c.step.connections (port_list c.step.definition))

-- the child that is the member of this number
abbrev pub child_at : Source → Instance → ℕ → List Instance
child_at source s k = flat_map (λ c. if c.step.member == k then c ∷ [] else []) (children source s)

-- Paths: one at each bit that a specify path is the first to lead to; which paths it has is no matter of nets (14.1)

abbrev pub path_kind : Kind
path_kind = Path [] OnEvent

abbrev pub path_at : Source → Instance → Place → NetBit → Component
path_at source s at b = record { scope = s.step.number; place = at; inputs = inner_spot s b ∷ []; output = home_of source s b.name b.position; kind = path_kind }

-- Lates: one for each delayed copy, at the timing check that is the first to ask for it; how late it is follows from the limits of all checks of the instance (15.8)

abbrev pub late_at : Source → Instance → Place × DelayedCopy → Component
late_at source s c = record {
  scope = s.step.number;
  place = c.0;
  inputs = home_of source s c.1.signal.name c.1.signal.position ∷ [];
  output = copy_spot source s c.1;
  kind = Late 0;
}

-- Members, and all of an instance

abbrev pub instance_elements : Source → Corner → ℤ → Instance → ℕ → Option Delay → instance_text → Option Part → List Component
instance_elements source corner tick s k d i None = []
instance_elements source corner tick s k d i (Some (a_module m)) = flat_map (child_elements source s) (child_at source s k)
instance_elements source corner tick s k d i (Some (a_primitive p)) =
    let es = connection_values i.connections in
    let kind = Udp (table_of p) (initial_value p.initial) (delays_of corner tick s.step.definition d) in
    terminal_elements source s i.place k kind (output_bits s 1 es) (input_bits s 1 es)

abbrev pub member_elements : Source → Corner → ℤ → Instance → ℕ × Member → List Component
member_elements source corner tick s (k, assignment j) = passes source s j.place (expression_bits s j.left) (expression_bits s j.right)
member_elements source corner tick s (k, supply n v) = flat_map (λ b. pass_to source s n.place (b, constant n.place v)) (leaf_bits (variables s.step.definition) (whole n))
member_elements source corner tick s (k, gate g d i) =
    let outputs = output_count g (length i.terminals) in
    terminal_elements source s i.place k (Gate g (delays_of corner tick s.step.definition d)) (output_bits s outputs i.terminals) (input_bits s outputs i.terminals)
member_elements source corner tick s (k, instance n d i) = instance_elements source corner tick s k d i (definition_of source n.text)
member_elements source corner tick s (k, path p) = map (path_at source s p.place) (first_ends s.step.definition (k, path p))
member_elements source corner tick s (k, check c) = map (late_at source s) (own_copies s.step.definition (k, check c))

abbrev pub elements_of : Source → Corner → ℤ → Instance → List Component
elements_of source corner tick s = legs source s ++ flat_map (member_elements source corner tick s) (enumerate_from 0 (members s.step.definition))
