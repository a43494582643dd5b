-- What the code holds ready of modules and primitives.
use Rattle.std.specs.Prelude.{◌≡◌, ℕ, ◌<◌, List, [], Option, Some, None, map, length, slice_get, bytes_eq, ℤ}
use Rattle.std.specs.List.{AllByRecursion, position_from}
use Rattle.sg_circuit.specs.declared.elements.UdpUse.{UdpUse}
use Rattle.sg_circuit.specs.Seen.{delays_at, udp_at}
use Rattle.sg_delay.specs.declared.corners.Corner.{Corner}
use Rattle.sg_delay.specs.declared.gates.GateDelays.{GateDelays}
use Rattle.vl_tree.specs.Tree.{Named, Module, Source, a_primitive, Primitive}
use Rattle.vl_tree.specs.Seen.{view_module, view_name}
use Rattle.elab_model.specs.Definitions.{name_of}
use Rattle.elab_model.specs.Delays.{delays_of}
use Rattle.elab_model.specs.Members.{Member, assignment, supply, gate, instance, path, check, members}
use Rattle.elab_model.specs.NameFaults.{declaration_faults}
use Rattle.elab_model.specs.Names.{variables}
use Rattle.elab_model.specs.Ports.{port_list}
use Rattle.elab_model.specs.Primitives.{table_of, initial_value}
use Rattle.elab_variables.specs.Seen.{view_member}
use Rattle.elab_hierarchy.specs.Tops.{StandsAt}
use Rattle.elab_ends.specs.Ends.{AreEnds}
use Rattle.elab_lates.specs.Copies.{AreCopies}
use Rattle.elab_primitives.specs.Refusals.{IsFaultless}
use Rattle.elab_modules.specs.declared.prepared.Prepared.{Prepared}
use Rattle.elab_modules.specs.declared.library.Ready as code_ready
use Rattle.elab_modules.specs.declared.library.Ready.TheVariants as ready

-- what is ready of a module
pub record IsPrepared (p : Prepared) (m : Module) : Type 0 where
  pub definition : view_module p.definition.now ≡ m
  pub ports : map view_name p.ports.items ≡ port_list m
  pub members : map view_member p.members.items ≡ members m
  pub table : p.table ≡ variables m
  pub declared : declaration_faults m ≡ []
  pub ends : AreEnds m p.ends
  pub copies : AreCopies m p.copies

-- what is ready of the definition at a place
abbrev pub IsReady : Source → ℕ → Option code_ready.Ready → Type 0
IsReady source i None = Unit {0}
IsReady source i (Some (ready.Module p)) = (m : Module) × StandsAt source i m × IsPrepared p m
IsReady source i (Some (ready.Primitive k)) = (p : Primitive) × (slice_get source i ≡ Some (a_primitive p)) × IsFaultless p

abbrev pub AreReady : Source → List (Option code_ready.Ready) → Type 0
AreReady source parts = (length parts ≡ length source) × ((i : ℕ) (r : Option code_ready.Ready) → slice_get parts i ≡ Some r → IsReady source i r)

-- something is ready of the definition at a place
abbrev pub HasReady : List (Option code_ready.Ready) → ℕ → Type 0
HasReady parts i = (r : code_ready.Ready) × (slice_get parts i ≡ Some (Some r))

-- and of what a member names, if it names a definition
abbrev pub NamesReady : Source → List (Option code_ready.Ready) → Named → Type 0
NamesReady source parts n = (i : ℕ) → position_from (λ d. bytes_eq n.text (name_of d).text) 0 source ≡ Some i → HasReady parts i

abbrev pub MemberReady : Source → List (Option code_ready.Ready) → Member → Type 0
MemberReady source parts (assignment j) = Unit {0}
MemberReady source parts (supply n v) = Unit {0}
MemberReady source parts (gate g d i) = Unit {0}
MemberReady source parts (instance n d i) = NamesReady source parts n
MemberReady source parts (path p) = Unit {0}
MemberReady source parts (check c) = Unit {0}

-- the table and the first state of each primitive that is ready
pub record IsUdp (udps : List UdpUse) (k : ℕ) (p : Primitive) : Type 0 where
  pub below : k < length udps
  pub rows : (udp_at udps k).rows ≡ table_of p
  pub first : (udp_at udps k).first ≡ initial_value p.initial

abbrev pub HaveUdps : Source → List UdpUse → List (Option code_ready.Ready) → Type 0
HaveUdps source udps parts = (i k : ℕ) (p : Primitive) → slice_get parts i ≡ Some (Some (ready.Primitive k)) → slice_get source i ≡ Some (a_primitive p) → IsUdp udps k p

-- the delays of a member, in ticks; most have none
abbrev pub member_delays : Corner → ℤ → Module → Member → List ℕ
member_delays corner tick m (assignment j) = []
member_delays corner tick m (supply n v) = []
member_delays corner tick m (gate g d i) = delays_of corner tick m d
member_delays corner tick m (instance n d i) = delays_of corner tick m d
member_delays corner tick m (path p) = []
member_delays corner tick m (check c) = []

-- each member's place in the table of delays
pub record HasDelays (corner : Corner) (tick : ℤ) (m : Module) (table : List GateDelays) (places : List ℕ) : Type 0 where
  pub delays : map (delays_at table) places ≡ map (member_delays corner tick m) (members m)
  pub below : AllByRecursion (λ i. i < length table) places
