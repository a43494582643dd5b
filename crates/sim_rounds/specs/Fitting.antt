-- The parts of what it is for a moment to fit a circuit.
use Rattle.std.specs.Prelude.{ℕ, suc, ◌≡◌, ◌<◌, ◌≤◌, ◌^◌, All, Bool, true, false, if◌then◌else◌, List, [], ◌∷◌, length, slice_index_or, Option, None}
use Rattle.sg_logic.specs.declared.values.Value.{Value}
use Rattle.sg_circuit.specs.declared.nets.Net.{Net}
use Rattle.sg_circuit.specs.declared.nets.Driver.TheVariants.{Nobody}
use Rattle.sg_circuit.specs.Circuit.{Circuit, element_at}
use Rattle.sg_circuit.specs.declared.elements.ElementKind.{ElementKind}
use Rattle.sg_circuit.specs.declared.elements.ElementKind.TheVariants as kind
use Rattle.sg_model.specs.Values.{value_at}
use Rattle.sg_model.specs.Pending.{last_value, IsPending}
use Rattle.sg_model.specs.Machine.{Stamp}
use Rattle.time_checks.specs.Falling.{AreBy}
use Rattle.sim_machine.specs.Simulated.{machine_of}
use Rattle.sim_rounds.specs.Moments.{Moment, Pending, IsStampOf, computed_last, pending_of, stamp_at, state_of, udp_states}

-- as many nets and checks, and what is pending is of the circuit's elements, and near
pub record HasSizes (circuit : Circuit) (m : Moment) : Type 0 where
  pub nets : length m.nets ≡ length circuit.nets
  pub stamps : length m.stamps ≡ length circuit.nets
  pub checks : length m.latest ≡ length circuit.checks
  pub pending : All (λ p. (p.driver < length circuit.elements) × (p.time < 2 ^ 62)) m.pending

-- the net at a place; past the end a blank
abbrev pub net_in : List Net → ℕ → Net
net_in nets n = slice_index_or nets n (record { scope = 0; name = []; bit = None; driver = Nobody })

-- each net's last change is one of its value by a time
abbrev pub AreStamped : ℕ → List Net → List Value → List (Option Stamp) → Type 0
AreStamped time nets values stamps = (net : ℕ) → net < length nets → IsStampOf time (net_in nets net).driver (value_at values net) (stamp_at stamps net)

-- nothing that happened is later
pub record HasPast (circuit : Circuit) (m : Moment) : Type 0 where
  pub last : m.last ≤ m.time
  pub latest : AreBy m.time m.latest
  pub stamped : AreStamped m.time circuit.nets m.nets m.stamps

-- the transitions of each driver are in order, after a time and from a value of its own on
abbrev pub AreOrdered : List ℕ → List Value → List Pending → Type 0
AreOrdered times values pending = (e : ℕ) → e < length values → IsPending (pending_of e pending) (value_at values e) (suc (slice_index_or times e 0))

-- each has the value of its last transition then
abbrev pub AreLast : (old new : List Value) → List Pending → Type 0
AreLast old new pending = (e : ℕ) → e < length old → value_at new e ≡ last_value (pending_of e pending) (value_at old e)

-- an element of the code is one of a primitive
abbrev pub is_primitive : ElementKind → Bool
is_primitive (kind.Udp udp delays) = true
is_primitive _ = false

-- states that begin with one, where the element is one of a primitive
abbrev pub with_state : Bool → Value → List Value → List Value
with_state b state states = if b then (state ∷ states) else states

-- each element computes the value that it has
abbrev pub AreComputed : Circuit → (nets values : List Value) → Type 0
AreComputed circuit nets values = (e : ℕ) → e < length circuit.elements → (machine_of circuit).value e nets nets (value_at values e) ≡ value_at values e

-- and those of primitives' elements are the states
pub record HasStates (circuit : Circuit) (m : Moment) (values : List Value) : Type 0 where
  pub computed : AreComputed circuit m.nets values
  pub udps : m.udps ≡ udp_states circuit.elements values

-- the part of `Fits` that rests on what is pending
pub record IsSettled (circuit : Circuit) (m : Moment) : Type 0 where
  pub pending : (e : ℕ) → e < length circuit.elements → IsPending (pending_of e m.pending) (value_at m.nets (element_at circuit e).output) (suc m.time)
  pub computed : (e : ℕ) → e < length circuit.elements → (machine_of circuit).value e m.nets m.nets (computed_last m e (element_at circuit e)) ≡ computed_last m e (element_at circuit e)
  pub udps : m.udps ≡ udp_states circuit.elements (state_of circuit m).states
