-- The nets and the work list of an engine between rounds, and the circuit that it runs.
use Rattle.std.specs.Prelude.{◌≡◌, ℕ, Bool, ◌<◌, ◌≤◌, ◌^◌, false, All, List, [], length, map, replicate}
use Rattle.std.specs.Vec.{vec_capacity}
use Rattle.sg_logic.specs.declared.values.Value.{Value}
use Rattle.sg_model.specs.Machine.{Machine, State, AreOutputs}
use Rattle.sg_model.specs.FanOut.{IsSteady}
use Rattle.fan_round.specs.declared.nets.Nets.{Nets}
use Rattle.fan_round.specs.declared.work.WorkList.{WorkList}
use Rattle.fan_round.specs.Nets.{stamp_seen, AreNets}
use Rattle.sg_circuit.specs.FanOut.{IsFanOut}
use Rattle.fan_round.specs.Rounds.{AreSettled, ArePending, IsLater}

-- no element is marked or listed, and there is room for all
pub record IsIdle (work : WorkList) (elements : ℕ) : Type 0 where
  pub marks : work.marks.items ≡ replicate elements false
  pub list : work.list.items ≡ []
  pub room : elements ≤ vec_capacity work.list

-- the state that the engine holds
abbrev pub state_seen : Nets → List (List (ℕ × Value)) → List Value → State
state_seen nets pending computed = record {
  values = nets.values.items;
  stamps = map stamp_seen nets.stamps.items;
  lists = pending;
  states = computed;
}

-- the circuit, its fan-out and its outputs, with so many nets and elements
pub record IsOfCircuit (m : Machine) (fan : List (List ℕ)) (driven : List ℕ) (nets elements : ℕ) : Type 0 where
  pub steady : IsSteady m
  pub later : IsLater m
  pub fan_out : IsFanOut m.inputs fan
  pub each_net : nets ≤ length fan
  pub outputs : driven ≡ m.outputs
  pub one_driver : AreOutputs m.outputs
  pub within : All (λ n. n < nets) driven
  pub inputs_of_each : length m.inputs ≡ elements
  pub output_of_each : length m.outputs ≡ elements
  pub few : elements < 2 ^ 31

-- the engine is ready for a round at a time: each element is settled, nothing is listed, and what is pending is in order
pub record IsReady (m : Machine) (fan : List (List ℕ)) (driven : List ℕ) (nets : Nets) (work : WorkList) (lists : List (List (ℕ × Value))) (states : List Value) (now : ℕ) : Type 0 where
  pub circuit : IsOfCircuit m fan driven (length nets.values.items) (length lists)
  pub state_of_each : length states ≡ length lists
  pub settled : AreSettled m nets.values.items lists states
  pub nets_are : AreNets nets
  pub idle : IsIdle work (length lists)
  pub in_order : ArePending driven nets.values.items lists now

-- the engine is ready for the first round of all, which evaluates every element, or for a later one
pub record IsReadyFor (all : Bool) (m : Machine) (fan : List (List ℕ)) (driven : List ℕ) (nets : Nets) (work : WorkList) (lists : List (List (ℕ × Value))) (states : List Value) (now : ℕ) : Type 0 where
  pub circuit : IsOfCircuit m fan driven (length nets.values.items) (length lists)
  pub state_of_each : length states ≡ length lists
  pub settled : all ≡ false → AreSettled m nets.values.items lists states
  pub nets_are : AreNets nets
  pub idle : IsIdle work (length lists)
  pub in_order : ArePending driven nets.values.items lists now
