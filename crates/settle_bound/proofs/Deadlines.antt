-- Deadlines of nets, each a time until when the net may change, and what it means that a machine meets them.
use Rattle.std.specs.Prelude.{◌≡◌, ◌≢◌, ◌⊎◌, ℕ, ◌+◌, ◌<◌, ◌≤◌, All, Contains, List, [], ◌∷◌, length, slice_index_or}
use Rattle.std.specs.declared.option.Option.{Option}
use Rattle.std.specs.declared.option.Option.TheVariants.{Some, None}
use Rattle.sg_logic.specs.declared.values.Value.{Value}
use Rattle.sg_model.specs.Values.{value_at}
use Rattle.sg_model.specs.Agenda.{list_at}
use Rattle.sg_model.specs.Machine.{Machine, State, Stamp, Snapshot, IsNoOutput, AreOutputs}
use Rattle.sg_model.specs.FanOut.{IsSteady, IsSettled}
use Rattle.fan_round.specs.Rounds.{time_of_rule}
use Rattle.settle_bound.proofs.PendingTimes.{NoneAfter}

abbrev pub inputs_of : Machine → ℕ → List ℕ
inputs_of m e = slice_index_or m.inputs e []

abbrev pub output_of : Machine → ℕ → ℕ
output_of m e = slice_index_or m.outputs e 0

-- a stamp is of no later time
abbrev pub IsStamped : ℕ → Option Stamp → Type 0
IsStamped now None = Unit {0}
IsStamped now (Some stamp) = stamp.time ≤ now

abbrev pub AreStamped : ℕ → List (Option Stamp) → Type 0
AreStamped now stamps = (net : ℕ) → IsStamped now (slice_index_or stamps net None)

-- a net is toggled where one of no later deadline changed
pub record IsNoticed (m : Machine) (until : ℕ → ℕ) (last now : Snapshot) (net : ℕ) : Type 0 where
  pub undriven : IsNoOutput net m.outputs
  pub source : ℕ
  pub changed : value_at last.values source ≢ value_at now.values source
  pub sooner : until source ≤ until net

-- a machine whose elements place values so much later at the most, and whose nets have such deadlines
pub record MeetsDeadlines (m : Machine) (delay until : ℕ → ℕ) : Type 0 where
  pub steady : IsSteady m
  pub one_driver : AreOutputs m.outputs
  pub placed : (now e : ℕ) (values : List Value) (stamps : List (Option Stamp)) (from to : Value) → AreStamped now stamps → time_of_rule (m.rule e now values stamps from to) ≤ now + delay e
  pub alone : (e : ℕ) → e < length m.outputs → delay e ≤ until (output_of m e)
  pub through : (e net : ℕ) → e < length m.outputs → Contains (inputs_of m e) net → until net + delay e ≤ until (output_of m e)
  pub noticed : (now last : Snapshot) (older : List Snapshot) → All (IsNoticed m until last now) (m.notifiers (m.violated (now ∷ last ∷ older)))
  pub unnoticed : (now : Snapshot) → m.notifiers (m.violated (now ∷ [])) ≡ []

-- a net may be changed now: by its deadline, and so that what drives it may place a value anew
pub record IsMoved (m : Machine) (delay until : ℕ → ℕ) (now net : ℕ) : Type 0 where
  pub soon : now ≤ until net
  pub again : (e : ℕ) → e < length m.outputs → output_of m e ≡ net → now + delay e ≤ until net

abbrev pub AreMoved : Machine → (ℕ → ℕ) → (ℕ → ℕ) → ℕ → List (ℕ × Value) → Type 0
AreMoved m delay until now [] = Unit {0}
AreMoved m delay until now (c ∷ cs) = IsMoved m delay until now c.0 × AreMoved m delay until now cs

-- a state in which nothing is pending later than its deadline
pub record IsOnTime (m : Machine) (until : ℕ → ℕ) (now : ℕ) (s : State) : Type 0 where
  pub list_of_each : length s.lists ≡ length m.outputs
  pub state_of_each : length s.states ≡ length s.lists
  pub within : All (λ n. n < length s.values) m.outputs
  pub pending : (e : ℕ) → e < length m.outputs → NoneAfter (until (output_of m e)) (list_at s.lists e)
  pub stamped : AreStamped now s.stamps

-- each element is settled, or may place a value anew
abbrev pub AreCalm : Machine → (ℕ → ℕ) → (ℕ → ℕ) → ℕ → State → Type 0
AreCalm m delay until now s = (e : ℕ) → e < length m.outputs → IsSettled m e s.values (list_at s.lists e) (value_at s.states e) ⊎ (now + delay e ≤ until (output_of m e))

-- each element is settled
abbrev pub AreSettledAll : Machine → State → Type 0
AreSettledAll m s = (e : ℕ) → e < length m.outputs → IsSettled m e s.values (list_at s.lists e) (value_at s.states e)
