-- A simulation after a time, as it can be kept and gone on with, and when it fits a circuit.
use Rattle.std.specs.Prelude.{ℕ, suc, ◌-◌, ◌≡◌, ◌≢◌, ◌<◌, ◌≤◌, ◌==◌, ◌^◌, ◌++◌, All, Bool, true, false, if◌then◌else◌, List, [], ◌∷◌, length, map, slice_index_or}
use Rattle.std.specs.declared.option.Option.{Option}
use Rattle.std.specs.declared.option.Option.TheVariants.{Some, None}
use Rattle.sg_logic.specs.declared.values.Value.{Value}
use Rattle.sg_model.specs.Values.{value_at}
use Rattle.sg_model.specs.Pending.{last_value, IsPending}
use Rattle.sg_model.specs.Machine.{Snapshot, Stamp, State}
use Rattle.sg_model.specs.Round.{each_from}
use Rattle.sg_model.specs.Time.{Run}
use Rattle.sg_model.specs.Run.{Finished, last_change, lasts, times_from}
use Rattle.sim_times.specs.Times.{count_shown}
use Rattle.sg_stimulus.specs.Stimulus.{Stimulus, sets_at}
use Rattle.sg_circuit.specs.declared.nets.Driver.{Driver}
use Rattle.sg_circuit.specs.Circuit.{Circuit, Element, Kind, Udp, element_at, net_at}
use Rattle.time_checks.specs.declared.latest.Latest.{Latest}
use Rattle.time_checks.specs.Adjusted.{adjusted_checks}
use Rattle.time_checks.specs.Falling.{AreBy}
use Rattle.time_checks.specs.Violations.{latest_events}
use Rattle.sim_machine.specs.Simulated.{first_state, first_value_of, machine_of, machine_since, run_of_circuit}

-- a transition that a driver has pending
pub record Pending : Type 0 where
  pub driver : ℕ
  pub time : ℕ
  pub value : Value

-- a simulation after a time: the value and the last change of each net, what is pending, the state of each primitive's element, the latest events of each timing check, the last time that
-- changed a net, and how many elements were evaluated
pub record Moment : Type 0 where
  pub time : ℕ
  pub nets : List Value
  pub stamps : List (Option Stamp)
  pub pending : List Pending
  pub udps : List Value
  pub latest : List Latest
  pub last : ℕ
  pub evaluations : ℕ

-- what a driver has pending, in the order of the list
abbrev pub pending_of : ℕ → List Pending → List (ℕ × Value)
pending_of driver [] = []
pending_of driver (p ∷ ps) = if p.driver == driver then ((p.time, p.value) ∷ pending_of driver ps) else pending_of driver ps

-- the value that an element computed last: that with which its pending transitions end
abbrev pub computed_last : Moment → ℕ → Element → Value
computed_last m number element = last_value (pending_of number m.pending) (value_at m.nets element.output)

-- the state of a circuit
abbrev pub state_of : Circuit → Moment → State
state_of circuit m = record {
  values = m.nets;
  stamps = m.stamps;
  lists = each_from (λ number element. pending_of number m.pending) 0 circuit.elements;
  states = each_from (computed_last m) 0 circuit.elements;
}

abbrev pub is_udp : Kind → Bool
is_udp (Udp primitive first delays) = true
is_udp kind = false

-- of the values that elements computed last, those of primitives' elements
abbrev pub udp_states : List Element → List Value → List Value
udp_states [] values = []
udp_states (e ∷ es) [] = []
udp_states (e ∷ es) (v ∷ vs) = if is_udp e.kind then (v ∷ udp_states es vs) else udp_states es vs

-- the pending transitions of drivers that are numbered from k, by driver and then by time
abbrev pub pending_in : ℕ → List (List (ℕ × Value)) → List Pending
pending_in k [] = []
pending_in k (list ∷ lists) = map (λ p. record { driver = k; time = p.0; value = p.1 }) list ++ pending_in (suc k) lists

-- what a run has come to after a time, where this was known of events before its snapshots, with the last time that changed a net and the number of evaluations
abbrev pub moment_of : Circuit → List Latest → (time : ℕ) → Run → (last evaluations : ℕ) → Moment
moment_of circuit earlier time r last evaluations = record {
  time = time;
  nets = r.state.values;
  stamps = r.state.stamps;
  pending = pending_in 0 r.state.lists;
  udps = udp_states circuit.elements r.state.states;
  latest = latest_events earlier (adjusted_checks circuit) r.snapshots;
  last = last;
  evaluations = evaluations;
}

-- a net without a change has its value of before time 0; a change isn't later than the time, ends with the net's value and begins with another
abbrev pub IsStampOf : (time : ℕ) → Driver → Value → Option Stamp → Type 0
IsStampOf time driver value None = value ≡ first_value_of driver
IsStampOf time driver value (Some s) = (s.time ≤ time) × (s.after ≡ value) × (s.before ≢ value)

-- a stamp's place in the list
abbrev pub stamp_at : List (Option Stamp) → ℕ → Option Stamp
stamp_at stamps net = slice_index_or stamps net None

-- it fits a circuit
pub record Fits (circuit : Circuit) (m : Moment) : Type 0 where
  -- as many nets, elements and checks
  pub nets : length m.nets ≡ length circuit.nets
  pub stamps : length m.stamps ≡ length circuit.nets
  pub drivers : All (λ p. p.driver < length circuit.elements) m.pending
  pub checks : length m.latest ≡ length circuit.checks
  -- pending times rise, and are above the time and below 2^62; the first value differs from the net's, and neighbours differ
  pub pending : (e : ℕ) → e < length circuit.elements → IsPending (pending_of e m.pending) (value_at m.nets (element_at circuit e).output) (suc m.time)
  pub near : All (λ p. p.time < 2 ^ 62) m.pending
  pub stamped : (net : ℕ) → net < length circuit.nets → IsStampOf m.time (net_at circuit net).driver (value_at m.nets net) (stamp_at m.stamps net)
  -- nothing is later than the time
  pub latest : AreBy m.time m.latest
  pub last : m.last ≤ m.time
  -- each element computed last what it computes from the nets as they are, and so a sequential primitive whatever it is; of primitives' elements this is the state
  pub computed : (e : ℕ) → e < length circuit.elements → (machine_of circuit).value e m.nets m.nets (computed_last m e (element_at circuit e)) ≡ computed_last m e (element_at circuit e)
  pub udps : m.udps ≡ udp_states circuit.elements (state_of circuit m).states

-- the snapshot of its time
abbrev pub snapshot_of : Moment → Snapshot
snapshot_of m = record { time = m.time; values = m.nets }

-- a run that goes on from it: its evaluations are counted from 0
abbrev pub run_of_moment : Circuit → Moment → Run
run_of_moment circuit m = record { state = state_of circuit m; snapshots = snapshot_of m ∷ []; violations = []; before = m.nets; evaluations = 0 }

-- the rest of the run of a circuit under a stimulus, from the time after a moment on
abbrev pub run_since : Circuit → (bound : ℕ) → Stimulus → Moment → Finished
run_since circuit bound stimulus m = times_from (stimulus.end - m.time) bound (machine_since circuit m.latest) (sets_at stimulus.steps) (suc m.time) (run_of_moment circuit m)

-- the run of a circuit up to a time
abbrev pub run_up_to : Circuit → (bound : ℕ) → Stimulus → (until : ℕ) → Finished
run_up_to circuit bound stimulus until = run_of_circuit circuit bound (record stimulus { end = until })

-- what a run from time 0 has come to after a time: with its last change, and its evaluations as far as a counter of 64 bits goes
abbrev pub moment_after : Circuit → (time : ℕ) → Finished → Moment
moment_after circuit time f = moment_of circuit [] time f.run (last_change (first_state circuit).values (lasts f.run.snapshots)) (count_shown f.evaluations)
