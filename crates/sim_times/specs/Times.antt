-- How an engine that stands for runs makes the rounds of a time, and counts what it evaluates.
use Rattle.std.specs.Prelude.{ℕ, suc, ◌≡◌, ◌+◌, ◌-◌, ◌^◌, ◌≤◌, min, Bool, true, false, List, [], Some}
use Rattle.sg_logic.specs.declared.values.Value.{Value}
use Rattle.sg_stimulus.specs.Stimulus.{Stimulus}
use Rattle.sg_model.specs.Machine.{Machine, Snapshot, Violation}
use Rattle.time_checks.specs.declared.latest.Latest.{Latest}
use Rattle.sg_model.specs.Time as model
use Rattle.sg_model.specs.Time.{Run, Ended, rounds, needs_round, with_round, with_snapshot, flips_of, is_empty, spent_net}
use Rattle.sim_times.specs.declared.times.Turn.TheVariants as turn
use Rattle.sim_times.specs.declared.times.Turn.{Turn}
use Rattle.sim_times.specs.declared.times.TimeEnd.{TimeEnd}
use Rattle.sim_times.specs.declared.times.TimeEnd.TheVariants.{Whole, Spent, NoMemory}

-- a count, as far as a counter of 64 bits goes
abbrev pub count_shown : ℕ → ℕ
count_shown n = min n (2 ^ 64 - 1)

-- what the rounds of a time leave: the values that were told last, the latest events of each check up to some snapshots,
-- the violations of the times that ended, the last time at which a net changed, and the stimulus
pub record Kept : Type 0 where
  pub told : List Value
  pub latest : List Snapshot → List Latest
  pub violations : List Violation
  pub last : ℕ
  pub stimulus : Stimulus

-- from a run to a later one, as many steps were taken as elements had to be evaluated
abbrev pub Took : ℕ → ℕ → Run → Run → Type 0
Took steps steps' r next = steps' + r.evaluations ≡ steps + next.evaluations

-- the evaluations that were counted and the steps that were taken since a run are those up to so many
pub record IsCounted (n : ℕ) (r : Run) (counted steps steps' : ℕ) : Type 0 where
  pub count : counted ≡ count_shown n
  pub taken : steps' + r.evaluations ≡ steps + n

-- the evaluations up to the end of a time
abbrev pub evaluations_of : Ended → ℕ
evaluations_of (model.Whole r) = r.evaluations
evaluations_of (model.Spent net n) = n

-- the answer tells whether a round takes place in the runs that it stands for
pub record Needs (now : ℕ) (must : Bool) (handed : List (ℕ × Value)) (stands : Run → Type 0) (answer : Bool) : Type 0 where
  pub each : (r : Run) → stands r → answer ≡ needs_round now must handed r.state

-- it stands for the runs after a round
pub record AfterRound (m : Machine) (now : ℕ) (all : Bool) (handed : List (ℕ × Value)) (stands after : Run → Type 0) (steps steps' : ℕ) : Type 0 where
  pub each : (r : Run) → stands r → after (with_round m now all handed r) × Took steps steps' r (with_round m now all handed r)

-- it stands for the runs after a snapshot, and hands in their toggles
pub record AfterSnapshot (m : Machine) (now : ℕ) (stands after : Run → Type 0) (handed : List (ℕ × Value)) : Type 0 where
  pub each : (r : Run) → stands r → after (with_snapshot m now r) × (handed ≡ flips_of m (with_snapshot m now r))

-- the net that a spent time names
pub record Names (m : Machine) (now : ℕ) (handed : List (ℕ × Value)) (stands : Run → Type 0) (net : ℕ) : Type 0 where
  pub each : (r : Run) → stands r → spent_net m now handed r ≡ Some net

-- a round took place: one fewer is left
pub record WentOn (m : Machine) (now : ℕ) (must : Bool) (handed : List (ℕ × Value)) (stands after : Run → Type 0) (steps steps' : ℕ) : Type 0 where
  pub each : (r : Run) → stands r → (next : Run) × after next × Took steps steps' r next × ((left : ℕ) → rounds (suc left) m now must handed r ≡ rounds left m now false [] next)

-- no round took place: the time ended, however many are left
pub record EndedWhole (m : Machine) (now : ℕ) (must : Bool) (handed : List (ℕ × Value)) (stands after : Run → Type 0) (steps steps' : ℕ) : Type 0 where
  pub each : (r : Run) → stands r → (next : Run) × after next × Took steps steps' r next × ((left : ℕ) → rounds left m now must handed r ≡ model.Whole next)

-- no more is evaluated than the rest of the time would
pub record StopsWithin (m : Machine) (now : ℕ) (must : Bool) (handed : List (ℕ × Value)) (stands : Run → Type 0) (counted steps steps' : ℕ) : Type 0 where
  pub each : (r : Run) → stands r → (n : ℕ) × IsCounted n r counted steps steps' × ((left : ℕ) → n ≤ evaluations_of (rounds left m now must handed r))

abbrev pub TurnEnds : Machine → ℕ → Bool → List (ℕ × Value) → (Run → Type 0) → (Run → Type 0) → ℕ → ℕ → ℕ → Turn → Type 0
TurnEnds m now must handed stands after counted steps steps' turn.Round = WentOn m now must handed stands after steps steps'
TurnEnds m now must handed stands after counted steps steps' turn.End = EndedWhole m now must handed stands after steps steps'
TurnEnds m now must handed stands after counted steps steps' turn.NoMemory = StopsWithin m now must handed stands counted steps steps'

-- after a snapshot: the toggles and their round, none, or no memory for either
pub record ToggledOn (m : Machine) (now : ℕ) (stands after : Run → Type 0) (steps steps' : ℕ) : Type 0 where
  pub each : (r : Run) → stands r → let s = with_snapshot m now r in let flips = flips_of m s in
      (is_empty flips ≡ false) × after (with_round m now false flips s) × Took steps steps' r (with_round m now false flips s)

pub record NothingToggled (m : Machine) (now : ℕ) (stands after : Run → Type 0) (steps steps' : ℕ) : Type 0 where
  pub each : (r : Run) → stands r → (is_empty (flips_of m (with_snapshot m now r)) ≡ true) × after (with_snapshot m now r) × (steps' ≡ steps)

pub record NoneEvaluated (stands : Run → Type 0) (counted steps steps' : ℕ) : Type 0 where
  pub each : (r : Run) → stands r → IsCounted r.evaluations r counted steps steps'

abbrev pub ToggleEnds : Machine → ℕ → (Run → Type 0) → (Run → Type 0) → ℕ → ℕ → ℕ → Turn → Type 0
ToggleEnds m now stands after counted steps steps' turn.Round = ToggledOn m now stands after steps steps'
ToggleEnds m now stands after counted steps steps' turn.End = NothingToggled m now stands after steps steps'
ToggleEnds m now stands after counted steps steps' turn.NoMemory = NoneEvaluated stands counted steps steps'

-- it holds after a round, or after the end
abbrev pub OnRound : Turn → Type 0 → Type 0
OnRound turn.Round P = P
OnRound turn.End P = Unit {0}
OnRound turn.NoMemory P = Unit {0}

abbrev pub OnEnd : Turn → Type 0 → Type 0
OnEnd turn.Round P = Unit {0}
OnEnd turn.End P = P
OnEnd turn.NoMemory P = Unit {0}

-- the answer is how a time ended, and after one that ended whole it stands for its run
abbrev pub EndsAs : Ended → Run → (Run → Type 0) → ℕ → ℕ → ℕ → TimeEnd → Type 0
EndsAs ended r after counted steps steps' Whole = (next : Run) × (ended ≡ model.Whole next) × after next × Took steps steps' r next
EndsAs ended r after counted steps steps' (Spent net) = (n : ℕ) × (ended ≡ model.Spent (Some net) n) × IsCounted n r counted steps steps'
EndsAs ended r after counted steps steps' NoMemory = (n : ℕ) × (n ≤ evaluations_of ended) × IsCounted n r counted steps steps'

-- it holds after a time that ended whole
abbrev pub OnWhole : TimeEnd → Type 0 → Type 0
OnWhole Whole P = P
OnWhole (Spent net) P = Unit {0}
OnWhole NoMemory P = Unit {0}

pub record RoundsEnd (left : ℕ) (m : Machine) (now : ℕ) (must : Bool) (handed : List (ℕ × Value)) (stands after : Run → Type 0) (counted steps steps' : ℕ) (end : TimeEnd) : Type 0 where
  pub each : (r : Run) → stands r → EndsAs (rounds left m now must handed r) r after counted steps steps' end
