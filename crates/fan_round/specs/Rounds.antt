-- What a round keeps, and what it leaves.
use Rattle.std.specs.Prelude.{◌≡◌, ℕ, ◌<◌, ◌≤◌, false, List, [], ◌∷◌, length, slice_index_or}
use Rattle.std.specs.declared.option.Option.{Option}
use Rattle.sg_logic.specs.declared.values.Value.{Value}
use Rattle.sg_model.specs.Values.{value_at}
use Rattle.sg_model.specs.Agenda.{list_at}
use Rattle.sg_model.specs.Pending.{IsPending}
use Rattle.sg_model.specs.Machine.{Machine, Rule, Inertial, Pulse, Stamp, IsNoOutput}
use Rattle.sg_model.specs.Round.{element_list, element_value}
use Rattle.sg_model.specs.Time.{any_differs}
use Rattle.sg_model.specs.FanOut.{IsSettled}
use Rattle.fan_round.specs.Lists.{occurrences}

-- no number stands in the list twice
pub record IsOnce (ks : List ℕ) : Type 0 where
  pub each : (k : ℕ) → occurrences k ks ≤ 1

-- each element is settled
pub record AreSettled (m : Machine) (values : List Value) (lists : List (List (ℕ × Value))) (states : List Value) : Type 0 where
  pub each : (e : ℕ) → e < length lists → IsSettled m e values (list_at lists e) (value_at states e)

-- evaluating an element again whose inputs stay changes nothing
pub record StaysElsewhere (m : Machine) (now : ℕ) (before values : List Value) (stamps : List (Option Stamp)) (lists : List (List (ℕ × Value))) (states : List Value) : Type 0 where
  pub list : (e : ℕ) → e < length lists → any_differs before values (slice_index_or m.inputs e []) ≡ false → element_list m now before values stamps states e (list_at lists e) ≡ list_at lists e
  pub state : (e : ℕ) → e < length states → any_differs before values (slice_index_or m.inputs e []) ≡ false → element_value m before values e (value_at states e) ≡ value_at states e

-- no change that is handed in is of an output
abbrev pub AreHanded : List ℕ → List (ℕ × Value) → Type 0
AreHanded outputs [] = Unit {0}
AreHanded outputs (c ∷ cs) = IsNoOutput c.0 outputs × AreHanded outputs cs

-- the time at which a rule places a value
abbrev pub time_of_rule : Rule → ℕ
time_of_rule (Inertial time) = time
time_of_rule (Pulse time reject error style) = time

-- no value is placed before now
pub record IsLater (m : Machine) : Type 0 where
  pub later : (now e : ℕ) (values : List Value) (stamps : List (Option Stamp)) (from to : Value) → now ≤ time_of_rule (m.rule e now values stamps from to)

-- over the values of the nets that they drive, all lists are in order and have nothing before now
pub record ArePending (driven : List ℕ) (values : List Value) (lists : List (List (ℕ × Value))) (now : ℕ) : Type 0 where
  pub each : (e : ℕ) → e < length lists → IsPending (list_at lists e) (value_at values (slice_index_or driven e 0)) now
