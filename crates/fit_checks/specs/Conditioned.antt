-- The violations of a timing check with a condition of its time stamp and one of its time check (IEEE 1364-2005, 15.2.3, 15.2.6, 15.8.2).
use Rattle.std.specs.Prelude.{ℕ, Bool, false, ◌&&◌, List, [], ◌∷◌, Option, Some, None}
use Rattle.sg_logic.specs.declared.values.Value.{Value}
use Rattle.cond_expr.specs.Tree.{Cond}
use Rattle.sg_circuit.specs.declared.checks.Event.{Event}
use Rattle.sg_model.specs.Machine.{Snapshot, Violation}
use Rattle.time_checks.specs.declared.violations.Part.{Part}
use Rattle.time_checks.specs.declared.violations.Part.TheVariants.{Setup, Hold, Recovery, Removal}
use Rattle.time_checks.specs.Adjusted.{AdjustedCheck}
use Rattle.time_checks.specs.Events.{at_latest, has_event, has_opposite, is_enabled}
use Rattle.time_checks.specs.Parts.{parts_of}
use Rattle.time_checks.specs.Times.{grown}
use Rattle.time_checks.specs.Violations.{all_from, limit_at, listed, window_at}
use Rattle.time_checks.specs.Windows.{Moment, violated}

-- the condition of the event whose time is stamped, and that of the event at which the stamp is looked at; one that isn't there holds
pub record Conditions : Type 0 where
  pub stamp : Option (Cond ℕ)
  pub check : Option (Cond ℕ)

-- Setup and removal stamp the data and look at the reference; hold and recovery stamp the reference and look at the data (15.2.1, 15.2.2, 15.2.4, 15.2.5).
abbrev pub of_refer : Conditions → Part → Option (Cond ℕ)
of_refer c Setup = c.check
of_refer c Removal = c.check
of_refer c Hold = c.stamp
of_refer c Recovery = c.stamp
of_refer c _ = None

abbrev pub of_datum : Conditions → Part → Option (Cond ℕ)
of_datum c Setup = c.stamp
of_datum c Removal = c.stamp
of_datum c Hold = c.check
of_datum c Recovery = c.check
of_datum c _ = None

-- an event counts where its terminal has it and a condition holds besides (15.6)
abbrev pub counts : Option (Cond ℕ) → Event → List Value → List Value → Bool
counts condition event last now = has_event event last now && is_enabled condition now

-- the times of those that count, the latest first
abbrev pub counted_times : Option (Cond ℕ) → Event → List Snapshot → List ℕ
counted_times condition event [] = []
counted_times condition event (now ∷ older) = grown (at_latest (counts condition event) (now ∷ older)) now.time (counted_times condition event older)

-- a terminal that isn't there has none
abbrev pub datum_counts : Option (Cond ℕ) → Option Event → List Snapshot → Bool
datum_counts condition None snapshots = false
datum_counts condition (Some event) snapshots = at_latest (counts condition event) snapshots

abbrev pub datum_counted : Option (Cond ℕ) → Option Event → List Snapshot → List ℕ
datum_counted condition None snapshots = []
datum_counted condition (Some event) snapshots = counted_times condition event snapshots

-- what a part of a check sees at a snapshot that follows others: the events that count for it
abbrev pub part_moment : Conditions → AdjustedCheck → Part → Snapshot → List Snapshot → Moment
part_moment c check part now older = record {
  time = now.time;
  refer = at_latest (counts (of_refer c part) check.refer) (now ∷ older);
  datum = datum_counts (of_datum c part) check.datum (now ∷ older);
  back = at_latest (has_opposite check.refer) (now ∷ older);
  refer_times = counted_times (of_refer c part) check.refer (now ∷ older);
  datum_times = datum_counted (of_datum c part) check.datum (now ∷ older);
  refer_before = counted_times (of_refer c part) check.refer older;
}

-- the violations that belong to the latest of some snapshots, in the order of the check's parts
abbrev pub conditioned : ℕ → Conditions → AdjustedCheck → List Snapshot → List Violation
conditioned number c check [] = []
conditioned number c check (now ∷ older) =
    all_from (λ place part. listed number check part (limit_at check place) (violated part (window_at check place) check.threshold (part_moment c check part now older))) 0 (parts_of check.kind)
