-- The events of a timing check's terminals, over a list of snapshots that has its latest snapshot first (IEEE 1364-2005, 15.1,
-- 15.4, 15.6).
use Rattle.std.specs.Prelude.{ℕ, Bool, false, true, ◌&&◌, not, List, [], ◌∷◌, Option, Some, None}
use Rattle.sg_logic.specs.declared.values.Value.{Value}
use Rattle.sg_logic.specs.declared.edges.Edge.{Edge}
use Rattle.sg_logic.specs.Values.{is_same}
use Rattle.sg_logic.specs.Edges.{has_change}
use Rattle.cond_expr.specs.Tree.{Cond}
use Rattle.cond_expr.specs.Values.{enables}
use Rattle.sg_circuit.specs.declared.checks.Event.{Event}
use Rattle.time_checks.specs.Adjusted.{AdjustedCheck}
use Rattle.sg_model.specs.Values.{value_at}
use Rattle.sg_model.specs.Machine.{Snapshot}
use Rattle.time_checks.specs.declared.latest.Latest.{Latest}
use Rattle.time_checks.specs.Times.{grown, greatest}
use Rattle.time_checks.specs.Windows.{Moment}

-- whether a change of value is of the edge; without an edge every change is
abbrev pub is_of_edge : Option Edge → Value → Value → Bool
is_of_edge None from to = not (is_same from to)
is_of_edge (Some edge) from to = has_change edge from to

-- without a condition it is enabled
abbrev pub is_enabled : Option (Cond ℕ) → List Value → Bool
is_enabled None values = true
is_enabled (Some condition) values = enables values condition

-- whether a terminal has an event between two snapshots: a change of the edge, enabled at the second
abbrev pub has_event : Event → List Value → List Value → Bool
has_event event last now = is_of_edge event.edge (value_at last event.net) (value_at now event.net) && is_enabled event.condition now

-- whether a terminal has the opposite of its edge: a change that is of the edge if it is read backwards
abbrev pub has_opposite : Event → List Value → List Value → Bool
has_opposite event last now = is_of_edge event.edge (value_at now event.net) (value_at last event.net)

-- what happens at the latest snapshot since the one before; at the very first nothing does
abbrev pub at_latest : (List Value → List Value → Bool) → List Snapshot → Bool
at_latest test [] = false
at_latest test (first ∷ []) = false
at_latest test (now ∷ (last ∷ older)) = test last.values now.values

abbrev pub happens : Event → List Snapshot → Bool
happens event snapshots = at_latest (has_event event) snapshots

-- what is known of the events before some snapshots: the latest of them, if there was one
abbrev pub known : Option ℕ → List ℕ
known None = []
known (Some time) = time ∷ []

-- the times of all events of a terminal, the latest first: those between the snapshots, and what is known of those before
abbrev pub event_times_since : Option ℕ → Event → List Snapshot → List ℕ
event_times_since earlier event [] = known earlier
event_times_since earlier event (now ∷ older) = grown (happens event (now ∷ older)) now.time (event_times_since earlier event older)

abbrev pub event_times : Event → List Snapshot → List ℕ
event_times event snapshots = event_times_since None event snapshots

-- a terminal that isn't there has no events
abbrev pub datum_happens : Option Event → List Snapshot → Bool
datum_happens None snapshots = false
datum_happens (Some event) snapshots = happens event snapshots

abbrev pub datum_times_since : Option ℕ → Option Event → List Snapshot → List ℕ
datum_times_since earlier None snapshots = known earlier
datum_times_since earlier (Some event) snapshots = event_times_since earlier event snapshots

abbrev pub datum_times : Option Event → List Snapshot → List ℕ
datum_times event snapshots = datum_times_since None event snapshots

-- what a check sees at a snapshot that follows others, where this is known of its events before them
abbrev pub moment_since : Latest → AdjustedCheck → Snapshot → List Snapshot → Moment
moment_since earlier check now older = record {
  time = now.time;
  refer = happens check.refer (now ∷ older);
  datum = datum_happens check.datum (now ∷ older);
  back = at_latest (has_opposite check.refer) (now ∷ older);
  refer_times = event_times_since earlier.refer check.refer (now ∷ older);
  datum_times = datum_times_since earlier.datum check.datum (now ∷ older);
  refer_before = event_times_since earlier.refer check.refer older;
}

-- nothing happened before them
abbrev pub no_events : Latest
no_events = record { refer = None; datum = None }

abbrev pub moment : AdjustedCheck → Snapshot → List Snapshot → Moment
moment check now older = moment_since no_events check now older

-- the latest events of a check up to a snapshot
abbrev pub latest_since : Latest → AdjustedCheck → List Snapshot → Latest
latest_since earlier check snapshots = record {
  refer = greatest (event_times_since earlier.refer check.refer snapshots);
  datum = greatest (datum_times_since earlier.datum check.datum snapshots);
}
