-- The changes of nets that a run tells.
use Rattle.std.specs.Prelude.{ℕ, ◌≡◌, List, flat_map, map}
use Rattle.sg_logic.specs.declared.values.Value.{Value}
use Rattle.sg_model.specs.Run.{Finished, lasts}
use Rattle.sim_times.specs.Watching.{AreCalls, Call, NetChange}
use Rattle.why_causes.specs.declared.events.Event.{Event}

-- of one call
abbrev pub events_at : ℕ → List NetChange → List Event
events_at time changed = map (λ (c : NetChange). record { time = time; net = c.net; value = c.after }) changed

abbrev pub events_of : Call → List Event
events_of call = events_at call.time call.changed

-- of some calls, by rising times
abbrev pub events : List Call → List Event
events calls = flat_map events_of calls

-- These are the changes of the times of a run that ended, from these values on: each net whose value at the end of a time differs from
-- that at the end of the time before, once.
pub record AreEvents (first : List Value) (run : Finished) (found : List Event) : Type 0 where
  pub calls : List Call
  pub are_calls : AreCalls first (lasts run.run.snapshots) calls
  pub are_theirs : found ≡ events calls
