-- The events of the changes so far.
use Rattle.std.proofs.Common.{◌≡◌, ◌++◌, map, take}
use Rattle.sim_times.specs.Watching.{net_change}
use Rattle.why_history.specs.Events.{events_at}
use Rattle.why_history.proofs.history.push_events.Given as goal

abbrev pub invariant-loop-change : goal.invariant-loop-change
invariant-loop-change l = l.events.items ≡ l.fn.events.items ++ events_at l.time (map net_change (take l.change-index l.changed))
