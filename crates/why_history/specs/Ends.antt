-- How a run that was watched ended.
use Rattle.std.specs.Prelude.{ℕ, ◌≡◌, List, map, Option, Some, None, Result, Ok, Err}
use Rattle.time_checks.specs.Seen.{violation_seen}
use Rattle.sim_times.specs.Runs.{Setting, HasEnded}
use Rattle.sim_times.specs.Watching.{Call}
use Rattle.sim_times.specs.declared.runs.SimEnd.{SimEnd}
use Rattle.sim_times.specs.declared.runs.SimEnd.TheVariants.{RoundsSpent, WatchFailed, NoMemory}
use Rattle.sim_rounds.specs.declared.sim.Finished.{Finished}
use Rattle.why_history.specs.declared.watched.Spent as code_spent

-- the time that was spent, and its net
abbrev pub found_in : Option code_spent.Spent → Option (ℕ × Option ℕ)
found_in None = None
found_in (Some s) = Some (s.time, Some s.net)

-- it ended whole, or with this time spent
abbrev pub IsEnd : Option code_spent.Spent → Result (Unit {0}) SimEnd → Type 0
IsEnd spent (Ok u) = spent ≡ None
IsEnd spent (Err (RoundsSpent time net)) = spent ≡ Some (record { time = time; net = net })
IsEnd spent (Err WatchFailed) = ⊥
IsEnd spent (Err NoMemory) = ⊥

-- a circuit's run was made, and told to a watcher
abbrev pub HasRun : {W S : Type 0} → (W → S → List Call → Type 0) → (W → S → List Call → Type 0) → W → W → S → S → Setting → Finished → Type 0
HasRun stands broken w w' s s' setting f = (taken : ℕ) × HasEnded stands broken w w' s s' setting (map (λ v. violation_seen v) f.tally.violations.items) f.tally.last taken f.end
