-- How an engine that stands for runs makes the times of a run and has them told, and what a run leaves by how it ended.
use Rattle.std.specs.Prelude.{ℕ, zero, suc, ◌≡◌, ◌+◌, ◌-◌, ◌≤◌, ◌⊎◌, List, [], ◌∷◌, ◌++◌, Option, Some, None, Result, Ok, Err, OnOk}
use Rattle.sg_logic.specs.declared.values.Value.{Value}
use Rattle.sg_io.specs.Faults.{Rises}
use Rattle.sg_io.specs.declared.outside.ShelfError.{ShelfError}
use Rattle.sg_io.specs.declared.outside.ShelfError.TheVariants as shelf
use Rattle.sg_model.specs.Machine.{Machine, State, Violation}
use Rattle.sg_model.specs.Time as model
use Rattle.sg_model.specs.Time.{Run, Ended, time_of}
use Rattle.sg_model.specs.Run.{Finished, times_from, lasts, last_change}
use Rattle.sg_model.specs.Quiet.{IsSeen}
use Rattle.time_checks.specs.declared.changes.Change.{Change}
use Rattle.sim_times.specs.Times.{Kept, Took, IsCounted, count_shown, evaluations_of}
use Rattle.sim_times.specs.Watching.{Call, AreCalls, Got, Broke, call_of, end_call}
use Rattle.sim_times.specs.declared.runs.SimEnd.{SimEnd}
use Rattle.sim_times.specs.declared.runs.SimEnd.TheVariants.{RoundsSpent, WatchFailed, NoMemory}

-- what a run is made from
pub record Setting : Type 0 where
  pub machine : Machine
  pub first : State
  pub sets : ℕ → List (ℕ × Value)
  pub bound : ℕ
  pub end : ℕ

-- what was simulated before time 0
abbrev pub start_of : State → Run
start_of first = record { state = first; snapshots = []; violations = []; before = first.values; evaluations = 0 }

-- where a run goes on from: the first time that is still to be made, and how many there are from it to the end; the run
-- up to there, of which no evaluation is counted; the calls by which it was told, the values before the first of its
-- snapshots, and the last time that changed a net before that
pub record Origin : Type 0 where
  pub from : ℕ
  pub left : ℕ
  pub run : Run
  pub told : List Call
  pub first : List Value
  pub last : ℕ

-- before time 0
abbrev pub origin_of : Setting → Origin
origin_of s = record { from = 0; left = suc s.end; run = start_of s.first; told = []; first = s.first.values; last = 0 }

-- the run over the next n times, or up to a spent one
abbrev pub run_from : Setting → Origin → ℕ → Finished
run_from s o n = times_from n s.bound s.machine s.sets o.from o.run

-- the run over the first n times, or up to a spent one
abbrev pub run_for : Setting → ℕ → Finished
run_for s n = run_from s (origin_of s) n

-- how many times there are from the first that is to be made up to another
abbrev pub times_to : (from time : ℕ) → ℕ
times_to zero time = time
times_to (suc from) time = time - suc from

-- the last time that changed a net, or 0 where none did, after an earlier one
abbrev pub changed_since : (earlier changed : ℕ) → ℕ
changed_since zero changed = changed
changed_since (suc earlier) zero = suc earlier
changed_since (suc earlier) (suc changed) = suc changed

-- the next n times ended, with these violations and this last change
pub record HasEndedTimesFrom (s : Setting) (o : Origin) (n : ℕ) (found : List Violation) (changed : ℕ) : Type 0 where
  pub within : n ≤ o.left
  pub unspent : (run_from s o n).spent ≡ None
  pub violations : found ≡ (run_from s o n).run.violations
  pub last : changed ≡ changed_since o.last (last_change o.first (lasts (run_from s o n).run.snapshots))

-- the first n times did
abbrev pub HasEndedTimes : Setting → ℕ → List Violation → ℕ → Type 0
HasEndedTimes s n found changed = HasEndedTimesFrom s (origin_of s) n found changed

-- the calls of the next n times
abbrev pub CallsFrom : Setting → Origin → ℕ → List Call → Type 0
CallsFrom s o n calls = AreCalls o.first (lasts (run_from s o n).run.snapshots) (o.told ++ calls)

-- the calls of the first n times
abbrev pub CallsFor : Setting → ℕ → List Call → Type 0
CallsFor s n calls = CallsFrom s (origin_of s) n calls

-- the calls of all times that are left, and the one at the end
pub record AllCallsFrom (s : Setting) (o : Origin) (made : List Call) : Type 0 where
  pub calls : List Call
  pub are : CallsFrom s o o.left calls
  pub all : made ≡ calls ++ end_call s.end (run_from s o o.left).run.state.values ∷ []

-- the calls of all times, and the one at the end
abbrev pub AllCalls : Setting → List Call → Type 0
AllCalls s made = AllCallsFrom s (origin_of s) made

-- the calls up to the last one that was made, once n times had ended
abbrev pub CallsMadeFrom : Setting → Origin → ℕ → List Call → Type 0
CallsMadeFrom s o n made = CallsFrom s o n made ⊎ ((n ≡ o.left) × AllCallsFrom s o made)

-- what was done, by how the run ended: whole; spent at a time and a net; with a failure of the watcher, in a call
-- after n times; for want of memory, after n times or in a call after them
abbrev pub HasEndedFrom : {W S : Type 0} → (W → S → List Call → Type 0) → (W → S → List Call → Type 0) → W → W → S → S → Setting → Origin → List Violation → ℕ → ℕ → Result (Unit {0}) SimEnd → Type 0
HasEndedFrom stands broken w w' s s' setting o found changed taken (Ok u) =
    HasEndedTimesFrom setting o o.left found changed × (taken ≡ (run_from setting o o.left).evaluations)
    × ((made : List Call) × AllCallsFrom setting o made × Got stands w w' s s' made)
HasEndedFrom stands broken w w' s s' setting o found changed taken (Err (RoundsSpent time net)) =
    ((run_from setting o o.left).spent ≡ Some (time, Some net)) × HasEndedTimesFrom setting o (times_to o.from time) found changed × (taken ≡ (run_from setting o o.left).evaluations)
    × ((made : List Call) × CallsFrom setting o (times_to o.from time) made × Got stands w w' s s' made)
HasEndedFrom stands broken w w' s s' setting o found changed taken (Err WatchFailed) =
    (n : ℕ) × HasEndedTimesFrom setting o n found changed × (taken ≡ (run_from setting o n).evaluations)
    × ((made : List Call) × CallsMadeFrom setting o n made × Broke stands broken w w' s s' made)
HasEndedFrom stands broken w w' s s' setting o found changed taken (Err NoMemory) =
    (taken ≤ (run_from setting o o.left).evaluations)
    × ((n : ℕ) × HasEndedTimesFrom setting o n found changed
    × (((made : List Call) × CallsFrom setting o n made × Got stands w w' s s' made) ⊎ ((made : List Call) × CallsMadeFrom setting o n made × Broke stands broken w w' s s' made)))

abbrev pub HasEnded : {W S : Type 0} → (W → S → List Call → Type 0) → (W → S → List Call → Type 0) → W → W → S → S → Setting → List Violation → ℕ → ℕ → Result (Unit {0}) SimEnd → Type 0
HasEnded stands broken w w' s s' setting found changed taken result = HasEndedFrom stands broken w w' s s' setting (origin_of setting) found changed taken result

-- the same of a run that is stopped after the next k times
abbrev pub HasStoppedFrom : {W S : Type 0} → (W → S → List Call → Type 0) → (W → S → List Call → Type 0) → W → W → S → S → Setting → Origin → ℕ → List Violation → ℕ → ℕ → Result (Unit {0}) SimEnd → Type 0
HasStoppedFrom stands broken w w' s s' setting o k found changed taken (Ok u) =
    HasEndedTimesFrom setting o k found changed × (taken ≡ (run_from setting o k).evaluations)
    × ((made : List Call) × CallsFrom setting o k made × Got stands w w' s s' made)
HasStoppedFrom stands broken w w' s s' setting o k found changed taken (Err (RoundsSpent time net)) =
    ((run_from setting o k).spent ≡ Some (time, Some net)) × HasEndedTimesFrom setting o (times_to o.from time) found changed × (taken ≡ (run_from setting o k).evaluations)
    × ((made : List Call) × CallsFrom setting o (times_to o.from time) made × Got stands w w' s s' made)
HasStoppedFrom stands broken w w' s s' setting o k found changed taken (Err WatchFailed) =
    (n : ℕ) × HasEndedTimesFrom setting o n found changed × (taken ≡ (run_from setting o n).evaluations)
    × ((made : List Call) × CallsFrom setting o n made × Broke stands broken w w' s s' made)
HasStoppedFrom stands broken w w' s s' setting o k found changed taken (Err NoMemory) =
    (taken ≤ (run_from setting o k).evaluations)
    × ((n : ℕ) × HasEndedTimesFrom setting o n found changed
    × ((made : List Call) × CallsFrom setting o n made × (Got stands w w' s s' made ⊎ Broke stands broken w w' s s' made)))

-- before time 0 there is no snapshot; later the last one is that of the nets as they are, and earlier than the next time
abbrev pub HasBegun : ℕ → List Value → Run → Type 0
HasBegun zero first r = (r.snapshots ≡ []) × (r.state.values ≡ first)
HasBegun (suc now) first r = (seen : IsSeen r) × (seen.last ≤ now)

-- a run can go on from there, up to this end; before time 0 no net changed
pub record IsOrigin (end : ℕ) (o : Origin) : Type 0 where
  pub left : o.from + o.left ≡ suc end
  pub begun : HasBegun o.from o.first o.run
  pub calls : AreCalls o.first (lasts o.run.snapshots) o.told
  pub uncounted : o.run.evaluations ≡ 0
  pub unchanged : o.from ≡ 0 → o.last ≡ 0

-- a failure of the watcher comes only where the count rose; any other end leaves it
abbrev pub CauseOfEnd : ℕ → ℕ → Result (Unit {0}) SimEnd → Type 0
CauseOfEnd before now (Ok u) = now ≡ before
CauseOfEnd before now (Err (RoundsSpent time net)) = now ≡ before
CauseOfEnd before now (Err WatchFailed) = Rises before now
CauseOfEnd before now (Err NoMemory) = now ≡ before

-- after a failure of the watcher the name told is its own; any other end leaves it
abbrev pub NamesFaultOfEnd : List ℕ → Option (List ℕ) → Option (List ℕ) → Result (Unit {0}) SimEnd → Type 0
NamesFaultOfEnd name before now (Ok u) = now ≡ before
NamesFaultOfEnd name before now (Err (RoundsSpent time net)) = now ≡ before
NamesFaultOfEnd name before now (Err WatchFailed) = now ≡ Some name
NamesFaultOfEnd name before now (Err NoMemory) = now ≡ before

-- how a call of a watcher that was refused ends a run
abbrev pub end_of_call : ShelfError → SimEnd
end_of_call shelf.Failed = WatchFailed
end_of_call shelf.NoMemory = NoMemory

-- the end of a call of the watcher
abbrev pub IsEndOfCall : Result (Unit {0}) SimEnd → Type 0
IsEndOfCall (Ok u) = Unit {0}
IsEndOfCall (Err (RoundsSpent time net)) = ⊥
IsEndOfCall (Err WatchFailed) = Unit {0}
IsEndOfCall (Err NoMemory) = Unit {0}

-- the end of a time
abbrev pub IsEndOfTime : Result (Unit {0}) SimEnd → Type 0
IsEndOfTime (Ok u) = Unit {0}
IsEndOfTime (Err (RoundsSpent time net)) = Unit {0}
IsEndOfTime (Err WatchFailed) = ⊥
IsEndOfTime (Err NoMemory) = Unit {0}

-- the calls at a time: one at time 0, and at a later time where a net changed
abbrev pub calls_at : ℕ → List Change → List Value → List Call
calls_at zero changed values = call_of 0 changed values ∷ []
calls_at (suc now) [] values = []
calls_at (suc now) (c ∷ cs) values = call_of (suc now) (c ∷ cs) values ∷ []

-- the last time at which a net changed
abbrev pub last_after : ℕ → List Change → ℕ → ℕ
last_after now [] last = last
last_after now (c ∷ cs) last = now

-- the answer is how a time ended, and after one that ended whole it stands for its run
abbrev pub TimeEndsAs : Ended → ℕ → Run → (Run → Type 0) → ℕ → ℕ → ℕ → Result (Unit {0}) SimEnd → Type 0
TimeEndsAs ended now r after counted steps steps' (Ok u) = (next : Run) × (ended ≡ model.Whole next) × after next × Took steps steps' r next
TimeEndsAs ended now r after counted steps steps' (Err (RoundsSpent time net)) = (time ≡ now) × ((n : ℕ) × (ended ≡ model.Spent (Some net) n) × IsCounted n r counted steps steps')
TimeEndsAs ended now r after counted steps steps' (Err WatchFailed) = ⊥
TimeEndsAs ended now r after counted steps steps' (Err NoMemory) = (n : ℕ) × (n ≤ evaluations_of ended) × IsCounted n r counted steps steps'

pub record TimeMade (m : Machine) (sets : ℕ → List (ℕ × Value)) (bound now : ℕ) (stands after : Run → Type 0) (counted steps steps' : ℕ) (end : Result (Unit {0}) SimEnd) : Type 0 where
  pub each : (r : Run) → stands r → TimeEndsAs (time_of bound m sets now r) now r after counted steps steps' end

-- what is kept after a time that ended whole
pub record IsKeptAfter (now : ℕ) (changed : List Change) (values : List Value) (old new : Kept) : Type 0 where
  pub told : new.told ≡ values
  pub latest : new.latest ≡ old.latest
  pub last : new.last ≡ last_after now changed old.last

-- an origin of what is kept before the first of some times
pub record IsOriginOf (from end : ℕ) (kept : Kept) (o : Origin) : Type 0 where
  pub is : IsOrigin end o
  pub at : o.from ≡ from
  pub told : kept.told ≡ o.run.state.values
  pub last : kept.last ≡ changed_since o.last (last_change o.first (lasts o.run.snapshots))

-- the times up to the end were made and told as they ended, and their evaluations were counted, from whatever origin
pub record RunMade {W S : Type 0} (m : Machine) (sets : ℕ → List (ℕ × Value)) (bound from end : ℕ) (stood : Run → Type 0) (before : Kept) (stands broken : W → S → List Call → Type 0) (w w' : W) (s s' : S) (kept : Kept) (counted taken : ℕ) (result : Result (Unit {0}) SimEnd) : Type 0 where
  pub ended : (first : State) (o : Origin) → IsOriginOf from end before o → stood o.run
      → HasEndedFrom stands broken w w' s s' (record { machine = m; first = first; sets = sets; bound = bound; end = end }) o kept.violations kept.last taken result
  pub shown : (o : Origin) → IsOriginOf from end before o → stood o.run → counted ≡ count_shown taken

-- the same of the times up to one of them; after them it stands for their run
pub record StopMade {W S : Type 0} (m : Machine) (sets : ℕ → List (ℕ × Value)) (bound from until : ℕ) (stood after : Run → Type 0) (before : Kept) (stands broken : W → S → List Call → Type 0) (w w' : W) (s s' : S) (kept : Kept) (counted taken : ℕ) (result : Result (Unit {0}) SimEnd) : Type 0 where
  pub ended : (first : State) (end : ℕ) (o : Origin) → until ≤ end → IsOriginOf from end before o → stood o.run
      → HasStoppedFrom stands broken w w' s s' (record { machine = m; first = first; sets = sets; bound = bound; end = end }) o (times_to from (suc until)) kept.violations kept.last taken result
  pub shown : (end : ℕ) (o : Origin) → until ≤ end → IsOriginOf from end before o → stood o.run → counted ≡ count_shown taken
  pub left : OnOk result ((first : State) (end : ℕ) (o : Origin) → until ≤ end → IsOriginOf from end before o → stood o.run
      → after (run_from (record { machine = m; first = first; sets = sets; bound = bound; end = end }) o (times_to from (suc until))).run)
