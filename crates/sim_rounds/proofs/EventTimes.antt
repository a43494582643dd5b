-- No event of a run is later than its snapshots and what was known before them, nor is its last change.
use Rattle.std.specs.Prelude.{ℕ, zero, suc, ◌≤◌, ◌==◌, All, List, [], ◌∷◌, Option, Some, None}
use Rattle.std.proofs.Common.{arith}
use Rattle.std.proofs.lemmas.List.Elements.{All-cons, All-head, All-nil, All-tail}
use Rattle.sg_logic.specs.declared.values.Value.{Value}
use Rattle.sg_model.specs.Values.{are_same}
use Rattle.sg_model.specs.Machine.{Snapshot}
use Rattle.sg_model.specs.Run.{last_change, lasts, lasts_before}
use Rattle.sg_model.specs.Round.{each_from}
use Rattle.sg_model.proofs.PlacedLaws.{if_fact}
use Rattle.sg_circuit.specs.declared.checks.Event.{Event}
use Rattle.time_checks.specs.declared.latest.Latest.{Latest}
use Rattle.time_checks.specs.Adjusted.{AdjustedCheck}
use Rattle.time_checks.specs.Events.{datum_times_since, event_times_since, happens, known, latest_since}
use Rattle.time_checks.specs.Falling.{AreBy, IsBy}
use Rattle.time_checks.specs.Times.{greater, greatest}
use Rattle.time_checks.specs.Violations.{earlier_at, latest_events}
use Rattle.sim_times.specs.Runs.{changed_since}

greater_by : (time t : ℕ) (o : Option ℕ) → t ≤ time → IsBy time o → IsBy time (greater t o)
greater_by time t None l h = l
greater_by time t (Some u) l h = let m : u ≤ time = h in omega arith

known_by : (time : ℕ) (before : Option ℕ) → IsBy time before → IsBy time (greatest (known before))
known_by time None h = tt
known_by time (Some t) h = h

events_by : (time : ℕ) (before : Option ℕ) (event : Event) (snapshots : List Snapshot) → IsBy time before → All (λ s. s.time ≤ time) snapshots → IsBy time (greatest (event_times_since before event snapshots))
events_by time before event [] h seen = known_by time before h
events_by time before event (s ∷ ss) h seen =
    let rest = events_by time before event ss h (All-tail (λ (x : Snapshot). x.time ≤ time) s ss seen) in
    let ts : List ℕ = event_times_since before event ss in
    if_fact (λ us. IsBy time (greatest us)) (happens event (s ∷ ss)) (s.time ∷ ts) ts (λ _. greater_by time s.time (greatest ts) (All-head (λ (x : Snapshot). x.time ≤ time) s ss seen) rest) (λ _. rest)

data_by : (time : ℕ) (before : Option ℕ) (datum : Option Event) (snapshots : List Snapshot) → IsBy time before → All (λ s. s.time ≤ time) snapshots → IsBy time (greatest (datum_times_since before datum snapshots))
data_by time before None snapshots h seen = known_by time before h
data_by time before (Some event) snapshots h seen = events_by time before event snapshots h seen

earlier_by : (time number : ℕ) (earlier : List Latest) → AreBy time earlier → IsBy time (earlier_at earlier number).refer × IsBy time (earlier_at earlier number).datum
earlier_by time number [] h = (tt, tt)
earlier_by time zero (e ∷ es) h = h.0
earlier_by time (suc number) (e ∷ es) h = earlier_by time number es h.1

known_later : (time later : ℕ) (before : Option ℕ) → time ≤ later → IsBy time before → IsBy later before
known_later time later None l h = tt
known_later time later (Some t) l h = let m : t ≤ time = h in omega arith

pub all_later : (time later : ℕ) (earlier : List Latest) → time ≤ later → AreBy time earlier → AreBy later earlier
all_later time later [] l h = tt
all_later time later (e ∷ es) l h = ((known_later time later e.refer l h.0.0, known_later time later e.datum l h.0.1), all_later time later es l h.1)

latest_from : (time k : ℕ) (earlier : List Latest) (checks : List AdjustedCheck) (snapshots : List Snapshot) → AreBy time earlier → All (λ s. s.time ≤ time) snapshots
    → AreBy time (each_from (λ number check. latest_since (earlier_at earlier number) check snapshots) k checks)
latest_from time k earlier [] snapshots h seen = tt
latest_from time k earlier (x ∷ xs) snapshots h seen =
    let before = earlier_by time k earlier h in
    ((events_by time (earlier_at earlier k).refer x.refer snapshots before.0 seen, data_by time (earlier_at earlier k).datum x.datum snapshots before.1 seen), latest_from time (suc k) earlier xs snapshots h seen)

pub latest_by : (time : ℕ) (earlier : List Latest) (checks : List AdjustedCheck) (snapshots : List Snapshot) → AreBy time earlier → All (λ s. s.time ≤ time) snapshots → AreBy time (latest_events earlier checks snapshots)
latest_by time earlier checks snapshots h seen = latest_from time 0 earlier checks snapshots h seen

-- what is so of all snapshots is so of the last ones
pub all_before : (P : Snapshot → Type 0) (now : ℕ) (ss : List Snapshot) → All P ss → All P (lasts_before now ss)
all_before P now [] h = All-nil P
all_before P now (s ∷ ss) h =
    if_fact (All P) (s.time == now) (lasts_before now ss) (s ∷ lasts_before s.time ss) (λ _. all_before P now ss (All-tail P s ss h))
    (λ _. All-cons P s (lasts_before s.time ss) (All-head P s ss h) (all_before P s.time ss (All-tail P s ss h)))

pub all_lasts : (P : Snapshot → Type 0) (ss : List Snapshot) → All P ss → All P (lasts ss)
all_lasts P [] h = All-nil P
all_lasts P (s ∷ ss) h = All-cons P s (lasts_before s.time ss) (All-head P s ss h) (all_before P s.time ss (All-tail P s ss h))

change_by : (time : ℕ) (first : List Value) (ss : List Snapshot) → All (λ s. s.time ≤ time) ss → last_change first ss ≤ time
change_by time first [] seen = omega arith
change_by time first (s ∷ []) seen =
    if_fact (λ t. t ≤ time) (are_same s.values first) 0 s.time (λ _. (let l : 0 ≤ time = omega arith in l)) (λ _. All-head (λ (x : Snapshot). x.time ≤ time) s [] seen)
change_by time first (s ∷ t ∷ older) seen =
    if_fact (λ t. t ≤ time) (are_same s.values t.values) (last_change first (t ∷ older)) s.time
    (λ _. change_by time first (t ∷ older) (All-tail (λ (x : Snapshot). x.time ≤ time) s (t ∷ older) seen)) (λ _. All-head (λ (x : Snapshot). x.time ≤ time) s (t ∷ older) seen)

pub last_by : (time : ℕ) (first : List Value) (ss : List Snapshot) → All (λ s. s.time ≤ time) ss → last_change first (lasts ss) ≤ time
last_by time first ss seen = change_by time first (lasts ss) (all_lasts (λ s. s.time ≤ time) ss seen)

pub since_by : (time earlier changed : ℕ) → earlier ≤ time → changed ≤ time → changed_since earlier changed ≤ time
since_by time zero changed l m = m
since_by time (suc earlier) zero l m = l
since_by time (suc earlier) (suc changed) l m = m
