-- What a checker stands for, and what it is to see.
use Rattle.std.specs.Prelude.{◌≡◌, ℕ, ◌<◌, ◌^◌, Bool, false, true, All, List, [], ◌∷◌, ◌++◌, length, map, None, slice_index_or}
use Rattle.sg_logic.specs.declared.values.Value.{Value}
use Rattle.sg_circuit.specs.declared.checks.CheckKind.TheVariants as kind
use Rattle.time_checks.specs.Adjusted.{AdjustedCheck}
use Rattle.sg_circuit.specs.FanOut.{has, IsFanOut}
use Rattle.sg_model.specs.Machine.{Snapshot, Violation}
use Rattle.sg_model.specs.Round.{each_from}
use Rattle.fan_round.specs.declared.work.WorkList.{WorkList}
use Rattle.fan_round.specs.Nets.{differs}
use Rattle.fan_round.specs.States.{IsIdle}
use Rattle.time_checks.specs.declared.recent.Recent.{Recent}
use Rattle.time_checks.specs.Falling.{DontFallSince}
use Rattle.time_checks.specs.Within.{terminals, IsCheckWithin}
use Rattle.time_checks.specs.declared.latest.Latest.{Latest}
use Rattle.time_checks.specs.Events.{event_times_since, datum_times_since}
use Rattle.time_checks.specs.Violations.{all_from, earlier_at, violations_since}
use Rattle.time_checks.specs.Kept.{StandsFor, events_at, next_of, instant_of, found_at}

-- the check of a number; past the end a blank
abbrev pub check_at : List AdjustedCheck → ℕ → AdjustedCheck
check_at checks number = slice_index_or checks number (record { kind = kind.Setup; refer = record { net = 0; edge = None; condition = None }; datum = None; limits = []; windows = []; threshold = 0; refer_delay = 0; datum_delay = 0 })

-- nothing happened yet
abbrev pub no_times : Recent
no_times = record { refer = None; datum = None; earlier = None }

-- what is kept where this is known of the events before
abbrev pub recent_of : Latest → Recent
recent_of known = record { refer = known.refer; datum = known.datum; earlier = None }

abbrev pub latest_at : List Recent → ℕ → Recent
latest_at latest number = slice_index_or latest number no_times

-- what a checker keeps: what was known of each check's events before it saw anything, whether it saw a snapshot, the nets at the last, and the latest times of each check's events
pub record Kept : Type 0 where
  pub checks : List AdjustedCheck
  pub earlier : List Latest
  pub seen : Bool
  pub last : List Value
  pub latest : List Recent

abbrev pub is_some_snapshot : List Snapshot → Bool
is_some_snapshot [] = false
is_some_snapshot (s ∷ ss) = true

-- these are the nets at the latest snapshot
abbrev pub IsLast : List Snapshot → List Value → Type 0
IsLast [] values = Unit {0}
IsLast (last ∷ older) values = values ≡ last.values

-- a checker stands for each list of snapshots with these nets and these latest times: before it saw any for the empty one alone
pub record Stands (kept : Kept) (snapshots : List Snapshot) : Type 0 where
  pub seen : kept.seen ≡ is_some_snapshot snapshots
  pub last : IsLast snapshots kept.last
  pub each : (number : ℕ) → number < length kept.checks
      → StandsFor (latest_at kept.latest number) (event_times_since (earlier_at kept.earlier number).refer (check_at kept.checks number).refer snapshots)
      (datum_times_since (earlier_at kept.earlier number).datum (check_at kept.checks number).datum snapshots)

-- each net whose value differs is among these
pub record Covers (last now : List Value) (changed : List ℕ) : Type 0 where
  pub each : (net : ℕ) → differs last now net ≡ true → has net changed ≡ true

-- and so it is since the latest of some snapshots; at the very first any will do
abbrev pub LeadsTo : List Snapshot → List ℕ → List Value → Type 0
LeadsTo [] changed values = Unit {0}
LeadsTo (last ∷ older) changed values = Covers last.values values changed

-- violations were added, which are those of the next snapshot, whatever list the checker stood for and the changed nets lead
-- on from; and it stands for the longer list
pub record Sees (before after : Kept) (time : ℕ) (changed : List ℕ) (values : List Value) (old new : List Violation) : Type 0 where
  pub found : List Violation
  pub added : new ≡ old ++ found
  pub each : (older : List Snapshot) → Stands before older → DontFallSince before.earlier time older → LeadsTo older changed values
      → (found ≡ violations_since before.earlier before.checks (record { time = time; values = values } ∷ older)) × Stands after (record { time = time; values = values } ∷ older)

-- Words of the code.

-- the latest times of a check after a snapshot
abbrev pub next_at : List AdjustedCheck → List Value → List Value → ℕ → ℕ → Recent → Recent
next_at checks last now time number latest = next_of time (events_at (check_at checks number) last now) latest

-- the violations of a check at it
abbrev pub found_in : List AdjustedCheck → List Value → List Value → ℕ → List Recent → ℕ → List Violation
found_in checks last now time latest number = found_at number (check_at checks number) (instant_of time (events_at (check_at checks number) last now) (latest_at latest number))

-- violations were added, and latest times put, as a pass over all checks would, wherever the changed nets cover the changes
pub record SeesChanges (checks : List AdjustedCheck) (changed : List ℕ) (last now : List Value) (time : ℕ) (latest latest' : List Recent) (old new : List Violation) : Type 0 where
  pub found : List Violation
  pub added : new ≡ old ++ found
  pub whole : Covers last now changed → found ≡ all_from (λ number check. found_in checks last now time latest number) 0 checks
  pub kept : Covers last now changed → latest' ≡ each_from (next_at checks last now time) 0 latest

-- the parts of a checker fit together
pub record IsReady (checks : List AdjustedCheck) (nets : ℕ) (index : List (List ℕ)) (work : WorkList) (latest : List Recent) : Type 0 where
  pub within : All (λ c. IsCheckWithin c nets) checks
  pub few : length checks < 2 ^ 31
  pub indexed : IsFanOut (map (λ c. terminals c) checks) index
  pub each_net : length index ≡ nets
  pub idle : IsIdle work (length checks)
  pub each_check : length latest ≡ length checks
