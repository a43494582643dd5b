-- The violations of timing checks that belong to a snapshot: at most one a part (IEEE 1364-2005, 15.2, 15.3).
use Rattle.std.specs.Prelude.{ℕ, suc, ◌-◌, ℤ, pos, List, [], ◌∷◌, ◌++◌, Option, Some, None, slice_index_or}
use Rattle.sg_model.specs.Machine.{Snapshot, Violation}
use Rattle.sg_model.specs.Round.{each_from}
use Rattle.time_checks.specs.declared.violations.Part.{Part}
use Rattle.time_checks.specs.Adjusted.{AdjustedCheck}
use Rattle.time_checks.specs.Parts.{part_number, parts_of}
use Rattle.time_checks.specs.Windows.{Pair, Moment, violated}
use Rattle.time_checks.specs.declared.latest.Latest.{Latest}
use Rattle.time_checks.specs.Events.{latest_since, moment_since, no_events}

-- what f gives at each place of a list, one after another
abbrev pub all_from : {A B : Type 0} → (ℕ → A → List B) → ℕ → List A → List B
all_from f i [] = []
all_from f i (x ∷ xs) = f i x ++ all_from f (suc i) xs

-- a violation, where there is one, with the times at which its signals changed: those of its events, less how late the signals are seen
abbrev pub listed : ℕ → AdjustedCheck → Part → ℤ → Option Pair → List Violation
listed number check part limit None = []
listed number check part limit (Some times) =
    record { check = number; part = part_number part; refer_time = times.0 - check.refer_delay; datum_time = times.1 - check.datum_delay; limit = limit } ∷ []

-- the limit of a check's part, and the window that decides
abbrev pub limit_at : AdjustedCheck → ℕ → ℤ
limit_at check place = slice_index_or check.limits place (pos 0)

abbrev pub window_at : AdjustedCheck → ℕ → ℤ
window_at check place = slice_index_or check.windows place (pos 0)

-- a check's violations at a moment, in the order of its parts
abbrev pub violations_at : ℕ → AdjustedCheck → Moment → List Violation
violations_at number check now = all_from (λ place part. listed number check part (limit_at check place) (violated part (window_at check place) check.threshold now)) 0 (parts_of check.kind)

-- what is known of a check's events before some snapshots; of those past the end of a list nothing
abbrev pub earlier_at : List Latest → ℕ → Latest
earlier_at earlier number = slice_index_or earlier number no_events

-- the violations that belong to the latest of some snapshots, in the order of the checks, where this is known of the events before them
abbrev pub violations_since : List Latest → List AdjustedCheck → List Snapshot → List Violation
violations_since earlier checks [] = []
violations_since earlier checks (now ∷ older) = all_from (λ number check. violations_at number check (moment_since (earlier_at earlier number) check now older)) 0 checks

abbrev pub violations : List AdjustedCheck → List Snapshot → List Violation
violations checks snapshots = violations_since [] checks snapshots

-- the latest events of each check
abbrev pub latest_events : List Latest → List AdjustedCheck → List Snapshot → List Latest
latest_events earlier checks snapshots = each_from (λ number check. latest_since (earlier_at earlier number) check snapshots) 0 checks
