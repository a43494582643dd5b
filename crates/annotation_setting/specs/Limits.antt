-- A circuit's timing checks with new limits.
use Rattle.std.specs.Prelude.{◌≡◌, ℕ, ◌<◌, ℤ, pos, Bool, false, if◌then◌else◌, List, [], ◌∷◌, length, slice_index_or, slice_set}
use Rattle.sg_circuit.specs.Circuit.{Circuit}
use Rattle.sg_circuit.specs.Signals.{takes_lates}
use Rattle.sg_circuit.specs.declared.checks.Check.{Check}
use Rattle.sg_circuit.specs.declared.checks.CheckTiming.{CheckTiming}
use Rattle.circuit_open.specs.Open.{changed_at}
use Rattle.annotation_model.specs.Laws.{AreSmall}
use Rattle.annotation_model.specs.Spots.{weight_of}

-- limits that the check of a number may have: their sizes are small, as often as they weigh
abbrev pub AreSmallAt : Circuit → (check : ℕ) → List ℤ → Type 0
AreSmallAt c check limits = (k : Check) (t : CheckTiming) → AreSmall (weight_of c (takes_lates (slice_index_or c.check_timings check t).kind) (slice_index_or c.checks check k).scope) limits

-- and where the check has one limit, the second of the two that are kept is as before
abbrev pub AreKeptAt : Circuit → (check : ℕ) → List ℤ → Type 0
AreKeptAt c check limits = (t : CheckTiming) → takes_lates (slice_index_or c.check_timings check t).kind ≡ false → slice_index_or limits 1 (pos 0) ≡ slice_index_or (slice_index_or c.check_timings check t).limits 1 (pos 0)

-- limits of all timing checks
pub record AreLimitsOf (c : Circuit) (limits : List (List ℤ)) : Type 0 where
  pub each_check : length limits ≡ length c.check_timings
  pub small : (check : ℕ) → check < length limits → AreSmallAt c check (slice_index_or limits check [])
  pub kept : (check : ℕ) → check < length limits → AreKeptAt c check (slice_index_or limits check [])

-- those of the parts that a kind has
abbrev pub set_limits : (two : Bool) → List ℤ → List ℤ → List ℤ
set_limits two new old =
    if two then slice_set (slice_set old 0 (slice_index_or new 0 (pos 0))) 1 (slice_index_or new 1 (pos 0)) else slice_set old 0 (slice_index_or new 0 (pos 0))

abbrev pub with_limits : List ℤ → CheckTiming → CheckTiming
with_limits new t = record t { limits = set_limits (takes_lates t.kind) new t.limits }

abbrev pub with_limits_at : ℕ → List ℤ → Circuit → Circuit
with_limits_at check new c = record c { check_timings = changed_at (with_limits new) check c.check_timings }

-- those of the first checks
abbrev pub limited : List (List ℤ) → List CheckTiming → List CheckTiming
limited [] ts = ts
limited (l ∷ ls) [] = []
limited (l ∷ ls) (t ∷ ts) = with_limits l t ∷ limited ls ts

abbrev pub with_all_limits : List (List ℤ) → Circuit → Circuit
with_all_limits limits c = record c { check_timings = limited limits c.check_timings }
