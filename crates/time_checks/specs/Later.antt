-- Snapshots after a time: of the events up to it the latest times alone count.
use Rattle.std.specs.Prelude.{◌≡◌, ◌<◌, All, List, [], ◌∷◌, ◌++◌}
use Rattle.sg_model.specs.Machine.{Snapshot}
use Rattle.time_checks.specs.declared.latest.Latest.{Latest}
use Rattle.time_checks.specs.Adjusted.{AdjustedCheck}
use Rattle.time_checks.specs.Falling.{DontFallSince}
use Rattle.time_checks.specs.Violations.{latest_events, violations_since}

-- a snapshot, those between it and an earlier one, that one, and all before it
pub record EarlierCountByLatest : Type 0 where
  pub violations : (earlier : List Latest) (checks : List AdjustedCheck) (now : Snapshot) (newer : List Snapshot) (last : Snapshot) (older : List Snapshot)
      → DontFallSince earlier now.time (newer ++ last ∷ older) → All (λ s. last.time < s.time) (now ∷ newer)
      → violations_since earlier checks (now ∷ newer ++ last ∷ older) ≡ violations_since (latest_events earlier checks (last ∷ older)) checks (now ∷ newer ++ last ∷ [])
  pub latest : (earlier : List Latest) (checks : List AdjustedCheck) (now : Snapshot) (newer : List Snapshot) (last : Snapshot) (older : List Snapshot)
      → DontFallSince earlier now.time (newer ++ last ∷ older) → All (λ s. last.time < s.time) (now ∷ newer)
      → latest_events earlier checks (now ∷ newer ++ last ∷ older) ≡ latest_events (latest_events earlier checks (last ∷ older)) checks (now ∷ newer ++ last ∷ [])
