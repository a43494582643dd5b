-- What a numbering of signals keeps: where each stands among them.
use Rattle.std.specs.Prelude.{◌≡◌, ℕ, ◌<◌, ◌≤◌, ◌^◌, List, length, slice_index}

pub record IsPlaced (nets places : List ℕ) (i : ℕ) : Type 0 where
  pub there : slice_index nets i < length places
  pub place : slice_index places (slice_index nets i) ≡ i

-- the place of each of these nets stands at its number
pub record ArePlaced (nets places : List ℕ) : Type 0 where
  pub few : length nets < 2 ^ 32
  pub each : (i : ℕ) → i < length nets → IsPlaced nets places i

-- places are added
pub record IsLonger (before after : List ℕ) : Type 0 where
  pub longer : length before ≤ length after
  pub same : (i : ℕ) → i < length before → slice_index after i ≡ slice_index before i
