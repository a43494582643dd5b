-- The net that a spent time names.
use Rattle.std.specs.Prelude.{◌≡◌, ℕ, ◌<◌, ◌≤◌, true, List}
use Rattle.sg_logic.specs.declared.values.Value.{Value}
use Rattle.sg_model.specs.Machine.{Machine, State}
use Rattle.sg_model.specs.Round.{values_after}
use Rattle.fan_round.specs.Lists.{occurrences}
use Rattle.fan_round.specs.Nets.{differs}

-- the least number of a list
pub record IsLeastOf (ks : List ℕ) (net : ℕ) : Type 0 where
  pub listed : 0 < occurrences net ks
  pub least : (k : ℕ) → 0 < occurrences k ks → net ≤ k

-- a round would change a net
pub record Moves (m : Machine) (now : ℕ) (handed : List (ℕ × Value)) (s : State) : Type 0 where
  pub net : ℕ
  pub differs : differs s.values (values_after m now handed s) net ≡ true
