-- Limits that don't cross stay as they are.
use Rattle.std.specs.Prelude.{◌≡◌, ◌≤◌, ℤ}
use Rattle.std.proofs.Common.{ap}
use Rattle.std.proofs.Math.Nat.{max-eq_right}
use Rattle.sg_time.specs.Ticks.{above}
use Rattle.annotation_model.specs.Applied.{limits_from}

pub limits-in_order : (reject error : ℤ) → above reject ≤ above error → limits_from (reject, error) ≡ (above reject, above error)
limits-in_order reject error l = ap (λ n. (above reject, n)) (max-eq_right l)
