-- Whether a width is 1.
use Rattle.std.proofs.Common.{◌≡◌, ℕ, ◌≤◌, ◌^◌, Bool, true, false, refl, ap, arith}
use Rattle.std.specs.Prelude.{◌==◌}
use Rattle.std.proofs.lemmas.Bool.{eqb-true}

pub is_width : (n number : ℕ) → n ≡ number → (n == 1) ≡ (number == 1)
is_width n number e = ap (λ (k : ℕ). k == 1) e

pub too_wide : (number : ℕ) → 2 ^ 64 ≤ number → false ≡ (number == 1)
too_wide number h = by (number == 1) refl
  where
    by : (b : Bool) → (number == 1) ≡ b → false ≡ b
    by false e = refl
    by true e = absurd (omega (arith, eqb-true number 1 e, h))
