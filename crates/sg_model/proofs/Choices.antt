-- A choice whose test is known.
use Rattle.std.specs.Prelude.{Bool, true, false, ◌≡◌, if◌then◌else◌}
use Rattle.std.proofs.Common.{ap}

pub if_true : {A : Type 0} (b : Bool) (x y : A) → b ≡ true → (if b then x else y) ≡ x
if_true b x y e = ap (λ c. if c then x else y) e

pub if_false : {A : Type 0} (b : Bool) (x y : A) → b ≡ false → (if b then x else y) ≡ y
if_false b x y e = ap (λ c. if c then x else y) e
