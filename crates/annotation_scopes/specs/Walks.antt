-- Names as the code has them.
use Rattle.std.specs.Prelude.{ℕ, List, map}
use Rattle.std.specs.Global.{Vec}

abbrev pub names_seen : List (Vec ℕ) → List (List ℕ)
names_seen names = map (λ name. name.items) names
