-- Times that don't rise from one to the next.
use Rattle.std.specs.Prelude.{ℕ, ◌≤◌, List, [], ◌∷◌, Option, Some, None}
use Rattle.sg_model.specs.Machine.{Snapshot}
use Rattle.time_checks.specs.declared.latest.Latest.{Latest}

-- no time is after this one, and times don't rise
abbrev pub Falls : ℕ → List ℕ → Type 0
Falls time [] = Unit {0}
Falls time (t ∷ ts) = (t ≤ time) × Falls t ts

-- no snapshot is later than this time, nor than the one that follows it
abbrev pub DontFall : ℕ → List Snapshot → Type 0
DontFall time [] = Unit {0}
DontFall time (now ∷ older) = (now.time ≤ time) × DontFall now.time older

-- an event that is known happened by this time
abbrev pub IsBy : ℕ → Option ℕ → Type 0
IsBy time None = Unit {0}
IsBy time (Some t) = t ≤ time

-- so did all that are known
abbrev pub AreBy : ℕ → List Latest → Type 0
AreBy time [] = Unit {0}
AreBy time (known ∷ more) = (IsBy time known.refer × IsBy time known.datum) × AreBy time more

-- no snapshot is later than this time, nor than the one that follows it, and what is known happened by the first of them
abbrev pub DontFallSince : List Latest → ℕ → List Snapshot → Type 0
DontFallSince earlier time [] = AreBy time earlier
DontFallSince earlier time (now ∷ older) = (now.time ≤ time) × DontFallSince earlier now.time older
