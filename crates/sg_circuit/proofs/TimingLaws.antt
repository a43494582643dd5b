-- The timing at a place, read from the delays and the limits.
use Rattle.std.specs.Prelude.{◌≡◌, ℕ, zero, suc, ◌<◌, List, [], ◌∷◌, length, slice_index_or, refl}
use Rattle.std.proofs.Common.{arith}
use Rattle.sg_delay.specs.declared.limits.Limit.{Limit}
use Rattle.sg_circuit.specs.Timings.{Timing}
use Rattle.sg_circuit.specs.TimingsSeen.{limit_seen, timings_of}

pub timings_of-at : (delays : List ℕ) (limits : List Limit) (i d : ℕ) (l : Limit) (blank : Timing) → i < length delays → i < length limits
    → slice_index_or (timings_of delays limits) i blank ≡ record { delay = slice_index_or delays i d; limits = limit_seen (slice_index_or limits i l) }
timings_of-at [] limits i d l blank m n = absurd (omega arith)
timings_of-at (x ∷ xs) [] i d l blank m n = absurd (omega arith)
timings_of-at (x ∷ xs) (y ∷ ys) zero d l blank m n = refl
timings_of-at (x ∷ xs) (y ∷ ys) (suc i) d l blank m n = timings_of-at xs ys i d l blank (omega arith) (omega arith)
