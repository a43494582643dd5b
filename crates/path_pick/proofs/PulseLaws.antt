-- A pulse's delay and limits, read from the delays and the limits of a table, and that the delay isn't too long.
use Rattle.std.specs.Prelude.{◌≡◌, ℕ, zero, suc, ◌<◌, ◌^◌, List, [], ◌∷◌, None, length, slice_index_or}
use Rattle.std.proofs.Common.{sym, ◌∙◌, ap, arith}
use Rattle.sg_delay.specs.declared.limits.Limit.{Limit}
use Rattle.sg_circuit.specs.Timings.{Timing, limits_or}
use Rattle.sg_circuit.specs.TimingsSeen.{limit_seen, timings_of}
use Rattle.sg_circuit.proofs.TimingLaws.{timings_of-at}
use Rattle.path_pick.specs.declared.pulses.Pulse.{Pulse}
use Rattle.path_pick.specs.Pass.{pulse_by}
use Rattle.path_pick.specs.Within.{AreNear}

abbrev made : ℕ → ℕ × ℕ → Pulse
made delay widths = record { delay = delay; reject = widths.0; error = widths.1 }

pub pulse-at : (delays : List ℕ) (limits : List Limit) (place d : ℕ) (l : Limit) (widths : ℕ × ℕ) (blank : Timing) → place < length delays → place < length limits
    → widths ≡ limits_or (slice_index_or delays place d) (limit_seen (slice_index_or limits place l))
    → made (slice_index_or delays place d) widths ≡ pulse_by (slice_index_or (timings_of delays limits) place blank)
pulse-at delays limits place d l widths blank m n are =
    ap (made (slice_index_or delays place d)) are ∙ ap pulse_by (sym (timings_of-at delays limits place d l blank m n))

pub near-at : (delays : List ℕ) (limits : List Limit) (place d : ℕ) → place < length delays → place < length limits → AreNear (timings_of delays limits) → slice_index_or delays place d < 2 ^ 60
near-at [] limits place d m n h = absurd (omega arith)
near-at (x ∷ xs) [] place d m n h = absurd (omega arith)
near-at (x ∷ xs) (y ∷ ys) zero d m n h = h 0 (record { delay = 0; limits = None }) (omega arith)
near-at (x ∷ xs) (y ∷ ys) (suc place) d m n h = near-at xs ys place d (omega arith) (omega arith) (λ k t l. h (suc k) t (omega arith))
