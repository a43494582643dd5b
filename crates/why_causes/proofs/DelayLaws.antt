-- A timing's delay, read from a table's delays.
use Rattle.std.specs.Prelude.{◌≡◌, ℕ, zero, suc, ◌<◌, List, [], ◌∷◌, length, map, position, Some, slice_index_or, refl}
use Rattle.std.proofs.Common.{◌∙◌, ap, arith}
use Rattle.sg_delay.specs.declared.limits.Limit.{Limit}
use Rattle.sg_logic.specs.declared.values.Value.{Value}
use Rattle.sg_logic.specs.Transitions.{goes, transitions}
use Rattle.sg_circuit.specs.Timings.{Timing, timing_at, timing_between}
use Rattle.sg_circuit.specs.TimingsSeen.{timings_of}

delay-in : (delays : List ℕ) (limits : List Limit) (place d : ℕ) (blank : Timing) → place < length (timings_of delays limits) → slice_index_or delays place d ≡ (slice_index_or (timings_of delays limits) place blank).delay
delay-in [] limits place d blank l = absurd (omega (arith, l))
delay-in (x ∷ xs) [] place d blank l = absurd (omega (arith, l))
delay-in (x ∷ xs) (y ∷ ys) zero d blank l = refl
delay-in (x ∷ xs) (y ∷ ys) (suc place) d blank l = delay-in xs ys place d blank (omega (arith, l))

pub delay-at : (delays : List ℕ) (limits : List Limit) (place d : ℕ) (blank : Timing) → length (timings_of delays limits) ≡ 12 → place < 12 → slice_index_or delays place d ≡ (slice_index_or (timings_of delays limits) place blank).delay
delay-at delays limits place d blank twelve l = delay-in delays limits place d blank (omega (arith, twelve, l))

-- what a table's item is, mapped
pub mapped-at : {A B : Type 0} (f : A → B) (xs : List A) (i : ℕ) (x d : A) (blank : B) → i < length xs → x ≡ slice_index_or xs i d → f x ≡ slice_index_or (map f xs) i blank
mapped-at f [] i x d blank l is = absurd (omega (arith, l))
mapped-at f (y ∷ ys) zero x d blank l is = ap f is
mapped-at f (y ∷ ys) (suc i) x d blank l is = mapped-at f ys i x d blank (omega (arith, l)) is

-- the delay of a transition, which has this place
pub between-delay : (delays : List ℕ) (limits : List Limit) (from to : Value) (place d : ℕ) → length (timings_of delays limits) ≡ 12 → place < 12 → Some place ≡ position (goes from to) transitions
    → slice_index_or delays place d ≡ (timing_between (timings_of delays limits) from to).delay
between-delay delays limits from to place d twelve l is =
    delay-at delays limits place d _ twelve l ∙ ap (λ o. (timing_at (timings_of delays limits) o).delay) is
