-- Delays and limits side by side, a place at a time.
use Rattle.std.specs.Prelude.{◌≡◌, refl, ℕ, zero, suc, ◌<◌, List, [], ◌∷◌, length, map, replicate, Some, slice_index_or, slice_set}
use Rattle.std.proofs.Common.{ap, arith, ◌∙◌}
use Rattle.sg_delay.specs.declared.limits.Limit.{Limit}
use Rattle.sg_circuit.specs.Timings.{Timing}
use Rattle.sg_circuit.specs.TimingsSeen.{limit_seen, timings_of}
use Rattle.annotation_model.specs.Applied.{limited}

pub timing_at : (ds : List ℕ) (ls : List Limit) (i a : ℕ) (b : Limit) (t : Timing) → i < length ds → i < length ls
    → record { delay = slice_index_or ds i a; limits = limit_seen (slice_index_or ls i b) } ≡ slice_index_or (timings_of ds ls) i t
timing_at [] ls i a b t l m = absurd (omega arith)
timing_at (d ∷ ds) [] i a b t l m = absurd (omega arith)
timing_at (d ∷ ds) (x ∷ ls) zero a b t l m = refl
timing_at (d ∷ ds) (x ∷ ls) (suc i) a b t l m = timing_at ds ls i a b t (omega arith) (omega arith)

pub timing_set : (ds : List ℕ) (ls : List Limit) (i d : ℕ) (x : Limit) → timings_of (slice_set ds i d) (slice_set ls i x) ≡ slice_set (timings_of ds ls) i (record { delay = d; limits = limit_seen x })
timing_set [] ls i d x = refl
timing_set (e ∷ ds) [] zero d x = refl
timing_set (e ∷ ds) [] (suc i) d x = refl
timing_set (e ∷ ds) (y ∷ ls) zero d x = refl
timing_set (e ∷ ds) (y ∷ ls) (suc i) d x = ap (λ ts. record { delay = e; limits = limit_seen y } ∷ ts) (timing_set ds ls i d x)

pub timing_limited : (ds : List ℕ) (ls : List Limit) (l : Limit) (w : ℕ × ℕ) → limit_seen l ≡ Some w → timings_of ds (replicate (length ls) l) ≡ map (limited w) (timings_of ds ls)
timing_limited [] ls l w e = refl
timing_limited (d ∷ ds) [] l w e = refl
timing_limited (d ∷ ds) (x ∷ ls) l w e =
    ap (λ o. record { delay = d; limits = o } ∷ timings_of ds (replicate (length ls) l)) e ∙ ap (λ ts. record { delay = d; limits = Some w } ∷ ts) (timing_limited ds ls l w e)
