-- So many percent of each delay, one transition after another.
use Rattle.std.specs.Prelude.{◌≡◌, refl, ℕ, zero, suc, ◌<◌, ◌^◌, ◌||◌, not, nat_lt, Bool, false, take, List, [], ◌∷◌, length, Some, slice_index_or, slice_set}
use Rattle.std.specs.List.{list_any}
use Rattle.std.proofs.Common.{ap, arith}
use Rattle.std.proofs.lemmas.Bool.{or_from, or_parts}
use Rattle.sg_time.specs.Spelling.{Number}
use Rattle.sg_delay.specs.declared.limits.Limit.{Limit}
use Rattle.sg_circuit.specs.Timings.{Timing}
use Rattle.sg_circuit.specs.TimingsSeen.{limit_seen, timings_of}
use Rattle.annotation_model.specs.Applied.{percents, with_percents, is_percent_large}

-- the first few have their limits
abbrev pub first : Number × Number → ℕ → List ℕ → List Limit → List Timing
first l zero ds ls = timings_of ds ls
first l (suc n) [] ls = []
first l (suc n) (d ∷ ds) [] = []
first l (suc n) (d ∷ ds) (x ∷ ls) = record { delay = d; limits = Some (percents l d) } ∷ first l n ds ls

abbrev pub is_large_of : Number × Number → ℕ → Bool
is_large_of l d = not (nat_lt (percents l d).1 (2 ^ 60))

pub one_more : (l : Number × Number) (i : ℕ) (ds : List ℕ) (ls now : List Limit) (x : Limit) (e : ℕ) → i < length ds → i < length ls → i < length now
    → timings_of ds now ≡ first l i ds ls → limit_seen x ≡ Some (percents l (slice_index_or ds i e)) → timings_of ds (slice_set now i x) ≡ first l (suc i) ds ls
one_more l i [] ls now x e a b c h s = absurd (omega arith)
one_more l i (d ∷ ds) [] now x e a b c h s = absurd (omega arith)
one_more l i (d ∷ ds) (y ∷ ls) [] x e a b c h s = absurd (omega arith)
one_more l zero (d ∷ ds) (y ∷ ls) (z ∷ now) x e a b c h s = cc
one_more l (suc i) (d ∷ ds) (y ∷ ls) (z ∷ now) x e a b c h s =
    let t : timings_of ds now ≡ first l i ds ls = cc in
    let r = one_more l i ds ls now x e (omega arith) (omega arith) (omega arith) t s in cc

pub all_first : (l : Number × Number) (n : ℕ) (ds : List ℕ) (ls : List Limit) → length ds ≡ n → first l n ds ls ≡ with_percents (Some l) (timings_of ds ls)
all_first l zero [] ls e = refl
all_first l zero (d ∷ ds) ls e = absurd (omega arith)
all_first l (suc n) [] ls e = refl
all_first l (suc n) (d ∷ ds) [] e = refl
all_first l (suc n) (d ∷ ds) (x ∷ ls) e = ap (λ ts. record { delay = d; limits = Some (percents l d) } ∷ ts) (all_first l n ds ls (omega arith))

pub large_of : (l : Number × Number) (ds : List ℕ) (ls : List Limit) → length ds ≡ length ls → list_any (is_large_of l) ds ≡ is_percent_large (Some l) (timings_of ds ls)
large_of l [] ls e = refl
large_of l (d ∷ ds) [] e = absurd (omega arith)
large_of l (d ∷ ds) (x ∷ ls) e = ap (λ b. is_large_of l d || b) (large_of l ds ls (omega arith))

pub small_more : (p : ℕ → Bool) (ds : List ℕ) (i e : ℕ) → i < length ds → list_any p (take i ds) ≡ false → p (slice_index_or ds i e) ≡ false → list_any p (take (suc i) ds) ≡ false
small_more p [] i e l h s = absurd (omega arith)
small_more p (d ∷ ds) zero e l h s = or_from (p d) false s refl
small_more p (d ∷ ds) (suc i) e l h s = or_from (p d) (list_any p (take (suc i) ds)) (or_parts (p d) (list_any p (take i ds)) h).0 (small_more p ds i e (omega arith) (or_parts (p d) (list_any p (take i ds)) h).1 s)
