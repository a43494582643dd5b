-- Candidates are events, and lie before the time up to which they are looked for.
use Rattle.std.specs.Prelude.{◌≡◌, ℕ, ◌+◌, ◌<◌, ◌≤◌, ◌==◌, nat_lt, nat_le, ◌&&◌, Bool, true, false, cond, List, [], ◌∷◌, filter, filter_map, length, Option, Some, None, IfSome, option_map, slice_get, refl}
use Rattle.std.specs.List.{enumerate_from, last_or, AllByRecursion, cons_option, list_all}
use Rattle.std.proofs.Common.{arith}
use Rattle.std.proofs.lemmas.Bool.Decides.{nat_tests}
use Rattle.why_causes.specs.declared.events.Event.{Event}
use Rattle.why_causes.specs.declared.changes.Candidate.{Candidate}
use Rattle.why_causes.specs.Waveform.{Waveform, is_before, last_before}
use Rattle.why_causes.specs.Candidates.{time_of, last_of, last_of_each, latest}
use Rattle.why_causes.proofs.StepLaws.{first-passes}

-- an event of so many, before a time
abbrev pub IsIn : ℕ → ℕ → ℕ × Event → Type 0
IsIn n time e = (e.0 < n) × (e.1.time < time)

abbrev pub Is : ℕ → ℕ → Candidate → Type 0
Is n time c = (c.number < n) × (c.event.time < time)

filter-in : (n k net time : ℕ) (es : List Event) → k + length es ≤ n → AllByRecursion (IsIn n time) (filter (is_before net time) (enumerate_from k es))
filter-in n k net time [] l = tt
filter-in n k net time (e ∷ es) l = at (is_before net time (k, e)) refl (filter-in n (k + 1) net time es (omega (arith, l)))
  where
    in-time : (a b : Bool) → (a && b) ≡ true → b ≡ true
    in-time true b h = h
    in-time false b h = absurd (cc)

    at : (b : Bool) → is_before net time (k, e) ≡ b → AllByRecursion (IsIn n time) (filter (is_before net time) (enumerate_from (k + 1) es))
        → AllByRecursion (IsIn n time) (cond b ((k, e) ∷ filter (is_before net time) (enumerate_from (k + 1) es)) (filter (is_before net time) (enumerate_from (k + 1) es)))
    at true h rest = let t = in-time (e.net == net) (nat_lt e.time time) h in ((omega (arith, l), grind (arith, nat_tests, t)), rest)
    at false h rest = rest

pub last-each : {A : Type 0} (P : A → Type 0) (o : Option A) (xs : List A) → IfSome o P → AllByRecursion P xs → IfSome (last_or o xs) P
last-each P o [] h k = h
last-each P o (x ∷ xs) h k = last-each P (Some x) xs k.0 k.1

last-in : (w : Waveform) (net time : ℕ) → IfSome (last_before w net time) (IsIn (length w.events) time)
last-in w net time = last-each (IsIn (length w.events) time) None (filter (is_before net time) (enumerate_from 0 w.events)) tt (filter-in (length w.events) 0 net time w.events (omega arith))

pub last-of-in : (w : Waveform) (time : ℕ) (input : ℕ × ℕ) → IfSome (last_of w time input) (Is (length w.events) time)
last-of-in w time input = at (last_before w input.1 time) (last-in w input.1 time)
  where
    at : (o : Option (ℕ × Event)) → IfSome o (IsIn (length w.events) time) → IfSome (option_map (λ (e : ℕ × Event). record { input = input.0; number = e.0; event = e.1 }) o) (Is (length w.events) time)
    at None h = tt
    at (Some e) h = h

pub each-mapped : {A B : Type 0} (P : B → Type 0) (h : A → Option B) (xs : List A) → ((x : A) → IfSome (h x) P) → AllByRecursion P (filter_map h xs)
each-mapped P h [] f = tt
each-mapped {A} {B} P h (x ∷ xs) f = at (h x) (f x) (each-mapped P h xs f)
  where
    at : (o : Option B) → IfSome o P → AllByRecursion P (filter_map h xs) → AllByRecursion P (cons_option o (filter_map h xs))
    at None k rest = rest
    at (Some y) k rest = (k, rest)

pub first-in-time : (w : Waveform) (limit : ℕ) (inputs : List ℕ) (c : Candidate) → slice_get (latest (last_of_each w limit (enumerate_from 0 inputs))) 0 ≡ Some c → c.event.time < limit
first-in-time w limit inputs c h =
    (first-passes (Is (length w.events) limit) (λ c. list_all (λ d. nat_le (time_of d) (time_of c)) (last_of_each w limit (enumerate_from 0 inputs))) (last_of_each w limit (enumerate_from 0 inputs)) c
    (each-mapped (Is (length w.events) limit) (last_of w limit) (enumerate_from 0 inputs) (last-of-in w limit)) h).1.1
