-- What a stimulus sets, found from where its steps are cut at a time.
use Rattle.std.specs.Prelude.{◌≡◌, ◌≢◌, ◌⊎◌, ℕ, zero, suc, ◌+◌, ◌-◌, ◌<◌, ◌≤◌, ◌==◌, nat_lt, Bool, true, false, if◌then◌else◌, List, [], ◌∷◌, drop, map, length, slice_index_or, refl}
use Rattle.std.specs.List.{AllWithin}
use Rattle.std.specs.List.Sorted.{IsPartitionedBy}
use Rattle.std.proofs.Common.{sym, ◌∙◌, ap, subst, arith, inl, inr}
use Rattle.std.proofs.lemmas.Bool.Decides.{nat_tests}
use Rattle.std.proofs.lemmas.Bool.{cases_eq}
use Rattle.std.proofs.lemmas.List.{get_or-drop, length-drop}
use Rattle.sg_stimulus.specs.declared.steps.Set.{Set}
use Rattle.sg_stimulus.specs.declared.steps.StimStep.{StimStep}
use Rattle.sg_stimulus.specs.Stimulus.{sets_at}
use Rattle.sg_stimulus.specs.Applied.{StepsRise}
use Rattle.sg_stimulus.specs.Seen.{step_seen, set_seen}
use Rattle.sim_times.specs.Steps.{SetNothing, SetsFirst, Splits}

-- each step is before each later one
pub record Rising (steps : List StimStep) : Type 0 where
  pub each : (i j : ℕ) (blank : StimStep) → i < j → j < length steps → (slice_index_or steps i blank).time < (slice_index_or steps j blank).time

rises : (steps : List StimStep) → StepsRise (map (λ x. step_seen x) steps) → (i j : ℕ) (blank : StimStep) → i < j → j < length steps → (slice_index_or steps i blank).time < (slice_index_or steps j blank).time
rises [] h i j blank l m = absurd (omega arith)
rises (s ∷ []) h i j blank l m = absurd (omega arith)
rises (s ∷ t ∷ ss) h i zero blank l m = absurd (omega arith)
rises (s ∷ t ∷ ss) h (suc i) (suc j) blank l m = rises (t ∷ ss) h.1 i j blank (omega arith) (omega arith)
rises (s ∷ t ∷ ss) h zero (suc zero) blank l m = h.0
rises (s ∷ t ∷ ss) h zero (suc (suc j)) blank l m =
    let one : s.time < t.time = h.0 in
    let more : t.time < (slice_index_or ss j blank).time = rises (t ∷ ss) h.1 zero (suc j) blank (omega arith) (omega arith) in
    omega arith

pub rising : (steps : List StimStep) → StepsRise (map (λ x. step_seen x) steps) → Rising steps
rising steps h = record { each = rises steps h }

-- the steps before a time are the first ones
partitioned : (steps : List StimStep) → Rising steps → (time i j : ℕ) (blank : StimStep) → i ≤ j → j < length steps → nat_lt (slice_index_or steps j blank).time time ≡ true → nat_lt (slice_index_or steps i blank).time time ≡ true
partitioned steps r time i j blank l m e = at (cases_eq i j)
  where
    at : (i ≡ j) ⊎ (i ≢ j) → nat_lt (slice_index_or steps i blank).time time ≡ true
    at (inl same) = subst (λ k. nat_lt (slice_index_or steps k blank).time time ≡ true) (sym same) e
    at (inr other) = let k : (slice_index_or steps i blank).time < (slice_index_or steps j blank).time = r.each i j blank (omega arith) m in grind (arith, nat_tests)

-- at the time of a step its sets are made
found : (steps : List StimStep) → ((i j : ℕ) (blank : StimStep) → i < j → j < length steps → (slice_index_or steps i blank).time < (slice_index_or steps j blank).time)
    → (i : ℕ) (blank : StimStep) → i < length steps → (t : ℕ) → (slice_index_or steps i blank).time ≡ t
    → sets_at (map (λ x. step_seen x) steps) t ≡ map (λ c. set_seen c) (slice_index_or steps i blank).sets.items
found [] r i blank l t e = absurd (omega arith)
found (s ∷ ss) r zero blank l t e =
    let same : s.time ≡ t = e in
    let k : (s.time == t) ≡ true = grind (arith, nat_tests) in
    ap (λ b. if b then (step_seen s).sets else sets_at (map (λ x. step_seen x) ss) t) k
found (s ∷ ss) r (suc i) blank l t e =
    let before : s.time < (slice_index_or ss i blank).time = r 0 (suc i) blank (omega arith) l in
    let at : (slice_index_or ss i blank).time ≡ t = e in
    let k : (s.time == t) ≡ false = grind (arith, nat_tests) in
    ap (λ b. if b then (step_seen s).sets else sets_at (map (λ x. step_seen x) ss) t) k
    ∙ found ss (λ a b d lo hi. r (suc a) (suc b) d (omega arith) (omega arith)) i blank (omega arith) t e

-- at any other time none is made
none : (steps : List StimStep) (t : ℕ) → ((i : ℕ) (blank : StimStep) → i < length steps → (slice_index_or steps i blank).time ≢ t) → sets_at (map (λ x. step_seen x) steps) t ≡ []
none [] t h = refl
none (s ∷ ss) t h =
    let other : s.time ≢ t = h 0 s (omega arith) in
    let k : (s.time == t) ≡ false = grind (arith, nat_tests) in
    ap (λ b. if b then (step_seen s).sets else sets_at (map (λ x. step_seen x) ss) t) k ∙ none ss t (λ i d l. h (suc i) d (omega arith))

-- within a list no blank is read
same_in : (steps : List StimStep) (i : ℕ) (a b : StimStep) → i < length steps → slice_index_or steps i a ≡ slice_index_or steps i b
same_in [] i a b l = absurd (omega arith)
same_in (s ∷ ss) zero a b l = refl
same_in (s ∷ ss) (suc i) a b l = same_in ss i a b (omega arith)

-- the step at the cut has the time
pub sets_found : (steps : List StimStep) (time n : ℕ) (step : StimStep) → Rising steps → n < length steps → slice_index_or steps n step ≡ step → step.time ≡ time
    → map (λ c. set_seen c) step.sets.items ≡ sets_at (map (λ x. step_seen x) steps) time
sets_found steps time n step r l is e =
    sym (found steps r.each n step l time (ap (λ s. s.time) is ∙ e) ∙ ap (λ s. map (λ c. set_seen c) s.sets.items) is)

-- the step at the cut comes later
pub sets_later : (steps : List StimStep) (time n t : ℕ) (step : StimStep) → Rising steps → Splits steps time n → n < length steps → slice_index_or steps n step ≡ step → time ≤ t → t < step.time
    → sets_at (map (λ x. step_seen x) steps) t ≡ []
sets_later steps time n t step r cut l is lo hi = none steps t (λ i blank m. other i m blank (lt_or_le i n))
  where
    lt_or_le : (a b : ℕ) → (a < b) ⊎ (b ≤ a)
    lt_or_le a b = grind arith

    at_cut : (slice_index_or steps n step).time ≡ step.time
    at_cut = ap (λ s. s.time) is

    from : (i : ℕ) → i < length steps → (blank : StimStep) → (n < i) ⊎ (i ≤ n) → n ≤ i → t < (slice_index_or steps i blank).time
    from i m blank (inl after) f =
        let k : (slice_index_or steps n blank).time < (slice_index_or steps i blank).time = r.each n i blank after m in
        let e : slice_index_or steps n blank ≡ slice_index_or steps n step = same_in steps n blank step l in
        let q : (slice_index_or steps n blank).time ≡ step.time = ap (λ s. s.time) e ∙ at_cut in
        omega arith
    from i m blank (inr upto) f =
        let e : i ≡ n = omega arith in
        let q : (slice_index_or steps i blank).time ≡ step.time = ap (λ k. (slice_index_or steps k blank).time) e ∙ (ap (λ s. s.time) (same_in steps n blank step l) ∙ at_cut) in
        omega arith

    other : (i : ℕ) → i < length steps → (blank : StimStep) → (i < n) ⊎ (n ≤ i) → (slice_index_or steps i blank).time ≢ t
    other i m blank (inl before) = let k : (slice_index_or steps i blank).time < time = cut.before i blank before in omega arith
    other i m blank (inr at) = let k : t < (slice_index_or steps i blank).time = from i m blank (lt_or_le n i) at in omega arith

-- no step is left
pub sets_none : (steps : List StimStep) (time n t : ℕ) → Splits steps time n → length steps ≤ n → time ≤ t → sets_at (map (λ x. step_seen x) steps) t ≡ []
sets_none steps time n t cut l lo = none steps t (λ i blank m. (let k : (slice_index_or steps i blank).time < time = cut.before i blank (omega arith) in omega arith))

-- where no step of a time sets anything, nothing is set at it
none_set : (steps : List StimStep) (t : ℕ) → ((i : ℕ) (blank : StimStep) → i < length steps → (slice_index_or steps i blank).time ≡ t → (slice_index_or steps i blank).sets.items ≡ []) → sets_at (map (λ x. step_seen x) steps) t ≡ []
none_set [] t h = refl
none_set (s ∷ ss) t h = at (s.time == t) refl (none_set ss t (λ i d l e. h (suc i) d (omega arith) e))
  where
    at : (b : Bool) → (s.time == t) ≡ b → sets_at (map (λ x. step_seen x) ss) t ≡ [] → (if b then (step_seen s).sets else sets_at (map (λ x. step_seen x) ss) t) ≡ []
    at true e rest = let same : s.time ≡ t = grind (arith, nat_tests) in ap (map (λ c. set_seen c)) (h 0 s (omega arith) same)
    at false e rest = rest

-- the steps behind a cut
at_rest : (steps rest : List StimStep) (n i : ℕ) (blank : StimStep) → rest ≡ drop n steps → slice_index_or rest i blank ≡ slice_index_or steps (n + i) blank
at_rest steps rest n i blank e = ap (λ xs. slice_index_or xs i blank) e ∙ get_or-drop n steps i blank

many_rest : (steps rest : List StimStep) (n : ℕ) → rest ≡ drop n steps → length rest ≡ length steps - n
many_rest steps rest n e = ap length e ∙ length-drop n steps

below_or_behind : (i n : ℕ) → (i < n) ⊎ (n ≤ i)
below_or_behind i n = grind arith

-- none of them sets anything
pub sets_left : (steps rest : List StimStep) (time n t : ℕ) → rest ≡ drop n steps → Splits steps time n → SetNothing rest → time ≤ t → sets_at (map (λ x. step_seen x) steps) t ≡ []
sets_left steps rest time n t e cut nothing lo = none_set steps t (λ i blank l is. at i blank l is (below_or_behind i n))
  where
    at : (i : ℕ) (blank : StimStep) → i < length steps → (slice_index_or steps i blank).time ≡ t → (i < n) ⊎ (n ≤ i) → (slice_index_or steps i blank).sets.items ≡ []
    at i blank l is (inl before) = absurd (let k : (slice_index_or steps i blank).time < time = cut.before i blank before in omega arith)
    at i blank l is (inr behind) =
        let many : length rest ≡ length steps - n = many_rest steps rest n e in
        let j : ℕ = i - n in
        let sum : n + j ≡ i = omega arith in
        ap (λ k. (slice_index_or steps k blank).sets.items) (sym sum) ∙ (ap (λ (s : StimStep). s.sets.items) (sym (at_rest steps rest n j blank e)) ∙ nothing j blank (omega arith))

-- before the first that does nothing is set, and it doesn't come before the cut
first_in : (steps rest : List StimStep) (n first : ℕ) → rest ≡ drop n steps → (f : SetsFirst rest first) → (n + f.place < length steps) × (slice_index_or steps (n + f.place) f.step ≡ f.step)
first_in steps rest n first e f =
    let many : length rest ≡ length steps - n = many_rest steps rest n e in
    let l : f.place < length rest = f.within in
    (omega arith, sym (at_rest steps rest n f.place f.step e) ∙ f.is)

pub first_from : (steps rest : List StimStep) (time n first : ℕ) → rest ≡ drop n steps → Splits steps time n → SetsFirst rest first → time ≤ first
first_from steps rest time n first e cut f =
    let at = first_in steps rest n first e f in
    let l : time ≤ (slice_index_or steps (n + f.place) f.step).time = cut.others (n + f.place) f.step (omega arith) at.0 in
    let is : (slice_index_or steps (n + f.place) f.step).time ≡ first = ap (λ (s : StimStep). s.time) at.1 ∙ f.time_is in
    omega arith

pub sets_between : (steps rest : List StimStep) (time n t first : ℕ) → rest ≡ drop n steps → Rising steps → Splits steps time n → SetsFirst rest first → time ≤ t → t < first → sets_at (map (λ x. step_seen x) steps) t ≡ []
sets_between steps rest time n t first e r cut f lo hi = none_set steps t (λ i blank l is. at i blank l is (below_or_behind i n) (below_or_behind i (n + f.place)))
  where
    here : (n + f.place < length steps) × (slice_index_or steps (n + f.place) f.step ≡ f.step)
    here = first_in steps rest n first e f

    late : (i : ℕ) (blank : StimStep) → i < length steps → n + f.place ≤ i → (i ≡ n + f.place) ⊎ (i ≢ n + f.place) → first ≤ (slice_index_or steps i blank).time
    late i blank l b (inl same) =
        let is : (slice_index_or steps i blank).time ≡ first = ap (λ k. (slice_index_or steps k blank).time) same ∙ (ap (λ (s : StimStep). s.time) (same_in steps (n + f.place) blank f.step here.0 ∙ here.1) ∙ f.time_is) in
        omega arith
    late i blank l b (inr other) =
        let k : (slice_index_or steps (n + f.place) blank).time < (slice_index_or steps i blank).time = r.each (n + f.place) i blank (omega arith) l in
        let is : (slice_index_or steps (n + f.place) blank).time ≡ first = ap (λ (s : StimStep). s.time) (same_in steps (n + f.place) blank f.step here.0 ∙ here.1) ∙ f.time_is in
        omega arith

    at : (i : ℕ) (blank : StimStep) → i < length steps → (slice_index_or steps i blank).time ≡ t → (i < n) ⊎ (n ≤ i) → (i < n + f.place) ⊎ (n + f.place ≤ i) → (slice_index_or steps i blank).sets.items ≡ []
    at i blank l is (inl before) y = absurd (let k : (slice_index_or steps i blank).time < time = cut.before i blank before in omega arith)
    at i blank l is (inr behind) (inl between) =
        let j : ℕ = i - n in
        let sum : n + j ≡ i = omega arith in
        ap (λ k. (slice_index_or steps k blank).sets.items) (sym sum) ∙ (ap (λ (s : StimStep). s.sets.items) (sym (at_rest steps rest n j blank e)) ∙ f.before j blank (omega arith))
    at i blank l is (inr behind) (inr after) = absurd (let k : first ≤ (slice_index_or steps i blank).time = late i blank l after (cases_eq i (n + f.place)) in omega arith)

-- at its time something is set
none_mapped : (sets : List Set) → map (λ c. set_seen c) sets ≡ [] → sets ≡ []
none_mapped [] h = refl
none_mapped (x ∷ xs) h = absurd (let k : set_seen x ∷ map (λ c. set_seen c) xs ≡ [] = h in cc)

pub sets_first : (steps rest : List StimStep) (n first : ℕ) → rest ≡ drop n steps → Rising steps → SetsFirst rest first → sets_at (map (λ x. step_seen x) steps) first ≢ []
sets_first steps rest n first e r f = λ none.
    (let at = first_in steps rest n first e f in
    f.sets (none_mapped f.step.sets.items (sets_found steps first (n + f.place) f.step r at.0 at.1 f.time_is ∙ none)))

-- what the test for no items says, where there are some
pub some_items : {A : Type 0} (xs : List A) (n : ℕ) (b : Bool) → b ≡ (n == 0) → n ≡ length xs → b ≡ false → xs ≢ []
some_items [] n b e l t = λ none.
    (let m : n ≡ 0 = l in
    let k : (n == 0) ≡ true = grind (arith, nat_tests) in
    let f : true ≡ false = sym k ∙ (sym e ∙ t) in
    cc)
some_items (x ∷ xs) n b e l t = λ none. (let k : x ∷ xs ≡ [] = none in cc)

-- a step more sets nothing
pub set_nothing_more : (steps : List StimStep) (n : ℕ) (step : StimStep) → step ≡ slice_index_or steps n step → step.sets.items ≡ [] → n < length steps → ((i : ℕ) (blank : StimStep) → i < n → (slice_index_or steps i blank).sets.items ≡ []) → (i : ℕ) (blank : StimStep) → i < n + 1 → (slice_index_or steps i blank).sets.items ≡ []
set_nothing_more steps n step is none l h i blank m = at (below_or_behind i n)
  where
    at : (i < n) ⊎ (n ≤ i) → (slice_index_or steps i blank).sets.items ≡ []
    at (inl before) = h i blank before
    at (inr same) =
        let e : i ≡ n = omega arith in
        ap (λ k. (slice_index_or steps k blank).sets.items) e ∙ (ap (λ (s : StimStep). s.sets.items) (same_in steps n blank step l ∙ sym is) ∙ none)

-- from what the search for the cut says
pub splits : (steps xs : List StimStep) (time n : ℕ) → xs ≡ steps → n ≤ length xs → AllWithin (λ (s : StimStep). nat_lt s.time time ≡ true) xs 0 n → AllWithin (λ (s : StimStep). nat_lt s.time time ≡ false) xs n (length xs) → Splits steps time n
splits steps xs time n e l before others = subst (λ ys. Splits ys time n) e (record {
  within = l;
  before = λ i blank m. (let k : nat_lt (slice_index_or xs i blank).time time ≡ true = before i blank (omega arith) m in grind (arith, nat_tests));
  others = λ i blank lo hi. (let k : nat_lt (slice_index_or xs i blank).time time ≡ false = others i blank lo hi in grind (arith, nat_tests));
})

pub are_partitioned : (steps xs : List StimStep) → xs ≡ steps → Rising steps → (time : ℕ) → IsPartitionedBy (λ (s : StimStep). nat_lt s.time time) xs
are_partitioned steps xs e r time = subst (λ ys. IsPartitionedBy (λ (s : StimStep). nat_lt s.time time) ys) (sym e) (partitioned steps r time)
